-- A verdict stage by stage, and that there is one. Assumes nothing.
use Prim.Native.Nat.{ℕ, ◌+◌, ◌≤◌, ◌<◌}
use native.Mathlib.Nat.{le_antisymm}
use native.Mathlib.Omega.{arith}
use mathlib.Core.Path.{◌≡◌, refl, sym, subst}
use Rattle.asked.specs.Lowest.{Lowest, Clear, Verdict, accepted, objected, Stage}
use Rattle.asked.proofs.Rows.{not-lt, none_more, same_or}

module _ (A : ℕ → ℕ → Type 0) where
  -- an objection that applies at no place
  pub clear-more : (k : ℕ) → Clear A k → ((p : ℕ) → A k p → ⊥) → Clear A (k + 1)
  clear-more k c f = none_more (λ j. (p : ℕ) × A j p) k c (λ x. f x.0 x.1)

  -- an objection of rows below n: the lowest at which it applies, or none
  pub hit : (m k n p : ℕ) (P : ℕ → Type 0) → k < m → Lowest P n p → p < n → ((q : ℕ) → A k q → (q < n) × P q) → ((q : ℕ) → (q < n) × P q → A k q) → Clear A k → Verdict A m k p
  hit m k n p P h L l f g c = objected k p h (g p (l, L.here l)) c (λ q i a. L.none q i (f q a).1)

  pub miss : (k n p : ℕ) (P : ℕ → Type 0) → Lowest P n p → n ≤ p → ((q : ℕ) → A k q → (q < n) × P q) → Clear A k → Clear A (k + 1)
  miss k n p P L h f c = clear-more k c (λ q a. let x = f q a in L.none q (omega (arith, x.0)) x.1)

  -- what a stage says
  pub stops : (m from to k p number place : ℕ) → number ≡ k → place ≡ p → 0 < k → (Clear A from → Verdict A m k p) → Stage A m from to number place
  stops m from to k p number place e f h v =
      record { passed = λ z. absurd (omega arith); place_0 = λ z. absurd (omega arith); stopped = λ _ c. subst (λ x. Verdict A m number x) (sym f) (subst (λ x. Verdict A m x p) (sym e) (v c)) }

  pub passes : (m from to number place : ℕ) → number ≡ 0 → place ≡ 0 → (Clear A from → Clear A to) → Stage A m from to number place
  passes m from to number place e z f = record { passed = λ _. f; place_0 = λ _. z; stopped = λ ne. absurd (ne e) }

  -- a stage after a stage that passed
  pub stage-on : (m from mid to number place number' place' : ℕ) → Stage A m from mid number place → number ≡ 0 → Stage A m mid to number' place' → Stage A m from to number' place'
  stage-on m from mid to number place number' place' S z T = record { passed = λ e c. T.passed e (S.passed z c); place_0 = T.place_0; stopped = λ ne c. T.stopped ne (S.passed z c) }

  -- a stage that stopped stops all
  pub stage-off : (m from mid to number place : ℕ) → Stage A m from mid number place → (number ≡ 0 → ⊥) → Stage A m from to number place
  stage-off m from mid to number place S ne = record { passed = λ e. absurd (ne e); place_0 = λ e. absurd (ne e); stopped = S.stopped }

  -- what all stages say is the verdict
  pub stage-verdict : (m from number place : ℕ) → Stage A m from m number place → Clear A from → Verdict A m number place
  stage-verdict m from number place S c =
      same_or number 0
      (λ e. subst (λ (x : ℕ). Verdict A m number x) (sym (S.place_0 e)) (subst (λ (x : ℕ). Verdict A m x 0) (sym e) (accepted (S.passed e c))))
      (λ ne. S.stopped ne c)

  -- the verdict is one
  pub verdict-one : (m k p j q : ℕ) → ((r : ℕ) → A 0 r → ⊥) → Verdict A m k p → Verdict A m j q → (k ≡ j) × (p ≡ q)
  verdict-one m k p j q z (accepted c) (accepted e) = (refl, refl)
  verdict-one m k p j q z (accepted c) (objected _ _ h a b f) = absurd (c j h (q, a))
  verdict-one m k p j q z (objected _ _ h a b f) (accepted c) = absurd (c k h (p, a))
  verdict-one m k p j q z (objected _ _ h a b f) (objected _ _ i c d g) =
      let e : k ≡ j = le_antisymm (not-lt j k (λ l. b j l (q, c))) (not-lt k j (λ l. d k l (p, a))) in
      (e, le_antisymm (not-lt q p (λ l. f q l (subst (λ x. A x q) (sym e) c))) (not-lt p q (λ l. g p l (subst (λ x. A x p) e a))))

  -- accepted is 0, and nothing else is
  pub verdict-clear : (m k p : ℕ) → ((r : ℕ) → A 0 r → ⊥) → Verdict A m k p → k ≡ 0 → Clear A m
  verdict-clear m k p z (accepted c) e = c
  verdict-clear m k p z (objected _ _ h a b f) e = absurd (z p (subst (λ x. A x p) e a))

-- two tables of objections that say the same below m have one verdict
module _ (A B : ℕ → ℕ → Type 0) (m : ℕ) (to : (k p : ℕ) → k < m → A k p → B k p) (back : (k p : ℕ) → k < m → B k p → A k p) where
  pub clear-like : (j : ℕ) → j ≤ m → Clear A j → Clear B j
  clear-like j l c k h x = c k h (x.0, back k x.0 (omega arith) x.1)

  pub verdict-like : (k p : ℕ) → Verdict A m k p → Verdict B m k p
  verdict-like k p (accepted c) = accepted (clear-like m (omega arith) c)
  verdict-like k p (objected _ _ h a b f) = objected k p h (to k p h a) (clear-like k (omega arith) b) (λ q l x. f q l (back k q h x))

pub stage-like : (A B : ℕ → ℕ → Type 0) (m : ℕ) → ((k p : ℕ) → k < m → A k p → B k p) → ((k p : ℕ) → k < m → B k p → A k p) → (from to number place : ℕ) → from ≤ m → to ≤ m → Stage A m from to number place → Stage B m from to number place
stage-like A B m there back from to number place h k S =
    record {
      place_0 = S.place_0;
      passed = λ e c. clear-like A B m there back to k (S.passed e (clear-like B A m back there from h c));
      stopped = λ ne c. verdict-like A B m there back number place (S.stopped ne (clear-like B A m back there from h c));
    }
