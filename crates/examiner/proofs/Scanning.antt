-- The scan of the sides in their order for two that are left over. Assumes nothing.
use Prim.Native.Nat.{ℕ, ◌+◌, ◌≤◌, ◌<◌, min, max}
use native.Mathlib.Nat.{eq-or-lt_of_le}
use native.Mathlib.Omega.{arith}
use mathlib.Core.Path.{◌≡◌, refl, sym, subst, ap, ◌∙◌}
use mathlib.Core.List.{List}
use mathlib.Core.Logic.{⊎_elim}
use Rattle.neighbors.specs.Sides.{end_row}
use Rattle.neighbors.proofs.Mates.{same_end, start-end, end-start}
use Rattle.asked.specs.Lowest.{Lowest}
use Rattle.asked.specs.Links.{Equal, link_word, Opposed, LeftOver}
use Rattle.examiner.specs.Scan.{FreeIn, OrderOf, RunOf, FirstOf, nothing, side, ScannedTo}

-- the last place, or an earlier one
earlier-or : (P : ℕ → Type 0) (a c : ℕ) → c < a + 1 → P a → (c < a → P c) → P c
earlier-or P a c l last before = let k : c ≤ a = omega arith in ⊎_elim (λ e. subst P (sym e) last) before (eq-or-lt_of_le k)

-- ---- two ends

crossed-min : (x y x' y' : ℕ) → x ≡ y' → y ≡ x' → min x y ≡ min x' y'
crossed-min x y x' y' p q = omega arith

crossed-max : (x y x' y' : ℕ) → x ≡ y' → y ≡ x' → max x y ≡ max x' y'
crossed-max x y x' y' p q = omega arith

module _ (n : ℕ) (vertex : ℕ → ℕ) (L : List ℕ) (E X : ℕ → ℕ) where
  abbrev Free : ℕ → Type 0
  Free = FreeIn L

  abbrev Order : Type 0
  Order = OrderOf n vertex E X

  abbrev Run : ℕ → ℕ → Type 0
  Run = RunOf L E X

  abbrev FirstIs : ℕ → ℕ → Type 0
  FirstIs = FirstOf n L E X

  abbrev pub Scanned : ℕ → ℕ → ℕ → Type 0
  Scanned = ScannedTo n vertex L E X

  pub scanned-none : Scanned 0 n n
  scanned-none = record { first_is = nothing refl (λ c h f. omega arith); low = omega arith; here = λ h. absurd (omega arith); least = λ c e h k f g o. absurd (omega arith) }

  module _ (O : Order) where
    -- opposed sides have equal ends
    level : (r s : ℕ) → r < n → s < n → Opposed (Equal vertex) r s → E r ≡ E s
    level r s h k o = O.equal r s h k (crossed-min (vertex r) (vertex (end_row r)) (vertex s) (vertex (end_row s)) o.0 o.1) (crossed-max (vertex r) (vertex (end_row r)) (vertex s) (vertex (end_row s)) o.0 o.1)

    opposed-back : (r s : ℕ) → Opposed (Equal vertex) r s → Opposed (Equal vertex) s r
    opposed-back r s o = (sym o.1, sym o.0)

    -- equal ends and another start: opposed
    opposed-by : (r s : ℕ) → r < n → s < n → E r ≡ E s → (vertex r ≡ vertex s → ⊥) → Opposed (Equal vertex) r s
    opposed-by r s h k e ne =
        let l = O.lower r s h k e in
        let u = O.higher r s h k e in
        let p = start-end (vertex r) (vertex (end_row r)) (vertex s) (vertex (end_row s)) l u ne in
        (p, end-start (vertex r) (vertex (end_row r)) (vertex s) (vertex (end_row s)) l u p)

    -- what is opposed to a side is opposed to one with equal ends and the same start
    opposed-too : (q r s : ℕ) → r < n → s < n → E r ≡ E s → vertex r ≡ vertex s → Opposed (Equal vertex) q r → Opposed (Equal vertex) q s
    opposed-too q r s h k e v o =
        let z = same_end (vertex r) (vertex (end_row r)) (vertex s) (vertex (end_row s)) (O.lower r s h k e) (O.higher r s h k e) v in
        (o.0 ∙ z, o.1 ∙ v)

    -- no side is opposed to itself
    not-self : (r : ℕ) → r < n → Opposed (Equal vertex) r r → ⊥
    not-self r h o = O.sharp r h o.0

    -- the pairs of one place more: those of it with an earlier one, both ways
    pairs-more : (a best : ℕ) → a < n → ((c e : ℕ) → c < a → e < a → Free (X c) → Free (X e) → Opposed (Equal vertex) (X c) (X e) → best ≤ X c)
        → ((c : ℕ) → c < a → Free (X c) → Free (X a) → Opposed (Equal vertex) (X c) (X a) → (best ≤ X c) × (best ≤ X a))
        → (c e : ℕ) → c < a + 1 → e < a + 1 → Free (X c) → Free (X e) → Opposed (Equal vertex) (X c) (X e) → best ≤ X c
    pairs-more a best h old new c e l k =
        earlier-or (λ c. Free (X c) → Free (X e) → Opposed (Equal vertex) (X c) (X e) → best ≤ X c) a c l
        (earlier-or (λ e. Free (X a) → Free (X e) → Opposed (Equal vertex) (X a) (X e) → best ≤ X a) a e k
        (λ f g o. absurd (not-self (X a) (O.below a h) o))
        (λ j f g o. (new e j g f (opposed-back (X a) (X e) o)).1))
        (λ i. earlier-or (λ e. Free (X c) → Free (X e) → Opposed (Equal vertex) (X c) (X e) → best ≤ X c) a e k
        (λ f g o. (new c i f g o).0)
        (λ j f g o. old c e i j f g o))

    -- the turns of place a, where the side there is r

    module _ (a first best r : ℕ) (h : a < n) (x : r ≡ X a) (S : Scanned a first best) where
      below-r : r < n
      below-r = subst (λ y. y < n) (sym x) (O.below a h)

      -- it is linked
      pub turn-linked : (Free r → ⊥) → Scanned (a + 1) first best
      turn-linked ne =
          record {
            first_is = go S.first_is;
            low = S.low;
            here = S.here;
            least = pairs-more a best h S.least (λ c l f g o. absurd (not_free g));
          }
        where
          not_free : Free (X a) → ⊥
          not_free g = ne (ap (link_word L) x ∙ g)

          go : FirstIs a first → FirstIs (a + 1) first
          go (nothing e f) = nothing e (λ c l g. earlier-or (λ c. Free (X c) → ⊥) a c l not_free (λ k. f c k) g)
          go (side l R) =
              side l
              (record {
                is_free = R.is_free;
                spot = R.spot;
                before = let b = R.before in omega arith;
                is = R.is;
                top = λ c k. earlier-or (λ c. Free (X c) → E (X c) ≤ E first) a c k (λ g. absurd (not_free g)) (λ j. R.top c j);
                least = λ c k. earlier-or (λ c. Free (X c) → E (X c) ≡ E first → first ≤ X c) a c k (λ g. absurd (not_free g)) (λ j. R.least c j);
              })

      -- it starts a run
      start-run : Free r → ((c : ℕ) → c < a → Free (X c) → E (X c) < E r) → Scanned (a + 1) r best
      start-run g lower =
          record {
            first_is = side below-r
                (record {
                  is_free = g;
                  spot = a;
                  before = omega arith;
                  is = sym x;
                  top = λ c k. earlier-or (λ c. Free (X c) → E (X c) ≤ E r) a c k (λ f. let e = ap E x in omega arith) (λ j f. let b = lower c j f in omega arith);
                  least = λ c k. earlier-or (λ c. Free (X c) → E (X c) ≡ E r → r ≤ X c) a c k (λ f e. omega arith) (λ j f e. let b = lower c j f in absurd (omega arith));
                });
            low = S.low;
            here = S.here;
            least = pairs-more a best h S.least
                (λ c l f g o. let b = lower c l f in let e = level (X c) (X a) (O.below c (omega arith)) (O.below a h) o in let y = ap E x in absurd (omega arith));
          }

      pub turn-first : Free r → first ≡ n → Scanned (a + 1) r best
      turn-first g e = start-run g (go S.first_is)
        where
          go : FirstIs a first → (c : ℕ) → c < a → Free (X c) → E (X c) < E r
          go (nothing z f) c l k = absurd (f c l k)
          go (side z R) c l k = absurd (omega arith)

      pub turn-next : Free r → first < n → (E first ≡ E r → ⊥) → Scanned (a + 1) r best
      turn-next g l ne = start-run g (go S.first_is)
        where
          go : FirstIs a first → (c : ℕ) → c < a → Free (X c) → E (X c) < E r
          go (nothing z f) c k j = absurd (f c k j)
          go (side z R) c k j =
              let t = R.top c k j in
              let u = O.rises R.spot a R.before h in
              let p = ap E R.is in
              let q = ap E x in
              omega arith

      -- it is in the run of the first
      in-run : Run a first → first < n → E first ≡ E r → Free r → (best' : ℕ) → best' ≤ n → (best' < n → LeftOver n (Equal vertex) L best') → best' ≤ best → ((c : ℕ) → c < a → Free (X c) → Free (X a) → Opposed (Equal vertex) (X c) (X a) → best' ≤ first) → Scanned (a + 1) first best'
      in-run R l e g best' low here less new =
          record {
            first_is = side l
                (record {
                  is_free = R.is_free;
                  spot = R.spot;
                  before = let b = R.before in omega arith;
                  is = R.is;
                  top = λ c k. earlier-or (λ c. Free (X c) → E (X c) ≤ E first) a c k (λ f. let y = ap E x in omega arith) (λ j. R.top c j);
                  least = λ c k. earlier-or (λ c. Free (X c) → E (X c) ≡ E first → first ≤ X c) a c k (λ f z. at_most) (λ j. R.least c j);
                });
            low = low;
            here = here;
            least = pairs-more a best' h (λ c e l k f g o. let b = S.least c e l k f g o in omega arith)
                (λ c k f z o.
                let b = new c k f z o in
                let m = at_most in
                let y = ap E x in
                let q = R.least c k f (level (X c) (X a) (O.below c (omega arith)) (O.below a h) o ∙ (sym y ∙ sym e)) in
                (omega arith, omega arith));
          }
        where
          at_most : first ≤ X a
          at_most = let s = O.steps R.spot a R.before h (ap E R.is ∙ (e ∙ ap E x)) in let p = R.is in omega arith

      pub turn-alike : Run a first → first < n → E first ≡ E r → Free r → vertex first ≡ vertex r → Scanned (a + 1) first best
      turn-alike R l e g v =
          in-run R l e g best S.low S.here (omega arith)
          (λ c k f z o.
          let w = opposed-too (X c) (X a) (X R.spot) (O.below a h) (O.below R.spot (let b = R.before in omega arith)) (sym (ap E x) ∙ (sym e ∙ sym (ap E R.is))) (ap vertex (sym x) ∙ (sym v ∙ ap vertex (sym R.is))) o in
          let b = S.least R.spot c R.before k (ap (link_word L) R.is ∙ R.is_free) f (opposed-back (X c) (X R.spot) w) in
          let p = R.is in
          omega arith)

      -- it is opposed to the first, which is the lowest that is left over, or is not
      pub turn-lower : Run a first → first < n → E first ≡ E r → Free r → (vertex first ≡ vertex r → ⊥) → first ≤ best → Scanned (a + 1) first first
      turn-lower R l e g v m =
          in-run R l e g first (omega arith)
          (λ k. record { far = r; below = below-r; near_free = R.is_free; far_free = g; opposed = opposed-by first r l below-r e v })
          m (λ c k f z o. omega arith)

      pub turn-kept : Run a first → first < n → E first ≡ E r → Free r → best ≤ first → Scanned (a + 1) first best
      turn-kept R l e g m = in-run R l e g best S.low S.here (omega arith) (λ c k f z o. m)

    -- all of them: the lowest side that is left over
    pub scanned-all : (first best : ℕ) → Scanned n first best → Lowest (LeftOver n (Equal vertex) L) n best
    scanned-all first best S =
        record {
          low = S.low;
          none = λ r l p.
              let y = S.low in
              let a = O.found r (omega arith) in
              let c = O.found p.far p.below in
              let b = S.least a.0 c.0 a.1 c.1 (ap (link_word L) a.2 ∙ p.near_free) (ap (link_word L) c.2 ∙ p.far_free)
              (ap vertex a.2 ∙ (p.opposed.0 ∙ ap (λ q. vertex (end_row q)) (sym c.2)), ap (λ q. vertex (end_row q)) a.2 ∙ (p.opposed.1 ∙ ap vertex (sym c.2))) in
              let z = a.2 in
              omega arith;
          here = S.here;
        }
