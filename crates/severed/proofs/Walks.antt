-- What a walk marks: all that chains of the group lead to from its first member, so that 'all are marked' and 'connected' are one. Assumes nothing.
use Prim.Native.Nat.{ℕ, ◌+◌, ◌*◌, ◌≤◌, ◌<◌}
use native.Mathlib.Nat.{eq-or-lt_of_le}
use native.Mathlib.Omega.{arith}
use mathlib.Core.Path.{◌≡◌, refl, sym, subst, ap, ◌∙◌}
use mathlib.Core.Bool.{Bool, true, false, not}
use mathlib.Core.List.{List}
use mathlib.Core.Logic.{⊎_elim}
use Rattle.asked.specs.Lowest.{None, Lowest}
use Rattle.asked.specs.Links.{Equal, LinksFit}
use Rattle.asked.specs.Groups.{group_word, Together, Way, Chain, here, on, Severed}
use Rattle.severed.specs.Walk.{Adds, NextIs, Comes, Going, Walked}
use Rattle.asked.proofs.Rows.{same_or}
use Rattle.asked.proofs.Ways.{way_in, way_back, way-one, together-back, together-on, chain-on, chain_back, closed-chain}

module _ (n : ℕ) (vertex : ℕ → ℕ) (L G : List ℕ) (F : LinksFit (3 * n) (Equal vertex) L) where
  -- ---- one step: x is marked, and y is next
  module _ (M₀ M N X : ℕ → Type 0) (b : Bool) (f x y : ℕ) (h : x < 3 * n) (A : Adds M N x) (Y : NextIs n L G N b x y) (K : Going n L G M₀ M X b f x) where
    came : Comes n L G M b f x
    came = K.from h

    with-x : Together G f x
    with-x = together-on G f came.member x came.with_first came.together

    pub going_on : Going n L G M₀ N X b f y
    going_on =
        record {
          kept = λ q m. A.keeps q (K.kept q m);
          other = λ q m t. K.other q (A.only q (λ e. t (subst (Together G f) (sym e) with-x)) m) t;
          first = A.keeps f K.first;
          ahead = λ q p k m t w u ne.
              same_or q x
              (λ e. Y.ahead p (subst (λ z. Way L b z p) e w) (subst (λ z. Together G z p) e u) ne)
              (λ d. same_or p x (λ e. subst N (sym e) A.adds) (λ c. A.keeps p (K.ahead q p k (A.only q d m) t w u c)));
          behind = λ q p k m t z w u.
              same_or q x
              (λ e. subst N (way-one L (not b) x came.member p (way_back n (Equal vertex) L F b came.member x came.below came.way) (subst (λ z. Way L (not b) z p) e w)) (A.keeps came.member came.is-marked))
              (λ d. A.keeps p (K.behind q p k (A.only q d m) t z w u));
          from = λ l. record { member = x; below = h; is-marked = A.adds; with_first = with-x; way = Y.way l; together = Y.together l };
          chains = λ q k m t.
              same_or q x
              (λ e. subst (Chain n L G f) (sym e) (on b came.member x (K.chains came.member came.below came.is-marked came.with_first) came.below came.way came.together))
              (λ d. K.chains q k (A.only q d m) t);
        }

  -- ---- one group

  -- the first is marked, of a group of which none was: the walk begins one way; the other way is still to go from it
  pub going-first : (M M' X : ℕ → Type 0) (f y : ℕ) → X f → f < 3 * n → (group_word G f ≡ 0 → ⊥) → ((q : ℕ) → q < 3 * n → M q → Together G f q → ⊥) → Adds M M' f → NextIs n L G M' false f y → Going n L G M M' X false f y
  going-first M M' X f y xf h g none A Y =
      record {
        kept = A.keeps;
        other = λ q m t. A.only q (λ e. t (subst (Together G f) (sym e) self)) m;
        first = A.adds;
        ahead = λ q p k m t w u ne. let e = lone q k m t in Y.ahead p (subst (λ z. Way L false z p) e w) (subst (λ z. Together G z p) e u) ne;
        behind = λ q p k m t z w u. absurd (z (subst X (sym (lone q k m t)) xf));
        from = λ l. record { member = f; below = h; is-marked = A.adds; with_first = self; way = Y.way l; together = Y.together l };
        chains = λ q k m t. subst (Chain n L G f) (sym (lone q k m t)) here;
      }
    where
      self : Together G f f
      self = record { same = refl; some = g }

      lone : (q : ℕ) → q < 3 * n → M' q → Together G f q → q ≡ f
      lone q k m t = same_or q f (λ e. e) (λ d. absurd (none q k (A.only q d m) t))

  -- the one way is done: the other way from the first
  pub going-back : (M₀ M X Y : ℕ → Type 0) (f x y : ℕ) → ((q : ℕ) → X q → q ≡ f) → f < 3 * n → (group_word G f ≡ 0 → ⊥) → 3 * n ≤ x → Going n L G M₀ M X false f x → NextIs n L G M true f y → Going n L G M₀ M Y true f y
  going-back M₀ M X Z f x y only h g l K Y =
      record {
        kept = K.kept;
        other = K.other;
        first = K.first;
        ahead = λ q p k m t w u ne.
            same_or q f
            (λ e. Y.ahead p (subst (λ z. Way L true z p) e w) (subst (λ z. Together G z p) e u) ne)
            (λ d. K.behind q p k m t (λ x. d (only q x)) w u);
        behind = λ q p k m t z w u. K.ahead q p k m t w u (λ e. let i = way_in n (Equal vertex) L F false q p k w in omega arith);
        from = λ z. record { member = f; below = h; is-marked = K.first; with_first = record { same = refl; some = g }; way = Y.way z; together = Y.together z };
        chains = K.chains;
      }

  -- ---- all groups

  pub walked_none : (M : ℕ → Type 0) → ((q : ℕ) → q < 3 * n → M q → ⊥) → Walked n L G M 0
  walked_none M none = record { closed = λ b q p k m w u. absurd (none q k m); one = λ q e h k m. absurd (none q h m); done = λ q l. absurd (omega arith); begun = λ q h m z. none q h m }

  -- a row that is in no group or marked
  pub walked-pass : (M : ℕ → Type 0) (r : ℕ) → Walked n L G M r → ((group_word G r ≡ 0 → ⊥) → M r) → Walked n L G M (r + 1)
  walked-pass M r W m =
      record {
        closed = W.closed;
        one = W.one;
        done = λ q l g. let k : q ≤ r = omega arith in ⊎_elim (λ e. subst M (sym e) (m (λ z. g (ap (group_word G) e ∙ z)))) (λ j. W.done q j g) (eq-or-lt_of_le k);
        begun = λ q h m z. W.begun q h m (λ e l t. z e (omega arith) t);
      }

  -- a group has been walked both ways
  pub walked_more : (M₀ M X : ℕ → Type 0) (f x : ℕ) → ((q : ℕ) → X q → ⊥) → f < 3 * n → (group_word G f ≡ 0 → ⊥) → 3 * n ≤ x → Going n L G M₀ M X true f x → Walked n L G M₀ f → Walked n L G M (f + 1)
  walked_more M₀ M X f x no-x h g l K W =
      record {
        closed = λ b q p k m w u. in_group q (λ t. leaves b q p k m t w u) (λ s. K.kept p (W.closed b q p k (K.other q m s) w u));
        one = λ q e k j m i t.
            in_group q
            (λ s. chain-on n L G q f e (chain_back n L G (Equal vertex) F f q h (K.chains q k m s)) (K.chains e j i (together-on G f q e s t)))
            (λ s. W.one q e k j (K.other q m s) (K.other e i (λ u. s (together-on G f e q u (together-back G q e t)))) t);
        done = λ q l z. let k : q ≤ f = omega arith in ⊎_elim (λ e. subst M (sym e) K.first) (λ j. K.kept q (W.done q j z)) (eq-or-lt_of_le k);
        begun = λ q k m z. in_group q (λ t. z f (omega arith) t) (λ s. W.begun q k (K.other q m s) (λ e i t. z e (omega arith) t));
      }
    where
      in_group : {P : Type 0} (q : ℕ) → (Together G f q → P) → ((Together G f q → ⊥) → P) → P
      in_group q a b = same_or (group_word G f) (group_word G q) (λ e. a (record { same = e; some = g })) (λ d. b (λ t. d t.same))

      leaves : (b : Bool) (q p : ℕ) → q < 3 * n → M q → Together G f q → Way L b q p → Together G q p → M p
      leaves true q p k m t w u = K.ahead q p k m t w u (λ e. let i = way_in n (Equal vertex) L F true q p k w in omega arith)
      leaves false q p k m t w u = K.behind q p k m t (no-x q) w u

  -- ---- the verdict

  -- an unmarked corner with a fellow below it is severed, and is the lowest
  pub walked-severed : (M : ℕ → Type 0) (r e : ℕ) → r < 3 * n → Walked n L G M r → (M r → ⊥) → e < r → Together G e r → Lowest (Severed n L G) (3 * n) r
  walked-severed M r e h W ne l t =
      record {
        low = omega arith;
        none = λ q k s. s.severed (W.one s.fellow q (let z = s.earlier in omega arith) (omega arith) (W.done s.fellow (let z = s.earlier in omega arith) s.together.some) (W.done q k (together-back G s.fellow q s.together).some) s.together);
        here = λ _. record { fellow = e; earlier = l; together = t; severed = λ c. ne (closed-chain n L G M W.closed e r (W.done e l t.some) c) };
      }

  -- all rows walked: none is severed, and every group is connected
  pub walked_all : (M : ℕ → Type 0) (r : ℕ) → 3 * n ≤ r → Walked n L G M r → (q e : ℕ) → q < 3 * n → e < 3 * n → Together G q e → Chain n L G q e
  walked_all M r l W q e h k t = W.one q e h k (W.done q (omega arith) t.some) (W.done e (omega arith) (together-back G q e t).some) t

  -- 'connected' and 'none is severed' are one
  pub connected-none : ((q e : ℕ) → q < 3 * n → e < 3 * n → Together G q e → Chain n L G q e) → None (Severed n L G) (3 * n)
  connected-none c r h s = s.severed (c s.fellow r (let z = s.earlier in omega arith) h s.together)
