-- The number that is computed for each face is the one that the chains say. Assumes nothing.
use Prim.Native.Nat.{ℕ, suc, ◌≤◌, ◌<◌, min, max}
use native.Mathlib.Decide.{dec_lt}
use native.Mathlib.Omega.{arith}
use mathlib.Core.Path.{◌≡◌, refl, sym, ap, subst}
use mathlib.Core.Bool.{Bool, true, false, cond}
use mathlib.Core.List.{List}
use lib.Dec.{eqb}
use lib.ListN.{length}
use borrow.Author.Tests.{eq-eqb, eqb-true}
use Rattle.definition.specs.declared.Corner.{Corner}
use Rattle.lists.proofs.Loops.{up_to-ind}
use Rattle.islands.specs.Islands.{touches, Chain, alone, counted, no_island, Given, lowest, other, merge, unite, unite_all, lowest_of, island_of}
use Rattle.islands.proofs.Chains.{Right, right-lowest, touches-counted, touches-sym, counted-below, chain-join, chain-one, chain-sym}

-- ---- merging two numbers

-- either a is the higher and b the lower, or the other way
ends : (P : ℕ → ℕ → Type 0) (a b : ℕ) → P a b → P b a → P (max a b) (min a b)
ends P a b x y = go (dec_lt a b)
  where
    go : Dec (a < b) → P (max a b) (min a b)
    go (yes h) = let e : b ≡ max a b = omega arith in let k : a ≡ min a b = omega arith in subst (λ n. P n (min a b)) e (subst (λ n. P b n) k y)
    go (no h) = let e : a ≡ max a b = omega arith in let k : b ≡ min a b = omega arith in subst (λ n. P n (min a b)) e (subst (λ n. P a n) k x)

-- the two have one number afterwards
both-merged : (a b : ℕ) → cond (eqb a (max a b)) (min a b) a ≡ cond (eqb b (max a b)) (min a b) b
both-merged a b = go (dec_lt a b)
  where
    one : (t : Bool) → cond t a a ≡ a
    one true = refl
    one false = refl

    other-one : (t : Bool) → b ≡ cond t b b
    other-one true = refl
    other-one false = refl

    go : Dec (a < b) → cond (eqb a (max a b)) (min a b) a ≡ cond (eqb b (max a b)) (min a b) b
    go (yes h) = let e : max a b ≡ b = omega arith in let k : min a b ≡ a = omega arith in rw (e, k, eq-eqb b b refl) (one (eqb a b))
    go (no h) = let e : max a b ≡ a = omega arith in let k : min a b ≡ b = omega arith in rw (e, k, eq-eqb a a refl) (other-one (eqb b a))

-- ---- what holds at each point

-- so far: no number is above its face's, and a chain leads to it
record Sofar (m : List (List Corner)) (l : ℕ → ℕ) : Type 0 where
  low : (x : ℕ) → l x ≤ x
  joined : (x : ℕ) → Chain m x (l x)

less : (a b : ℕ) → min a b ≤ max a b
less a b = omega arith

module _ (m : List (List Corner)) where
  merge_low : (a b : ℕ) (l : ℕ → ℕ) → Sofar m l → (x : ℕ) (t : Bool) → eqb (l x) (max a b) ≡ t → cond t (min a b) (l x) ≤ x
  merge_low a b l s x true e = let q = eqb-true (l x) (max a b) e in omega (arith, q, s.low x, less a b)
  merge_low a b l s x false e = s.low x

  merge-joined : (a b : ℕ) (l : ℕ → ℕ) → Sofar m l → Chain m (max a b) (min a b) → (x : ℕ) (t : Bool) → eqb (l x) (max a b) ≡ t → Chain m x (cond t (min a b) (l x))
  merge-joined a b l s c x true e = chain-join m (s.joined x) (subst (λ n. Chain m n (min a b)) (sym (eqb-true (l x) (max a b) e)) c)
  merge-joined a b l s c x false e = s.joined x

  merge-sofar : (a b : ℕ) (l : ℕ → ℕ) → Sofar m l → Chain m a b → Sofar m (merge a b l)
  unfolding merge
  merge-sofar a b l s c = record {
    low = λ x. merge_low a b l s x (eqb (l x) (max a b)) refl;
    joined = λ x. merge-joined a b l s (ends (λ n k. Chain m n k) a b c (chain-sym m c)) x (eqb (l x) (max a b)) refl;
  }

  -- faces that have one number keep one number
  merge_keeps : (a b : ℕ) (l : ℕ → ℕ) (x y : ℕ) → l x ≡ l y → merge a b l x ≡ merge a b l y
  unfolding merge
  merge_keeps a b l x y e = ap (λ n. cond (eqb n (max a b)) (min a b) n) e

  merge-makes : (l : ℕ → ℕ) (f g : ℕ) → merge (l f) (l g) l f ≡ merge (l f) (l g) l g
  unfolding merge
  merge-makes l f g = both-merged (l f) (l g)

  -- ---- the turns

  unite-sofar : (f g : ℕ) (l : ℕ → ℕ) → Sofar m l → (t : Bool) → touches m f g ≡ t → Sofar m (cond t (merge (l f) (l g) l) l)
  unite-sofar f g l s true e = merge-sofar (l f) (l g) l s (chain-join m (chain-sym m (s.joined f)) (chain-join m (chain-one m f g e) (s.joined g)))
  unite-sofar f g l s false e = s

  unite-keeps : (f g : ℕ) (l : ℕ → ℕ) (x y : ℕ) → l x ≡ l y → (t : Bool) → cond t (merge (l f) (l g) l) l x ≡ cond t (merge (l f) (l g) l) l y
  unite-keeps f g l x y e true = merge_keeps (l f) (l g) l x y e
  unite-keeps f g l x y e false = e

  unite-makes : (f g : ℕ) (l : ℕ → ℕ) → touches m f g ≡ true → unite m f g l f ≡ unite m f g l g
  unfolding unite
  unite-makes f g l e = rw e (merge-makes l f g)

  unite-holds : (f g : ℕ) (l : ℕ → ℕ) → Sofar m l → Sofar m (unite m f g l)
  unfolding unite
  unite-holds f g l s = unite-sofar f g l s (touches m f g) refl

  unite-stays : (f g : ℕ) (l : ℕ → ℕ) (x y : ℕ) → l x ≡ l y → unite m f g l x ≡ unite m f g l y
  unfolding unite
  unite-stays f g l x y e = unite-keeps f g l x y e (touches m f g)

  -- after n of the faces before f
  record Row (f n : ℕ) (l u : ℕ → ℕ) : Type 0 where
    sofar : Sofar m u
    keeps : (x y : ℕ) → l x ≡ l y → u x ≡ u y
    makes : (g : ℕ) → g < n → touches m f g ≡ true → u f ≡ u g

  row_more : (f n : ℕ) (l u : ℕ → ℕ) → Row f n l u → Row f (suc n) l (unite m f n u)
  row_more f n l u r = record {
    sofar = unite-holds f n u r.sofar;
    keeps = λ x y e. unite-stays f n u x y (r.keeps x y e);
    makes = λ g h t. go g t (dec_lt g n) h;
  }
    where
      go : (g : ℕ) → touches m f g ≡ true → Dec (g < n) → g < suc n → unite m f n u f ≡ unite m f n u g
      go g t (yes k) h = unite-stays f n u f g (r.makes g k t)
      go g t (no k) h = let e : g ≡ n = omega arith in subst (λ i. unite m f n u f ≡ unite m f n u i) (sym e) (unite-makes f n u (subst (λ i. touches m f i ≡ true) e t))

  row-all : (f : ℕ) (l : ℕ → ℕ) → Sofar m l → Row f f l (unite_all m f l)
  unfolding unite_all
  row-all f l s = up_to-ind (λ n u. Row f n l u) (unite m f) l f (record { sofar = s; keeps = λ x y e. e; makes = λ g h t. absurd (omega arith) }) (λ i u h r. row_more f i l u r)

  -- after n faces
  record Whole (n : ℕ) (u : ℕ → ℕ) : Type 0 where
    sofar : Sofar m u
    makes : (f g : ℕ) → f < n → g < f → touches m f g ≡ true → u f ≡ u g

  whole-more : (n : ℕ) (u : ℕ → ℕ) → Whole n u → Whole (suc n) (unite_all m n u)
  whole-more n u w = let r = row-all n u w.sofar in record { sofar = r.sofar; makes = λ f g h k t. go r f g h k t (dec_lt f n) }
    where
      go : Row n n u (unite_all m n u) → (f g : ℕ) → f < suc n → g < f → touches m f g ≡ true → Dec (f < n) → unite_all m n u f ≡ unite_all m n u g
      go r f g h k t (yes l) = r.keeps f g (w.makes f g l k t)
      go r f g h k t (no l) = let e : f ≡ n = omega arith in subst (λ i. unite_all m n u i ≡ unite_all m n u g) (sym e) (r.makes g (omega arith) (subst (λ i. touches m i g ≡ true) e t))

  whole : Whole (length m) (lowest_of m)
  unfolding lowest_of
  whole = up_to-ind (λ n u. Whole n u) (unite_all m) (λ x. x) (length m) (record { sofar = record { low = λ x. omega arith; joined = λ x. alone x }; makes = λ f g h k t. absurd (omega arith) }) (λ i u h r. whole-more i u r)

  -- ---- the law

  -- faces that touch have one number
  pub level : (f g : ℕ) → touches m f g ≡ true → lowest_of m f ≡ lowest_of m g
  level f g t = go (dec_lt g f) (dec_lt f g)
    where
      go : Dec (g < f) → Dec (f < g) → lowest_of m f ≡ lowest_of m g
      go (yes h) d = whole.makes f g (counted-below m f (touches-counted m f g t)) h t
      go (no h) (yes k) = let s = touches-sym m f g t in sym (whole.makes g f (counted-below m g (touches-counted m g f s)) k s)
      go (no h) (no k) = ap (lowest_of m) (omega arith)

  -- no number is above its face's
  pub lowest-low : (f : ℕ) → lowest_of m f ≤ f
  lowest-low f = whole.sofar.low f

  -- a chain leads to it
  pub lowest-chain : (f : ℕ) → Chain m f (lowest_of m f)
  lowest-chain f = whole.sofar.joined f

  right : Right m (lowest_of m)
  right = record { low = λ f u. whole.sofar.low f; joined = λ f u. whole.sofar.joined f; level = level }

  -- what is computed is what the chains say
  pub given : (f : ℕ) → Given m f (island_of m f)
  unfolding island_of
  given f = go (counted m f) refl
    where
      go : (t : Bool) → counted m f ≡ t → Given m f (cond t (lowest_of m f) no_island)
      go true e = lowest (lowest_of m f) e (right-lowest m (lowest_of m) right f e)
      go false e = other e

  -- faces that touch are given one number
  pub touching : (f g : ℕ) → touches m f g ≡ true → island_of m f ≡ island_of m g
  unfolding island_of
  touching f g t = rw (touches-counted m f g t, touches-counted m g f (touches-sym m f g t)) (level f g t)
