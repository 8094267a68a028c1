-- One row more: where its corner is found in its bucket, and where it is not. Assumes nothing.
use Prim.Native.Nat.{ℕ, suc, ◌≤◌, ◌<◌}
use native.Mathlib.Omega.{arith}
use mathlib.Core.Path.{◌≡◌, refl, sym, ap, ◌∙◌, subst}
use mathlib.Core.Bool.{Bool, true, false}
use mathlib.Core.List.{List}
use lib.Dec.{eqb}
use lib.ListN.{length, get_or, set}
use lib.Seq.{get_or-set_same, get_or-set_other}
use borrow.Author.Tests.{eqb-true, eqb-false}
use Rattle.definition.specs.declared.Corner.{Corner}
use Rattle.definition.specs.Step4Order.{welded}
use Rattle.laws.proofs.World.{welded-sym}
use Rattle.laws.proofs.Weld.{welded-refl, welded-as}
use Rattle.view.specs.Weld.{First}
use Rattle.weld.specs.Welding.{bucket_of, Chain, link, Finds, here, further, Going}
use Rattle.weld.proofs.Buckets.{bucket-same, bucket-lt}
use Rattle.weld.proofs.Chains.{finds-one, finds-passes, finds-low, chain-kept, finds-kept}

-- what holds of a word of a list after a store: of what was stored, at that place, and of the word itself elsewhere
read_set : (l : List ℕ) (i v a : ℕ) → i < length l → (P : ℕ → Type 0) → (a ≡ i → P v) → ((a ≡ i → ⊥) → P (get_or l a 0)) → P (get_or (set l i v) a 0)
read_set l i v a h P f g = go (eqb a i) refl
  where
    go : (t : Bool) → eqb a i ≡ t → P (get_or (set l i v) a 0)
    go true e = let q = eqb-true a i e in subst P (sym (ap (λ (n : ℕ). get_or (set l i v) n 0) q ∙ get_or-set_same l i v 0 h)) (f q)
    go false e = let q = eqb-false a i e in subst P (sym (get_or-set_other l i a v 0 q)) (g q)

-- a row below the next, but for one
below : (q r : ℕ) → q < suc r → (q ≡ r → ⊥) → q < r
below q r h n = omega arith

module _ (C : ℕ → Corner) (rows r : ℕ) (vs hs xs : List ℕ) (G : Going C rows r vs hs xs) (room : r < rows) where
  -- row k is welded to row q
  abbrev W : ℕ → ℕ → Bool
  W q k = welded (C q) (C k)

  -- the word at which the chain of row q's bucket starts
  abbrev head : ℕ → ℕ
  head q = get_or hs (bucket_of rows (C q)) 0

  -- the bucket of a row is one of them
  inside : (q : ℕ) → bucket_of rows (C q) < rows
  inside q = bucket-lt rows (C q) (omega arith)

  -- where an earlier row is welded to row r, its vertex is what is found
  earlier : (k s : ℕ) → k < r → W r k ≡ true → Finds xs (W r) (head r) s → s ≡ suc (get_or vs k 0)
  earlier k s h e F =
      finds-one xs (W r) (W k) (λ j. welded-as (C r) (C k) (C j) e) F
      (subst (λ (b : ℕ). Finds xs (W k) (get_or hs b 0) (suc (get_or vs k 0))) (sym (bucket-same rows (C r) (C k) e)) (G.finds k h))

  -- what is found is the first row welded to row r
  found_first : (v : ℕ) → Finds xs (W r) (head r) (suc v) → First (W r) v
  found_first v F = record { passes = p; least = λ k l. welded-as (C r) (C v) (C k) p ∙ own.least k l }
    where
      p : W r v ≡ true
      p = finds-passes xs (W r) F v refl

      low : v < r
      low = omega (arith, finds-low xs (W r) (G.chain _ (inside r)) F, G.low _ (inside r))

      own : First (W v) v
      own = let e : get_or vs v 0 ≡ v = omega (arith, earlier v (suc v) low p F) in subst (First (W v)) e (G.firsts v low)

  -- where none is found, no earlier row is welded to row r
  none-earlier : Finds xs (W r) (head r) 0 → (k : ℕ) → k < r → W r k ≡ false
  none-earlier F k h = go (W r k) refl
    where
      go : (t : Bool) → W r k ≡ t → t ≡ false
      go true e = absurd (omega (arith, earlier k 0 h e F))
      go false e = refl

  -- one was found: it is row r's vertex
  pub going-found : (v : ℕ) → r < length vs → Finds xs (W r) (head r) (suc v) → Going C rows (suc r) (set vs r v) hs xs
  going-found v lv F = record {
    firsts = λ q h. read_set vs r v q lv (First (W q)) (λ e. subst (λ (n : ℕ). First (W n) v) (sym e) (found_first v F)) (λ n. G.firsts q (below q r h n));
    low = λ b h. let l = G.low b h in omega arith;
    chain = G.chain;
    finds = λ q h. read_set vs r v q lv (λ (n : ℕ). Finds xs (W q) (head q) (suc n)) (λ e. subst (λ (n : ℕ). Finds xs (W n) (head n) (suc v)) (sym e) F) (λ n. G.finds q (below q r h n));
  }

  -- none was found: row r is its own vertex, and is put first into its bucket
  pub going-new : r < length vs → bucket_of rows (C r) < length hs → r < length xs → Finds xs (W r) (head r) 0
      → Going C rows (suc r) (set vs r r) (set hs (bucket_of rows (C r)) (suc r)) (set xs r (head r))
  going-new lv lh lx F = record {
    firsts = λ q h. read_set vs r r q lv (First (W q)) (λ e. subst (λ (n : ℕ). First (W n) r) (sym e) mine) (λ n. G.firsts q (below q r h n));
    low = λ b h. read_set hs (bucket_of rows (C r)) (suc r) b lh (λ (n : ℕ). n ≤ suc r) (λ e. omega arith) (λ n. let l = G.low b h in omega arith);
    chain = λ b h. read_set hs (bucket_of rows (C r)) (suc r) b lh (Chain ys) (λ e. linked) (λ n. chain-kept xs ys r kept (G.low b h) (G.chain b h));
    finds = λ q h. read_set vs r r q lv (λ (n : ℕ). Finds ys (W q) (head' q) (suc n)) (λ e. subst (λ (n : ℕ). Finds ys (W n) (head' n) (suc r)) (sym e) new) (λ n. old q (below q r h n));
  }
    where
      ys : List ℕ
      ys = set xs r (head r)

      head' : ℕ → ℕ
      head' q = get_or (set hs (bucket_of rows (C r)) (suc r)) (bucket_of rows (C q)) 0

      mine : First (W r) r
      mine = record { passes = welded-refl (C r); least = none-earlier F }

      kept : (q : ℕ) → q < r → get_or xs q 0 ≡ get_or ys q 0
      kept q h = sym (get_or-set_other xs r q (head r) 0 (λ e. omega arith))

      next : head r ≡ get_or ys r 0
      next = sym (get_or-set_same xs r (head r) 0 lx)

      linked : Chain ys (suc r)
      linked = link r (subst (λ (n : ℕ). n ≤ r) next (G.low _ (inside r))) (subst (Chain ys) next (chain-kept xs ys r kept (G.low _ (inside r)) (G.chain _ (inside r))))

      new : Finds ys (W r) (head' r) (suc r)
      new = subst (λ (n : ℕ). Finds ys (W r) n (suc r)) (sym (get_or-set_same hs (bucket_of rows (C r)) (suc r) 0 lh)) (here r (welded-refl (C r)))

      old : (q : ℕ) → q < r → Finds ys (W q) (head' q) (suc (get_or vs q 0))
      old q h =
          let s = suc (get_or vs q 0) in
          let w : Finds ys (W q) (head q) s = finds-kept xs ys r kept (W q) (G.low _ (inside q)) (G.chain _ (inside q)) (G.finds q h) in
          read_set hs (bucket_of rows (C r)) (suc r) (bucket_of rows (C q)) lh (λ (n : ℕ). Finds ys (W q) n s)
          (λ e. further r s (welded-sym (C q) (C r) ∙ none-earlier F q h) (subst (λ (n : ℕ). Finds ys (W q) n s) (ap (λ (b : ℕ). get_or hs b 0) e ∙ next) w))
          (λ n. w)
