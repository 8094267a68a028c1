-- How many faces have their own number, by numbers that are the same below n. Assumes nothing.
use Prim.Native.Nat.{ℕ, zero, suc, ◌+◌, ◌≤◌, ◌<◌}
use native.Mathlib.Omega.{arith}
use native.Mathlib.Numerals.{add-one}
use mathlib.Core.Path.{◌≡◌, refl, sym, ap, ◌∙◌}
use mathlib.Core.Bool.{Bool, true, false, cond}
use mathlib.Core.List.{List}
use lib.Dec.{eqb}
use lib.ListN.{length, get_or, drop, length-append}
use Rattle.definition.specs.Handed.{mesh_of, Handed}
use Rattle.lists.specs.Loops.{list_of}
use Rattle.lists.proofs.Loops.{length-list_of}
use Rattle.islands.specs.Islands.{island_of}
use Rattle.islands.specs.Rows.{labelled}
use Rattle.islands.proofs.Labels.{label-at}
use Rattle.labels.specs.Labels.{own_numbers, island_count}

-- one or none
at_most_one : (b : Bool) → cond b 1 0 ≤ 1
at_most_one true = omega arith
at_most_one false = omega arith

-- at most all of them
pub own-few : (n : ℕ) (l : ℕ → ℕ) → own_numbers n l ≤ n
unfolding own_numbers
own-few zero l = omega arith
own-few (suc n) l = let r = own-few n l in let b = at_most_one (eqb (l n) n) in omega arith

pub own-none : (l : ℕ → ℕ) → 0 ≡ own_numbers 0 l
unfolding own_numbers
own-none l = refl

-- one face more
pub own-more : (n : ℕ) (l : List ℕ) (c r : ℕ) → c ≡ own_numbers n (λ f. get_or l f 0) → r ≡ c + cond (eqb (get_or l n 0) n) 1 0 → r ≡ own_numbers (n + 1) (λ f. get_or l f 0)
unfolding own_numbers
own-more n l c r e h = h ∙ (ap (λ x. x + cond (eqb (get_or l n 0) n) 1 0) e ∙ ap (λ m. own_numbers m (λ f. get_or l f 0)) (sym (add-one n)))

-- numbers that are the same below n
pub own_same : (n : ℕ) (l m : ℕ → ℕ) → ((f : ℕ) → f < n → l f ≡ m f) → own_numbers n l ≡ own_numbers n m
unfolding own_numbers
own_same zero l m h = refl
own_same (suc n) l m h =
    let r = own_same n l m (λ f k. h f (omega arith)) in
    ap (λ x. x + cond (eqb (l n) n) 1 0) r ∙ ap (λ x. own_numbers n m + cond (eqb x n) 1 0) (h n (omega arith))

module _ (mesh : Handed) (labels : List ℕ) where
  -- so that counting them counts the islands
  pub counts-islands : (out : List ℕ) (n : ℕ) → out ≡ labelled mesh labels → n ≡ own_numbers (length mesh.sizes) (λ f. get_or out f 0) → n ≡ island_count mesh
  unfolding island_count
  counts-islands out n e h =
      h ∙ own_same (length mesh.sizes) (λ f. get_or out f 0) (island_of (mesh_of mesh)) (λ f k. ap (λ l. get_or l f 0) e ∙ label-at mesh labels f k)

-- no label more and none less
pub labels_length : (mesh : Handed) (labels out : List ℕ) → length mesh.sizes ≤ length labels → out ≡ labelled mesh labels → length mesh.sizes ≤ length out
unfolding labelled
labels_length mesh labels out h e =
    let n = length mesh.sizes in
    let g = island_of (mesh_of mesh) in
    let l = ap length e ∙ length-append (list_of n g) (drop n labels) in
    omega (arith, l, length-list_of n g)
