-- Step 5 from the vertices to the links: sides, sort, linking. Assumes nothing.
use Prim.Native.Nat.{ℕ, ◌+◌, ◌*◌, ◌^◌, ◌≤◌, ◌<◌, max}
use native.Mathlib.Omega.{arith}
use mathlib.Core.Path.{◌≡◌, refl, sym, ◌∙◌, ap, subst}
use mathlib.Core.Bool.{true, ◌&&◌}
use mathlib.Core.List.{List, [], ◌∷◌}
use lib.Dec.{eqb}
use lib.ListN.{length, get_or}
use borrow.Author.Tests.{eq-eqb, eqb-true}
use Rattle.table.specs.Table.{cell}
use Rattle.lists.specs.Loops.{up_to, list_of}
use Rattle.table.specs.Columns.{columns, vertex_column, lower_column, higher_column, order_column, spare_column}
use Rattle.definition.specs.declared.Triangle.{Triangle}
use Rattle.lists.specs.Lists.{keep}
use Rattle.definition.specs.Step5Links.{links}
use Rattle.bits.proofs.Bools.{and_left, and_right}
use Rattle.definition.specs.Names.{Names}
use Rattle.sort.specs.Sort.{ends, in_order, SortedPart}
use Rattle.sort.proofs.Keys.{ends_at}
use Rattle.sort.proofs.Order.{length-order, below-order, rising-order, bucket-order, order-cell}
use Rattle.view.specs.Frame.{outside}
use Rattle.view.specs.Rows.{row}
use Rattle.view.specs.Weld.{Welds, Sharp}
use Rattle.view.specs.Links.{Linked}
use Rattle.view.proofs.Lists.{bool_iff, and_both}
use Rattle.neighbors.specs.Links.{same_ends, turn, Ready}
use Rattle.neighbors.specs.Sides.{end_row, with_side, Sided}
use Rattle.neighbors.proofs.Mates.{Sides, ends-rows, Ordered}
use Rattle.neighbors.proofs.Order.{Rising, step-five}
use Rattle.neighbors.proofs.Placed.{there, full, sort-kept, empty-there, ready-there, fit, sides-there}
use Rattle.neighbors.proofs.Sided.{end_lt, counted}

-- ---- two digits

pub digit-one : (a b a' b' : ℕ) → b < 4294967296 → b' < 4294967296 → a * 4294967296 + b ≡ a' * 4294967296 + b' → a ≡ a'
digit-one a b a' b' h k e = omega arith

pub digit-two : (a b a' b' : ℕ) → a ≡ a' → a * 4294967296 + b ≡ a' * 4294967296 + b' → b ≡ b'
digit-two a b a' b' p e = omega arith

-- equal numbers are equal digits
two_digits : (a b a' b' : ℕ) → b < 4294967296 → b' < 4294967296 → eqb (a * 2 ^ 32 + b) (a' * 2 ^ 32 + b') ≡ (eqb a a' && eqb b b')
two_digits a b a' b' h k =
    bool_iff (eqb (a * 2 ^ 32 + b) (a' * 2 ^ 32 + b')) (eqb a a' && eqb b b')
    (λ e.
    let q = eqb-true (a * 2 ^ 32 + b) (a' * 2 ^ 32 + b') e in
    let p = digit-one a b a' b' h k q in
    and_both (eqb a a') (eqb b b') (eq-eqb a a' p) (eq-eqb b b' (digit-two a b a' b' p q)))
    (λ e.
    let p = eqb-true a a' (and_left (eqb a a') (eqb b b') e) in
    let q = eqb-true b b' (and_right (eqb a a') (eqb b b') e) in
    eq-eqb (a * 2 ^ 32 + b) (a' * 2 ^ 32 + b') (λ z. p z * 2 ^ 32 + q z))

pub max-lt : (a b n : ℕ) → a < n → b < n → max a b < n
max-lt a b n h k = omega arith

-- ---- the three parts of the step

module _ (rows tris : ℕ) (w u v : List ℕ) (fits : 3 * tris ≤ rows) (long : columns * rows ≤ length w) (few : rows < 4294967295)
    (is : u ≡ up_to (3 * tris) (with_side rows vertex_column) w) (Q : SortedPart rows 0 (3 * tris) u v) where
  abbrev n : ℕ
  n = 3 * tris

  abbrev os : List ℕ
  os = in_order rows n u

  G : Sided rows vertex_column n w u
  G = there rows vertex_column tris w u v refl fits long is Q.only

  at-order : (a : ℕ) → a < n → cell rows order_column a v ≡ get_or os a 0
  at-order = order-cell rows n u v fits Q (counted rows vertex_column n w u fits (full rows vertex_column tris w u v refl fits long is Q.only) G)

  kept-so : (k r : ℕ) → outside (order_column ∷ spare_column ∷ []) k ≡ true → r < n → cell rows k r v ≡ cell rows k r u
  kept-so = sort-kept rows vertex_column tris w u v refl fits long is Q.only

  -- what the linking asks
  pub ready-two : Ready rows n v
  ready-two = ready-there rows vertex_column tris w u v refl fits long is Q.only few (λ k h. subst (λ (x : ℕ). x < n) (sym (at-order k h)) (below-order rows n u k h))

  -- ---- what the columns stand for

  module _ (words : (r : ℕ) → r < rows → cell rows vertex_column r w < 4294967296) (ss : List Triangle) (d : Triangle) (count : length ss ≡ tris) (N : Names ss) (sharp : Sharp ss d) (W : Welds rows ss d w) where
    high_word : (r : ℕ) → r < n → cell rows higher_column r u < 4294967296
    high_word r h = subst (λ (x : ℕ). x < 4294967296) (sym (G.higher r h)) (max-lt (cell rows vertex_column r w) (cell rows vertex_column (end_row r) w) 4294967296 (words r (omega arith)) (words (end_row r) (omega (arith, end_lt r tris h))))

    keys : (r s : ℕ) → r < n → s < n → eqb (ends rows u r) (ends rows u s) ≡ same_ends rows r s v
    unfolding same_ends
    keys r s h k =
        (λ z. eqb (ends_at rows u r (omega arith) z) (ends_at rows u s (omega arith) z))
        ∙ two_digits (cell rows lower_column r u) (cell rows higher_column r u) (cell rows lower_column s u) (cell rows higher_column s u) (high_word r h) (high_word s k)
        ∙ sym (λ z. eqb (kept-so lower_column r refl h z) (kept-so lower_column s refl k z) && eqb (kept-so higher_column r refl h z) (kept-so higher_column s refl k z))

    sides : Sides rows ss d os v
    sides = sides-there rows vertex_column tris w u v refl fits long is Q.only ss d count W W os (λ a h. at-order a (omega (arith, h, length-order rows n u)))

    ordered : Ordered ss os
    ordered = record {
      all = length-order rows n u ∙ ap (λ (m : ℕ). 3 * m) (sym count);
      below = λ a h. subst (λ (m : ℕ). get_or os a 0 < 3 * m) (sym count) (below-order rows n u a (omega (arith, h, length-order rows n u)));
    }

    rising : Rising ss d os (ends rows u)
    rising = record {
      keys = λ r s h k. sym (keys r s (subst (λ (m : ℕ). r < 3 * m) count h) (subst (λ (m : ℕ). s < 3 * m) count k) ∙ ends-rows rows ss d os v sides r s h k);
      rising = λ a b l h. rising-order rows n u (omega arith) a b l (omega (arith, h, length-order rows n u));
    }

    -- the column of links stands for the definition's links
    pub links-are : Linked rows ss d (links ss) (up_to n (turn rows n) v)
    links-are =
        subst (λ (m : ℕ). Linked rows ss d (links ss) (up_to m (turn rows m) v)) (length-order rows n u)
        (step-five rows ss d N (omega (arith, count)) sharp os (ends rows u) ordered rising
        (λ x. bucket-order rows n u x ∙ ap (λ (m : ℕ). keep (λ s. eqb x (ends rows u s)) (list_of (3 * m) (λ k. k))) (sym count))
        v sides ready-two.long (λ t i h. empty-there rows vertex_column tris w u v refl fits long is Q.only (row t i) (fit rows vertex_column tris w u v refl fits long is Q.only ss d count t i h))).0
