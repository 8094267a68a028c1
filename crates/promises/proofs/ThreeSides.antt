-- Three sides meet, and two pairings are accepted: computed. Assumes nothing.
use Prim.Native.Nat.{ℕ, zero, suc, ◌+◌, ◌*◌, ◌-◌, ◌/◌, ◌≤◌, ◌<◌}
use native.Mathlib.Omega.{arith}
use mathlib.Core.Path.{◌≡◌, refl, sym, subst, ap, ◌∙◌}
use mathlib.Core.Bool.{Bool, true, false, not, ◌&&◌, ◌||◌, xor, beq, true≢false}
use mathlib.Core.List.{List, [], ◌∷◌}
use lib.Dec.{eqb, leb}
use lib.ListN.{length, get_or, replicate}
use lib.Ieee.{is_nan, add, sub, mul, div, neg, lt, le, eq, to_bits, of_bits, round, to_unsigned, to_signed, of_int, size, units}
use borrow.Author.Tests.{eqb-true, eq-eqb, leb-true}
use Rattle.bits.proofs.Bools.{and_left, and_right}
use Rattle.lists.specs.Parts.{every_below}
use Rattle.lists.proofs.Parts.{every-at}
use Rattle.root.specs.Root as Root'
use Rattle.math.specs.Vector as Vector'
use Rattle.tangent.specs.Space as Space'
use Rattle.tangent.specs.Slot as Slot'
use Rattle.lists.specs.Lists as Lists'
use Rattle.definition.specs.Mesh as Mesh'
use Rattle.definition.specs.Mesh.{corner_of}
use Rattle.definition.specs.Handed as Handed'
use Rattle.definition.specs.Step2Degenerate as Step2Degenerate'
use Rattle.definition.specs.Step3Tangents as Step3Tangents'
use Rattle.definition.specs.Triangles as Triangles'
use Rattle.definition.specs.Step4Order as Step4Order'
use Rattle.definition.specs.Step4Order.{welded}
use Rattle.definition.specs.Frames as Frames'
use Rattle.definition.specs.declared.Triangle.{Triangle}
use Rattle.neighbors.specs.Sides.{end_row}
use Rattle.view.specs.Rows.{num, third, spot_row}
use Rattle.view.proofs.Rows.{tri-lt}
use Rattle.asked.specs.Links.{Equal, Leads, Opposed, LinksFit}
use Rattle.asked.specs.Groups.{GroupsFit}
use Rattle.asked.specs.Meaning.{Same, any_of, way_of}
use Rattle.asked.proofs.Likes.{links-like}
use Rattle.asked.proofs.Bridge.{fit-accepted, groups-accepted}
use Rattle.promises.specs.Small.{up}
use Rattle.promises.specs.Examiner.{sound_in, Sound}
use Rattle.promises.specs.ThreeSides.{three_sides, linked_by, with_first, with_second, Promised}

-- ---- what the definition makes of the mesh, computed

-- the vertices of its nine corners, by row
abbrev table : List ℕ
table = 0 ∷ 1 ∷ 2 ∷ 0 ∷ 1 ∷ 5 ∷ 1 ∷ 0 ∷ 8 ∷ []

abbrev vertex : ℕ → ℕ
vertex r = get_or table r 0

abbrev ss : List Triangle
ss = sound_in three_sides

-- one test of all pairs of rows, of whether corners are welded as the table says, and of whether each triangle is `group_with_any`
pub computed : (d : Triangle) → (eqb (length ss) 3 && every_below 9 (λ r. every_below 9 (λ q. beq (welded (corner_of (spot_row ss d r)) (corner_of (spot_row ss d q))) (eqb (vertex r) (vertex q)))) && every_below 3 (λ t. eqb (any_of ss d t) 1)) ≡ true
unfolding three_sides up every_below num third Root'.root Root'.rooted Root'.sqrt Vector'.added Vector'.subtracted Vector'.scaled_by Vector'.negated Vector'.dot Vector'.length_of Vector'.equals Vector'.abs Vector'.counts Vector'.spans Vector'.points Vector'.direction Vector'.or_zero Vector'.unit_of Space'.equals Slot'.flag Lists'.keep Mesh'.after Mesh'.before Mesh'.kept Mesh'.corner_of Handed'.vector_at Handed'.corner_at Handed'.corners_from Handed'.mesh_from Handed'.used Step2Degenerate'.flat Step3Tangents'.turn Step3Tangents'.raw_s Step3Tangents'.raw_t Step3Tangents'.sign_of Step3Tangents'.tangent_at Step3Tangents'.first_order Step3Tangents'.unsure Step3Tangents'.area Triangles'.make Triangles'.pieces Triangles'.triangles Step4Order'.is_sound Step4Order'.sound Step4Order'.same_bits Step4Order'.same_vector Step4Order'.same_numbers Step4Order'.welded Frames'.numbered is_nan add sub mul div neg lt le eq to_bits of_bits round to_unsigned to_signed of_int size units xor
computed d = refl

-- ---- three facts out of the test

beq_same : (a b : Bool) → beq a b ≡ true → a ≡ b
beq_same true true e = refl
beq_same true false e = absurd (true≢false (sym e))
beq_same false true e = absurd (true≢false (sym e))
beq_same false false e = refl

module _ (d : Triangle) where
  abbrev weld-test : ℕ → ℕ → Bool
  weld-test r q = beq (welded (corner_of (spot_row ss d r)) (corner_of (spot_row ss d q))) (eqb (vertex r) (vertex q))

  three : length ss ≡ 3
  three = eqb-true (length ss) 3 (and_left _ (every_below 9 (λ r. every_below 9 (weld-test r))) (and_left _ (every_below 3 (λ t. eqb (any_of ss d t) 1)) (computed d)))

  weld-is : (r q : ℕ) → r < 9 → q < 9 → welded (corner_of (spot_row ss d r)) (corner_of (spot_row ss d q)) ≡ eqb (vertex r) (vertex q)
  weld-is r q h k =
      beq_same _ _ (every-at 9 q (weld-test r) (every-at 9 r (λ r. every_below 9 (weld-test r)) (and_right (eqb (length ss) 3) _ (and_left _ (every_below 3 (λ t. eqb (any_of ss d t) 1)) (computed d))) h) k)

  any-one : (t : ℕ) → t < 3 → any_of ss d t ≡ 1
  any-one t h = eqb-true (any_of ss d t) 1 (every-at 3 t (λ t. eqb (any_of ss d t) 1) (and_right (eqb (length ss) 3 && every_below 9 (λ r. every_below 9 (weld-test r))) _ (computed d)) h)

  to-weld : (r q : ℕ) → r < 3 * length ss → q < 3 * length ss → vertex r ≡ vertex q → Same ss d r q
  to-weld r q h k e = weld-is r q (omega (arith, three)) (omega (arith, three)) ∙ eq-eqb (vertex r) (vertex q) e

  from-weld : (r q : ℕ) → r < 3 * length ss → q < 3 * length ss → Same ss d r q → vertex r ≡ vertex q
  from-weld r q h k s = eqb-true (vertex r) (vertex q) (sym (weld-is r q (omega (arith, three)) (omega (arith, three))) ∙ s)

-- ---- no group, and one orientation

abbrev nine : List ℕ
nine = replicate 9 0

abbrev ways : List ℕ
ways = replicate 3 0

zero-at : (r : ℕ) → get_or nine r 0 ≡ 0
zero-at zero = refl
zero-at (suc zero) = refl
zero-at (suc (suc zero)) = refl
zero-at (suc (suc (suc zero))) = refl
zero-at (suc (suc (suc (suc zero)))) = refl
zero-at (suc (suc (suc (suc (suc zero))))) = refl
zero-at (suc (suc (suc (suc (suc (suc zero)))))) = refl
zero-at (suc (suc (suc (suc (suc (suc (suc zero))))))) = refl
zero-at (suc (suc (suc (suc (suc (suc (suc (suc zero)))))))) = refl
zero-at (suc (suc (suc (suc (suc (suc (suc (suc (suc r))))))))) = refl

way-le : (t : ℕ) → t < 3 → get_or ways t 0 ≤ 1
way-le zero h = omega arith
way-le (suc zero) h = omega arith
way-le (suc (suc zero)) h = omega arith
way-le (suc (suc (suc t))) h = absurd (omega arith)

-- ---- links of nine sides, by a test

abbrev opposes : ℕ → ℕ → Bool
opposes r q = eqb (vertex r) (vertex (end_row q)) && eqb (vertex (end_row r)) (vertex q)

abbrev word : List ℕ → ℕ → ℕ
word L r = get_or L r 0

-- a side's word is 0, or names a side that names it and is opposed to it
abbrev link_test : List ℕ → ℕ → Bool
link_test L r = eqb (word L r) 0 || (leb (word L r) 9 && eqb (word L (word L r - 1)) (r + 1) && opposes r (word L r - 1))

-- two sides are not both unlinked and opposed
abbrev left_test : List ℕ → ℕ → ℕ → Bool
left_test L r q = not (eqb (word L r) 0 && eqb (word L q) 0 && opposes r q)

module _ (L : List ℕ) (A : every_below 9 (link_test L) ≡ true) (B : every_below 9 (λ r. every_below 9 (left_test L r)) ≡ true) where
  linked : (r q : ℕ) → r < 9 → Leads L r q → (leb (word L r) 9 && eqb (word L (word L r - 1)) (r + 1) && opposes r (word L r - 1)) ≡ true
  linked r q h l = go (eqb (word L r) 0) refl (every-at 9 r (link_test L) A h)
    where
      go : (b : Bool) → eqb (word L r) 0 ≡ b → (b || (leb (word L r) 9 && eqb (word L (word L r - 1)) (r + 1) && opposes r (word L r - 1))) ≡ true → (leb (word L r) 9 && eqb (word L (word L r - 1)) (r + 1) && opposes r (word L r - 1)) ≡ true
      go true e t = absurd (let z = eqb-true (word L r) 0 e in omega arith)
      go false e t = t

  named : (r q : ℕ) → Leads L r q → word L r - 1 ≡ q
  named r q l = omega arith

  inside : (r q : ℕ) → r < 9 → Leads L r q → q < 9
  inside r q h l = let z = leb-true (word L r) 9 (and_left (leb (word L r) 9) _ (and_left _ (opposes r (word L r - 1)) (linked r q h l))) in omega arith

  back : (r q : ℕ) → r < 9 → Leads L r q → Leads L q r
  back r q h l =
      let z = eqb-true (word L (word L r - 1)) (r + 1) (and_right (leb (word L r) 9) _ (and_left _ (opposes r (word L r - 1)) (linked r q h l))) in
      ap (word L) (sym (named r q l)) ∙ (z ∙ omega arith)

  across : (r q : ℕ) → r < 9 → Leads L r q → Opposed (Equal vertex) r q
  across r q h l =
      let o = and_right (leb (word L r) 9 && eqb (word L (word L r - 1)) (r + 1)) (opposes r (word L r - 1)) (linked r q h l) in
      let a = eqb-true (vertex r) (vertex (end_row (word L r - 1))) (and_left (eqb (vertex r) (vertex (end_row (word L r - 1)))) _ o) in
      let b = eqb-true (vertex (end_row r)) (vertex (word L r - 1)) (and_right (eqb (vertex r) (vertex (end_row (word L r - 1)))) _ o) in
      (a ∙ ap (λ (x : ℕ). vertex (end_row x)) (named r q l), b ∙ ap vertex (named r q l))

  none_left : (r q : ℕ) → r < 9 → q < 9 → word L r ≡ 0 → word L q ≡ 0 → Opposed (Equal vertex) r q → ⊥
  none_left r q h k f g o =
      true≢false (sym (every-at 9 q (left_test L r) (every-at 9 r (λ r. every_below 9 (left_test L r)) B h) k)
      ∙ (λ i. not (eq-eqb (word L r) 0 f i && eq-eqb (word L q) 0 g i && (eq-eqb (vertex r) (vertex (end_row q)) o.0 i && eq-eqb (vertex (end_row r)) (vertex q) o.1 i))))

  nine-fit : LinksFit 9 (Equal vertex) L
  nine-fit = record { inside = inside; mutually = back; across = across; once = λ r s q h k l m. let x = back r q h l in let y = back s q k m in omega arith; none_left = none_left }

  pub sound : (d : Triangle) → length L ≡ 9 → Sound (linked_by L) d
  unfolding linked_by
  sound d e =
      let t = three d in
      let F = links-like (length ss) (Equal vertex) (Same ss d) L (to-weld d) (from-weld d) (subst (λ (n : ℕ). LinksFit (3 * n) (Equal vertex) L) (sym t) nine-fit) in
      record { links = fit-accepted ss d L (omega (arith, e, t)) F; groups = groups-accepted ss d L nine ways (omega (arith, t)) (sym t) F groups }
    where
      loose : (t : ℕ) → t < length ss → any_of ss d t ≡ 0 → ⊥
      loose t h z = let o = any-one d t (omega (arith, three d)) in omega arith

      groups : GroupsFit (length ss) (Same ss d) (any_of ss d) (way_of ss d) L nine ways
      groups =
          record {
            flags = λ t h. way-le t (omega (arith, three d));
            one_corner = λ r q h k T. absurd (T.some (zero-at r));
            one_way = λ r q h k T. absurd (T.some (zero-at r));
            some = λ r h a. absurd (loose (r / 3) (tri-lt r (length ss) h) a);
            keeps = λ t h a. absurd (loose t h a);
            one_group = λ r q h l a. absurd (loose (r / 3) (tri-lt r (length ss) h) a);
            connected = λ r q h k T. absurd (T.some (zero-at r));
          }

first-links : every_below 9 (link_test with_first) ≡ true
unfolding every_below end_row
first-links = refl

first-left : every_below 9 (λ r. every_below 9 (left_test with_first r)) ≡ true
unfolding every_below end_row
first-left = refl

second-links : every_below 9 (link_test with_second) ≡ true
unfolding every_below end_row
second-links = refl

second-left : every_below 9 (λ r. every_below 9 (left_test with_second r)) ≡ true
unfolding every_below end_row
second-left = refl

pub three-sides : Promised
unfolding Promised
three-sides d = (sound with_first first-links first-left d refl, sound with_second second-links second-left d refl)
