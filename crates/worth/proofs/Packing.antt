-- A good slot is packed with its numbers, and the sign of a component tells nothing. Assumes nothing.
use Prim.Native.Nat.{ℕ, ◌+◌, ◌<◌, min}
use native.Mathlib.Omega.{arith}
use mathlib.Core.Path.{◌≡◌, refl, sym, ap, ◌∙◌}
use mathlib.Core.Bool.{Bool, true, cond, not, ◌&&◌}
use mathlib.Core.List.{List}
use lib.ListN.{get_or}
use lib.Dec.{eqb, leb, ltb}
use borrow.Author.Tests.{eq-eqb, le-leb}
use Rattle.lists.proofs.Parts.{every-all, every-same}
use Rattle.packed.specs.Component.{furthest, one_bits, size, within, cut, units, component}
use Rattle.packed.specs.Packer.{has_frame, frame, frame_packed, packed_slot}
use Rattle.packed.proofs.Range.{component-not-nothing}
use Rattle.packed.proofs.Runs.{length-packed}
use Rattle.packed.proofs.Places.{frame_at}
use Rattle.worth.specs.Worth.{absent_slot, good_slot, lost_slot, blank_slot, long_slot, short_slot, infinity_bits, least_bits, finite, counted, shown, some_of, in_both, in_all, directed, present_worth, worth}
use Rattle.worth.specs.Meaning.{OneOf, one_of, NotZero, Shows, IsGood, PacksWell, Alike}
use Rattle.worth.proofs.Some.{some_same}

-- a good slot has a frame to pack
good-frame : (slot : List ℕ) → IsGood slot → has_frame slot ≡ true
unfolding has_frame within
good-frame slot G =
    λ z. eq-eqb _ _ G.present z && le-leb _ _ G.directions.orientation z && every-all 6 (λ i. within (get_or slot (1 + i) 0)) (λ i l. le-leb _ _ (G.near i l)) z

good-packed : (slot : List ℕ) → IsGood slot → packed_slot slot ≡ frame slot
unfolding packed_slot frame_packed
good-packed slot G = ap (λ (t : Bool). frame_packed t slot) (good-frame slot G)

-- and its numbers are the components'
good-number : (slot : List ℕ) → IsGood slot → (i : ℕ) → i < 6 → get_or (packed_slot slot) i 0 ≡ component (get_or slot (1 + i) 0)
good-number slot G i l = ap (λ (ns : List ℕ). get_or ns i 0) (good-packed slot G) ∙ frame_at slot i l

-- one of three that shows, packed
shows-packed : (slot : List ℕ) → IsGood slot → (k j : ℕ) → k ≡ 1 + j → j < 4 → OneOf Shows k slot → OneOf NotZero j (packed_slot slot)
shows-packed slot G k j e b (one_of i l h) = one_of i l (λ n. h (ap (λ (m : ℕ). component (get_or slot m 0)) place ∙ (sym (good-number slot G (j + i) (omega arith)) ∙ n)))
  where
    place : k + i ≡ 1 + (j + i)
    place = omega arith

pub packs-well : (slot : List ℕ) → IsGood slot → PacksWell slot
packs-well slot G =
    record {
      seven = length-packed slot;
      numbers = good-number slot G;
      tangent = shows-packed slot G 1 0 refl (omega arith) G.tangent_shows;
      bi_tangent = shows-packed slot G 4 3 refl (omega arith) G.bi_tangent_shows;
      not_absent = λ e. component-not-nothing (get_or slot 1 0) (sym (good-number slot G 0 (omega arith)) ∙ ap (λ (ns : List ℕ). get_or ns 0 0) e);
    }

-- tests that go by the size of a component alone
abbrev BySize : (ℕ → Bool) → Type 0
BySize p = (v w : ℕ) → size v ≡ size w → p v ≡ p w

finite-size : BySize finite
unfolding finite
finite-size v w e = ap (λ (m : ℕ). ltb m infinity_bits) e

counted-size : BySize counted
unfolding counted
counted-size v w e = ap (λ (m : ℕ). ltb least_bits m) e

within-size : BySize within
unfolding within
within-size v w e = ap (λ (m : ℕ). leb m furthest) e

shown-size : BySize shown
unfolding shown cut
shown-size v w e = ap (λ (m : ℕ). not (eqb (units (min m one_bits)) 0)) e

-- so they say the same of slots that are alike
module _ (a b : List ℕ) (A : Alike a b) where
  all_alike : (p : ℕ → Bool) → BySize p → in_all p a ≡ in_all p b
  unfolding in_all
  all_alike p f = every-same 6 (λ i. p (get_or a (1 + i) 0)) (λ i. p (get_or b (1 + i) 0)) (λ i l. f (get_or a (1 + i) 0) (get_or b (1 + i) 0) (A.sizes i l))

  some_alike : (p : ℕ → Bool) → BySize p → (k j : ℕ) → k ≡ 1 + j → j < 4 → some_of p k a ≡ some_of p k b
  unfolding some_of
  some_alike p f k j e h = some_same 3 (λ i. p (get_or a (k + i) 0)) (λ i. p (get_or b (k + i) 0)) (λ i l. f (get_or a (k + i) 0) (get_or b (k + i) 0) (sized i l))
    where
      place : (i : ℕ) → k + i ≡ 1 + (j + i)
      place i = omega arith

      sized : (i : ℕ) → i < 3 → size (get_or a (k + i) 0) ≡ size (get_or b (k + i) 0)
      sized i l =
          ap (λ (m : ℕ). size (get_or a m 0)) (place i) ∙ (A.sizes (j + i) (omega arith) ∙ ap (λ (m : ℕ). size (get_or b m 0)) (sym (place i)))

  both-alike : (p : ℕ → Bool) → BySize p → in_both p a ≡ in_both p b
  unfolding in_both
  both-alike p f = λ z. some_alike p f 1 0 refl (omega arith) z && some_alike p f 4 3 refl (omega arith) z

  directed-alike : directed a ≡ directed b
  unfolding directed
  directed-alike = λ z. leb (A.orientation z) 1 && all_alike finite finite-size z && both-alike counted counted-size z

  present-alike : present_worth a ≡ present_worth b
  unfolding present_worth
  present-alike = λ z. cond (directed-alike z) (cond (all_alike within within-size z) (cond (both-alike shown shown-size z) good_slot short_slot) long_slot) blank_slot

  pub worth-alike : worth a ≡ worth b
  unfolding worth
  worth-alike = λ z. cond (eqb (A.present z) 0) absent_slot (cond (eqb (A.present z) 1) (present-alike z) lost_slot)
