-- A slot of an accepted call, packed: where it is there and packed as absent, a finite component is beyond 3F800008. Assumes nothing.
use Prim.Native.Nat.{ℕ, ◌+◌, ◌/◌, ◌%◌, ◌≤◌, ◌<◌}
use native.Mathlib.Omega.{arith}
use mathlib.Core.Path.{◌≡◌, refl, sym, ap, ◌∙◌, subst}
use mathlib.Core.Bool.{Bool, true, false, cond}
use mathlib.Core.Logic.{◌⊎◌, inl, inr}
use mathlib.Core.List.{List}
use lib.Dec.{T, eqb}
use lib.ListN.{get_or, replicate}
use lib.Ieee.{Float, nan, inf, binary32, of_fields}
use Rattle.bits.specs.Word.{number, is_finite}
use Rattle.tangent.specs.declared.Reading.{Reading}
use Rattle.tangent.specs.declared.Reading.TheVariants.{Absent, Single, Combined, Copied, Filled}
use Rattle.tangent.specs.Slot.{slot_words, flag, ten_words, present, words}
use Rattle.view.specs.Answer.{HasSlot}
use Rattle.packed.specs.Component.{nothing, furthest, leading, size, negative}
use Rattle.packed.specs.Packer.{packed_words, packed_slot}
use Rattle.packed.proofs.Rounding.{below_or_not}
use Rattle.mikktspace.specs.Contract.{left}
use Rattle.definition.specs.Handed.{Call}
use Rattle.promises.specs.Calls.{reading_at}
use Rattle.promises.specs.Directions.{slot_in, FiniteWords, Promised}
use Rattle.promises.specs.PublicCall.{Made, remains}
use Rattle.promises.specs.Packed.{infinity_bits, Lacks, unmarked, turned, beyond, Holds, PackedAnswer, absent, too_far, there}
use Rattle.promises.proofs.Directions.{taken-slot, directions}
use Rattle.promises.proofs.PackedSlots.{told}
use Rattle.promises.proofs.PackedValue.{fields}
use Rattle.promises.proofs.PublicCall.{answers}

-- an exponent's field of all ones is no finite number's
not_finite : (s : Bool) (t : ℕ) → T (is_finite (of_fields binary32 s 255 t)) → ⊥
unfolding of_fields is_finite
not_finite s t h = go (eqb t 0) h
  where
    go : (b : Bool) → T (is_finite (cond b (inf s) nan)) → ⊥
    go true h = h
    go false h = h

-- the bits of a finite number are below those of the infinity, sign apart
finite-size : (w : ℕ) → T (is_finite (number w)) → size w < infinity_bits
finite-size w h = below_or_not (size w) infinity_bits (λ l. l) (λ l. absurd (not_finite (negative w) (w % leading) (subst (λ (x : Float). T (is_finite x)) (fields w ∙ ap (λ (e : ℕ). of_fields binary32 (negative w) e (w % leading)) (all l)) h)))
  where
    all : infinity_bits ≤ size w → size w / leading ≡ 255
    all l = omega arith

-- a slot that is there is marked, and its orientation word is 0 or 1
record Marked (slot : List ℕ) : Type 0 where
  first : get_or slot 0 0 ≡ 1
  last : get_or slot 9 0 ≤ 1

flag-low : (o : Bool) → flag o ≤ 1
unfolding flag
flag-low true = omega arith
flag-low false = omega arith

marked-or-not : (r : Reading) → (words r ≡ replicate slot_words 0) ⊎ Marked (words r)
unfolding words present ten_words
marked-or-not Absent = inl refl
marked-or-not (Single u o) = inr (record { first = refl; last = flag-low o })
marked-or-not (Combined u o) = inr (record { first = refl; last = flag-low o })
marked-or-not (Copied u o) = inr (record { first = refl; last = flag-low o })
marked-or-not (Filled u o) = inr (record { first = refl; last = flag-low o })

-- such a slot, packed
packed-there : (slot : List ℕ) → Marked slot → FiniteWords slot → PackedAnswer slot
unfolding FiniteWords
packed-there slot M F = go (told slot)
  where
    lacking : Lacks slot → packed_slot slot ≡ replicate packed_words nothing → PackedAnswer slot
    lacking (unmarked h) p = absurd (h M.first)
    lacking (turned h) p = absurd (let l = M.last in omega (arith, h, l))
    lacking (beyond i l h) p = too_far M.first i l h (finite-size (get_or slot (1 + i) 0) (F i l)) p

    go : (Lacks slot × (packed_slot slot ≡ replicate packed_words nothing)) ⊎ ((Lacks slot → ⊥) × Holds slot (packed_slot slot)) → PackedAnswer slot
    go (inl (L, p)) = lacking L p
    go (inr (n, H)) = there M.first (λ i l. below_or_not furthest (size (get_or slot (1 + i) 0)) (λ h. absurd (n (beyond i l h))) (λ h. h)) H

-- an absent slot, packed
packed-absent : (slot : List ℕ) → slot ≡ replicate slot_words 0 → PackedAnswer slot
packed-absent slot e = go (told slot)
  where
    zero-mark : get_or slot 0 0 ≡ 1 → ⊥
    zero-mark h = let z : get_or slot 0 0 ≡ 0 = ap (λ (l : List ℕ). get_or l 0 0) e in omega (arith, h, z)

    go : (Lacks slot × (packed_slot slot ≡ replicate packed_words nothing)) ⊎ ((Lacks slot → ⊥) × Holds slot (packed_slot slot)) → PackedAnswer slot
    go (inl (L, p)) = absent e p
    go (inr (n, H)) = absurd (n (unmarked zero-mark))

pub packed-answers : (x : Call) (m : Made x) → m.returned.number ≡ 0 → (f i : ℕ) → HasSlot x.mesh.sizes f i → PackedAnswer (slot_in x.mesh.sizes f i m.answer)
unfolding left Promised
packed-answers x m n f i h = go (marked-or-not (reading_at x f i))
  where
    slot : List ℕ
    slot = slot_in x.mesh.sizes f i m.answer

    is : slot ≡ words (reading_at x f i)
    is = taken-slot x (remains m) (answers x m) n f i h

    go : (words (reading_at x f i) ≡ replicate slot_words 0) ⊎ Marked (words (reading_at x f i)) → PackedAnswer slot
    go (inl e) = packed-absent slot (is ∙ e)
    go (inr M) = packed-there slot (subst Marked (sym is) M) (directions x (remains m) (answers x m) n f i h)
