-- What request E5 asks of packed frames holds. Assumes nothing.
use Prim.Native.Nat.{ℕ, ◌*◌, ◌/◌, ◌≤◌, ◌<◌}
use native.Mathlib.Omega.{arith}
use mathlib.Core.Path.{◌≡◌, refl, sym, ap, ◌∙◌, subst}
use mathlib.Core.List.{List, ◌++◌}
use lib.ListN.{length, drop}
use Rattle.lists.specs.Parts.{joined}
use Rattle.lists.proofs.Parts.{length-joined, joined_same}
use Rattle.tangent.specs.Slot.{slot_words}
use Rattle.packed.specs.Rounding.{NearestWhole}
use Rattle.packed.specs.Component.{full_scale, negative, cut, scaled, parts, units, signed, component, amount}
use Rattle.packed.specs.Packer.{packed_words, PackLeft, packed_slot, slot_at, slots_in, packed_slots}
use Rattle.packed.specs.Reader.{read_words, UnpackLeft, is_packed, read_seven, seven_at, sevens_in, first_refused, read_slots, whole_read, unpack_left, FirstFailing}
use Rattle.packed.specs.Contract.{Packs, Unpacks, after_pack, after_unpack}
use Rattle.promises.specs.Packed.{Rounded, list_after, PackedPromised}
use Rattle.packed.specs.declared.Packed.{Packed}
use Rattle.packed.specs.declared.Unpacked.{Unpacked}
use Rattle.packed.proofs.Rounding.{nearest-only}
use Rattle.packed.proofs.Range.{parts-pos, units-nearest, units-le, cut-le}
use Rattle.packed.proofs.Signs.{amount-signed}
use Rattle.packed.proofs.Runs.{length-packed, part-joined, failing-all, failing-first}
use Rattle.packed.proofs.Outcomes.{read_done, pack-kept, pack_past, read_kept, read_past}
use Rattle.promises.proofs.PackedValue.{value}
use Rattle.promises.proofs.PackedSlots.{told, accepts, back}
use Rattle.promises.proofs.PackedWritten.{written}
use Rattle.promises.proofs.PackedAnswers.{packed-answers}

-- what is packed is a slot of the answer
width : (l : List ℕ) → slots_in l ≡ length l / slot_words
unfolding slots_in
width l = refl

-- the amount of a component is its units
component-amount : (w : ℕ) → units (cut w) ≡ amount (component w)
unfolding component
component-amount w = sym (amount-signed (negative w) (units (cut w)) (units-le (cut w) (cut-le w)))

rounded : (w : ℕ) → Rounded w (component w)
unfolding component units
rounded w =
    record {
      distance = subst (NearestWhole (scaled (cut w)) (parts (cut w))) (component-amount w) (units-nearest (cut w));
      only = λ q N. nearest-only (scaled (cut w)) (parts (cut w)) q (parts-pos (cut w)) N ∙ component-amount w;
      sign = ap (signed (negative w)) (component-amount w);
      range = subst (λ (q : ℕ). q ≤ full_scale) (component-amount w) (units-le (cut w) (cut-le w));
    }

-- n slots of a list, packed and read
module _ (n : ℕ) (l : List ℕ) where
  length-all : length (packed_slots n l) ≡ packed_words * n
  unfolding packed_slots
  length-all = length-joined n packed_words (λ s. packed_slot (slot_at l s)) (λ s _. length-packed (slot_at l s))

  all_in : sevens_in (packed_slots n l) ≡ n
  unfolding sevens_in
  all_in = omega (arith, length-all)

  seven-of : (s : ℕ) → s < n → seven_at (packed_slots n l) s ≡ packed_slot (slot_at l s)
  unfolding seven_at packed_slots
  seven-of s h = part-joined n packed_words (λ s. packed_slot (slot_at l s)) (λ s. length-packed (slot_at l s)) s h

  none-refused : first_refused (packed_slots n l) ≡ sevens_in (packed_slots n l)
  unfolding first_refused
  none-refused =
      failing-all (sevens_in (packed_slots n l)) (λ s. is_packed (seven_at (packed_slots n l) s)) (λ s h. ap is_packed (seven-of s (omega (arith, h, all_in))) ∙ accepts (slot_at l s))

  all_read : (a : List ℕ) → whole_read (packed_slots n l) a ≡ list_after n l a
  unfolding whole_read list_after read_slots
  all_read a =
      (λ z. record { number = 0; place = 0; answer = joined (all_in z) (λ s. read_seven (seven_at (packed_slots n l) s)) ++ drop (read_words * all_in z) a })
      ∙ (λ z. record { number = 0; place = 0; answer = joined_same n (λ s. read_seven (seven_at (packed_slots n l) s)) (λ s. read_seven (packed_slot (slot_at l s))) (λ s h. ap read_seven (seven-of s h)) z ++ drop (read_words * n) a })

  list_back : (a : List ℕ) → read_words * n ≤ length a → unpack_left (packed_slots n l) a ≡ list_after n l a
  list_back a h = sym (read_done (packed_slots n l) a (omega (arith, length-all)) (omega (arith, all_in, h)) none-refused) ∙ all_read a

-- the place of refusal 3
first-refused : (l : List ℕ) → FirstFailing (sevens_in l) (λ s. is_packed (seven_at l s)) (first_refused l)
unfolding first_refused
first-refused l = failing-first (sevens_in l) (λ s. is_packed (seven_at l s))

-- two outcomes of one call
one_packing : (l p q t : List ℕ) (r s : Packed) → Packs l p r q → Packs l p s t → (r ≡ s) × (q ≡ t)
unfolding after_pack
one_packing l p q t r s e f = let g = e ∙ sym f in (λ i. record { number = (g i).number; count = (g i).count }, ap (λ (w : PackLeft). w.packed) g)

one_reading : (l a b t : List ℕ) (r s : Unpacked) → Unpacks l a r b → Unpacks l a s t → (r ≡ s) × (b ≡ t)
unfolding after_unpack
one_reading l a b t r s e f = let g = e ∙ sym f in (λ i. record { number = (g i).number; place = (g i).place }, ap (λ (w : UnpackLeft). w.answer) g)

pub packed-promised : PackedPromised
packed-promised =
    record {
      width = width;
      value = value;
      rounded = rounded;
      told = told;
      answers = packed-answers;
      accepts = accepts;
      written = written;
      back = back;
      list_back = list_back;
      pack_refused = pack-kept;
      pack_past = pack_past;
      read_refused = read_kept;
      read_past = read_past;
      first-refused = first-refused;
      one_packing = one_packing;
      one_reading = one_reading;
    }
