-- What a call leaves behind, ground by ground. Assumes nothing.
use Prim.Native.Nat.{ℕ, ◌*◌, ◌%◌, ◌≤◌, ◌<◌}
use mathlib.Core.Path.{◌≡◌, refl}
use mathlib.Core.Bool.{Bool, true, false, cond}
use mathlib.Core.List.{List}
use lib.ListN.{length, drop}
use lib.Seq.{drop_at}
use lib.Dec.{eqb, leb}
use Rattle.lists.proofs.Parts.{length-joined}
use borrow.Author.Tests.{eq-eqb, ne_eqb, le-leb, lt-leb}
use Rattle.tangent.specs.Slot.{slot_words}
use Rattle.packed.specs.Packer.{packed_words, packed_slot, slot_at, slots_in, packed_slots, PackLeft, pack_left, all_packed, not_packed}
use Rattle.packed.specs.Reader.{read_words, read_seven, seven_at, sevens_in, first_refused, read_slots, UnpackLeft, unpack_left, whole_read, not_read}
use Rattle.packed.proofs.Runs.{length-packed, length-read}

-- the packer: not whole records; then too short; then packed
module _ (l p : List ℕ) where
  pub pack-broken : (length l % slot_words ≡ 0 → ⊥) → not_packed 1 p ≡ pack_left l p
  unfolding pack_left
  pack-broken h = simp (ne_eqb _ _ h)

  pub pack-short : length l % slot_words ≡ 0 → length p < packed_words * slots_in l → not_packed 2 p ≡ pack_left l p
  unfolding pack_left
  pack-short e h = simp (eq-eqb _ _ e, lt-leb _ _ h)

  pub pack-done : length l % slot_words ≡ 0 → packed_words * slots_in l ≤ length p → all_packed l p ≡ pack_left l p
  unfolding pack_left
  pack-done e h = simp (eq-eqb _ _ e, le-leb _ _ h)

-- the reader: not whole sevens; then too short; then a seven that the packer can't write; then read
module _ (l a : List ℕ) where
  pub read-broken : (length l % packed_words ≡ 0 → ⊥) → not_read 1 0 a ≡ unpack_left l a
  unfolding unpack_left
  read-broken h = simp (ne_eqb _ _ h)

  pub read_short : length l % packed_words ≡ 0 → length a < read_words * sevens_in l → not_read 2 0 a ≡ unpack_left l a
  unfolding unpack_left
  read_short e h = simp (eq-eqb _ _ e, lt-leb _ _ h)

  pub read_refused : length l % packed_words ≡ 0 → read_words * sevens_in l ≤ length a → (first_refused l ≡ sevens_in l → ⊥) → not_read 3 (first_refused l) a ≡ unpack_left l a
  unfolding unpack_left
  read_refused e h f = simp (eq-eqb _ _ e, le-leb _ _ h, ne_eqb _ _ f)

  pub read_done : length l % packed_words ≡ 0 → read_words * sevens_in l ≤ length a → first_refused l ≡ sevens_in l → whole_read l a ≡ unpack_left l a
  unfolding unpack_left
  read_done e h f = simp (eq-eqb _ _ e, le-leb _ _ h, eq-eqb _ _ f)

-- a refusal alters nothing, and nothing past what is written is altered: the packer, by its two tests
module _ (l p : List ℕ) where
  abbrev packing : Bool → Bool → PackLeft
  packing x y = cond x (cond y (all_packed l p) (not_packed 2 p)) (not_packed 1 p)

  pub pack-kept : ((pack_left l p).number ≡ 0 → ⊥) → (pack_left l p).packed ≡ p
  unfolding pack_left all_packed not_packed
  pack-kept = go (eqb (length l % slot_words) 0) (leb (packed_words * slots_in l) (length p))
    where
      go : (x y : Bool) → ((packing x y).number ≡ 0 → ⊥) → (packing x y).packed ≡ p
      go true true h = absurd (h refl)
      go true false h = refl
      go false y h = refl

  pub pack_past : drop (packed_words * slots_in l) (pack_left l p).packed ≡ drop (packed_words * slots_in l) p
  unfolding pack_left all_packed not_packed packed_slots
  pack_past = go (eqb (length l % slot_words) 0) (leb (packed_words * slots_in l) (length p))
    where
      go : (x y : Bool) → drop (packed_words * slots_in l) (packing x y).packed ≡ drop (packed_words * slots_in l) p
      go true true = drop_at (packed_slots (slots_in l) l) (drop (packed_words * slots_in l) p) (packed_words * slots_in l) (length-joined (slots_in l) packed_words (λ s. packed_slot (slot_at l s)) (λ s _. length-packed (slot_at l s)))
      go true false = refl
      go false y = refl

-- and the reader, by its three
module _ (l a : List ℕ) where
  abbrev reading : Bool → Bool → Bool → UnpackLeft
  reading x y z = cond x (cond y (cond z (whole_read l a) (not_read 3 (first_refused l) a)) (not_read 2 0 a)) (not_read 1 0 a)

  pub read_kept : ((unpack_left l a).number ≡ 0 → ⊥) → (unpack_left l a).answer ≡ a
  unfolding unpack_left whole_read not_read
  read_kept = go (eqb (length l % packed_words) 0) (leb (read_words * sevens_in l) (length a)) (eqb (first_refused l) (sevens_in l))
    where
      go : (x y z : Bool) → ((reading x y z).number ≡ 0 → ⊥) → (reading x y z).answer ≡ a
      go true true true h = absurd (h refl)
      go true true false h = refl
      go true false z h = refl
      go false y z h = refl

  pub read_past : drop (read_words * sevens_in l) (unpack_left l a).answer ≡ drop (read_words * sevens_in l) a
  unfolding unpack_left whole_read not_read read_slots
  read_past = go (eqb (length l % packed_words) 0) (leb (read_words * sevens_in l) (length a)) (eqb (first_refused l) (sevens_in l))
    where
      go : (x y z : Bool) → drop (read_words * sevens_in l) (reading x y z).answer ≡ drop (read_words * sevens_in l) a
      go true true true = drop_at (read_slots (sevens_in l) l) (drop (read_words * sevens_in l) a) (read_words * sevens_in l) (length-joined (sevens_in l) read_words (λ s. read_seven (seven_at l s)) (λ s _. length-read (seven_at l s)))
      go true true false = refl
      go true false z = refl
      go false y z = refl
