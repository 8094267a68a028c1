-- Every seven that the reader accepts is written for some slot. Assumes nothing.
use Prim.Native.Nat.{ℕ, zero, suc, ◌^◌, ◌≤◌, ◌<◌}
use native.Mathlib.Omega.{arith}
use mathlib.Core.Path.{◌≡◌, refl, sym, ap, ◌∙◌}
use mathlib.Core.Bool.{Bool, true, false, not, ◌&&◌, ◌||◌}
use mathlib.Core.List.{List, [], ◌∷◌}
use lib.ListN.{length, get_or, replicate}
use lib.Seq.{ext_get_or}
use lib.Dec.{eqb, lit<, lit≤}
use borrow.Author.Tests.{eqb-true, eqb-false, le-leb, not-true}
use Rattle.bits.proofs.Bools.{and_left, and_right}
use Rattle.lists.specs.Loops.{list_of}
use Rattle.lists.proofs.Loops.{length-list_of, get_or-list_of}
use Rattle.lists.specs.Parts.{every_below}
use Rattle.lists.proofs.Parts.{every-at}
use Rattle.tangent.specs.Slot.{slot_words}
use Rattle.packed.specs.Component.{nothing, short_minus_one}
use Rattle.packed.specs.Packer.{packed_words, has_frame, packed_facing, frame, frame_packed, packed_slot}
use Rattle.packed.specs.Reader.{all_nothing, framed, is_packed}
use Rattle.promises.specs.Packed.{Seven, WrittenFor}
use Rattle.promises.proofs.PackedFound.{Packed, packed_all}

-- seven numbers by their places
seven_is : (ns : List ℕ) → length ns ≡ packed_words → ns ≡ list_of packed_words (λ i. get_or ns i 0)
seven_is ns e = ext_get_or 0 ns (list_of packed_words (λ i. get_or ns i 0)) (e ∙ sym (length-list_of packed_words (λ i. get_or ns i 0))) (λ i l. sym (get_or-list_of packed_words (λ i. get_or ns i 0) 0 i (omega (arith, l, e))))

-- words of 32 bits, one after another
data Words : List ℕ → Type 0 where
  none : Words []
  more : {x : ℕ} {l : List ℕ} → x < 2 ^ 32 → Words l → Words (x ∷ l)

word_lt : (l : List ℕ) → Words l → (i : ℕ) → get_or l i 0 < 2 ^ 32
word_lt [] none i = lit< tt
word_lt (x ∷ l) (more h r) zero = h
word_lt (x ∷ l) (more h r) (suc i) = word_lt l r i

zeros : (n : ℕ) → Words (replicate n 0)
zeros zero = none
zeros (suc n) = more (lit< tt) (zeros n)

-- seven times -32,768 is written for a slot of zeros
nothing_written : (ns : List ℕ) → Seven ns → all_nothing ns ≡ true → WrittenFor ns
unfolding all_nothing packed_slot frame_packed has_frame list_of
nothing_written ns S h =
    record {
      slot = replicate slot_words 0;
      is_slot = record { whole = refl; words = word_lt (replicate slot_words 0) (zeros slot_words) };
      packs = sym (seven_is ns S.seven ∙ (λ z. each 0 (lit< tt) z ∷ each 1 (lit< tt) z ∷ each 2 (lit< tt) z ∷ each 3 (lit< tt) z ∷ each 4 (lit< tt) z ∷ each 5 (lit< tt) z ∷ each 6 (lit< tt) z ∷ []));
    }
  where
    each : (i : ℕ) → i < packed_words → get_or ns i 0 ≡ nothing
    each i l = eqb-true _ _ (every-at packed_words i (λ i. eqb (get_or ns i 0) nothing) h l)

-- a frame is written for a slot of six words that are packed as its numbers, and an orientation
module _ (ns : List ℕ) (S : Seven ns) (P : (i : ℕ) → i < 6 → Packed (get_or ns i 0)) (o : ℕ) (turn : packed_facing o ≡ get_or ns 6 0) (least : o ≤ 1) where
  slot : List ℕ
  slot =
      1 ∷ (P 0 (lit< tt)).word ∷ (P 1 (lit< tt)).word ∷ (P 2 (lit< tt)).word ∷ (P 3 (lit< tt)).word ∷ (P 4 (lit< tt)).word ∷ (P 5 (lit< tt)).word ∷ 0 ∷ 0 ∷ o ∷ 0 ∷ 0 ∷ []

  there : has_frame slot ≡ true
  unfolding has_frame every_below slot
  there =
      λ z. le-leb o 1 least z && ((P 0 (lit< tt)).inside z && (P 1 (lit< tt)).inside z && (P 2 (lit< tt)).inside z && (P 3 (lit< tt)).inside z && (P 4 (lit< tt)).inside z && (P 5 (lit< tt)).inside z)

  numbers : frame slot ≡ list_of packed_words (λ i. get_or ns i 0)
  unfolding frame list_of slot
  numbers = λ z. (P 0 (lit< tt)).is z ∷ (P 1 (lit< tt)).is z ∷ (P 2 (lit< tt)).is z ∷ (P 3 (lit< tt)).is z ∷ (P 4 (lit< tt)).is z ∷ (P 5 (lit< tt)).is z ∷ turn z ∷ []

  fits : (i : ℕ) → get_or slot i 0 < 2 ^ 32
  unfolding slot
  fits =
      word_lt slot
      (more (lit< tt) (more (P 0 (lit< tt)).fits (more (P 1 (lit< tt)).fits (more (P 2 (lit< tt)).fits (more (P 3 (lit< tt)).fits (more (P 4 (lit< tt)).fits (more (P 5 (lit< tt)).fits
      (more (lit< tt) (more (lit< tt) (more (omega arith) (more (lit< tt) (more (lit< tt) none))))))))))))

  whole : length slot ≡ slot_words
  unfolding slot
  whole = refl

  frame-written : WrittenFor ns
  unfolding packed_slot frame_packed
  frame-written =
      record {
        slot = slot;
        is_slot = record { whole = whole; words = fits };
        packs = ap (λ (t : Bool). frame_packed t slot) there ∙ (numbers ∙ sym (seven_is ns S.seven));
      }

-- and so every frame is
turned-written : (ns : List ℕ) → Seven ns → framed ns ≡ true → WrittenFor ns
unfolding framed packed_facing
turned-written ns S h = go (eqb (get_or ns 6 0) 1) refl
  where
    six : every_below 6 (λ i. not (eqb (get_or ns i 0) nothing)) ≡ true
    six = and_left (every_below 6 (λ i. not (eqb (get_or ns i 0) nothing))) (eqb (get_or ns 6 0) 1 || eqb (get_or ns 6 0) short_minus_one) h

    either : (eqb (get_or ns 6 0) 1 || eqb (get_or ns 6 0) short_minus_one) ≡ true
    either = and_right (every_below 6 (λ i. not (eqb (get_or ns i 0) nothing))) (eqb (get_or ns 6 0) 1 || eqb (get_or ns 6 0) short_minus_one) h

    words : (i : ℕ) → i < 6 → Packed (get_or ns i 0)
    words i l = packed_all (get_or ns i 0) (S.words i) (eqb-false (get_or ns i 0) nothing (not-true (eqb (get_or ns i 0) nothing) (every-at 6 i (λ i. not (eqb (get_or ns i 0) nothing)) six l)))

    go : (t : Bool) → eqb (get_or ns 6 0) 1 ≡ t → WrittenFor ns
    go true e = frame-written ns S words 1 (sym (eqb-true (get_or ns 6 0) 1 e)) (lit≤ tt)
    go false e = frame-written ns S words 0 (sym (eqb-true (get_or ns 6 0) short_minus_one (sym (ap (λ (t : Bool). t || eqb (get_or ns 6 0) short_minus_one) e) ∙ either))) (lit≤ tt)

pub written : (ns : List ℕ) → Seven ns → is_packed ns ≡ true → WrittenFor ns
unfolding is_packed
written ns S h = go (all_nothing ns) refl
  where
    go : (t : Bool) → all_nothing ns ≡ t → WrittenFor ns
    go true e = nothing_written ns S e
    go false e = turned-written ns S (sym (ap (λ (t : Bool). t || framed ns) e) ∙ h)
