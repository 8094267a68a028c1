-- A part of a list copied over; a slot that is written or copied, where the list has it. Assumes nothing.
use Prim.Native.Nat.{ℕ, ◌+◌, ◌-◌, ◌/◌, ◌*◌, ◌≤◌, ◌<◌}
use native.Mathlib.Omega.{arith}
use mathlib.Core.Path.{◌≡◌, sym, ◌∙◌, ap}
use mathlib.Core.Bool.{Bool, cond}
use mathlib.Core.List.{List, ◌++◌, append_assoc}
use lib.ListN.{length, take, drop}
use lib.Seq.{sets, sets-eq}
use borrow.Author.Tests.{lt-ltb}
use borrow.Rule.Slice.PartMut.{put_mid, Post-is}
use Rattle.tangent.specs.Slot.{slot_words}
use Rattle.slots.specs.Slots.{written_at, copy_at, copied_at}

-- a part copied over is its words set one after the other
pub part_set : (at n : ℕ) (words l ys : List ℕ) → ys ≡ words → n ≡ length words → at + n ≤ length l → put_mid at (at + n - at) l ys ≡ sets l at words
part_set at n words l ys e k h =
    (λ i. put_mid at (at + k i - at) l (e i))
    ∙ ap (λ (p : List ℕ). take at l ++ (words ++ p)) (Post-is at (at + length words) l (omega arith))
    ∙ sym (sets-eq words l at (omega arith) ∙ append_assoc (take at l) words (drop (at + length words) l))

-- a slot that the list has, written
pub written-there : (slot : ℕ) (ws a : List ℕ) → slot < length a / slot_words → written_at slot ws a ≡ sets a (slot_words * slot) ws
unfolding written_at
written-there slot ws a h = ap (λ (b : Bool). cond b (sets a (slot_words * slot) ws) a) (lt-ltb slot (length a / slot_words) h)

-- a slot that the list has, copied
pub copied-there : (quad : Bool) (from to : ℕ) (a : List ℕ) → from < length a / slot_words → copied_at quad from to a ≡ written_at to (copy_at quad from a) a
unfolding copied_at
copied-there quad from to a h = ap (λ (b : Bool). cond b (written_at to (copy_at quad from a) a) a) (lt-ltb from (length a / slot_words) h)
