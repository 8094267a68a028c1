-- A part of a list copied over is its words set one after the other. Assumes nothing.
use Prim.Native.Nat.{ℕ, ◌+◌, ◌-◌, ◌≤◌}
use native.Mathlib.Omega.{arith}
use mathlib.Core.Path.{◌≡◌, sym, ◌∙◌, ap}
use mathlib.Core.List.{List, ◌++◌, append_assoc}
use lib.ListN.{length, take, drop}
use lib.Seq.{sets, sets-eq}
use borrow.Rule.Slice.PartMut.{put_mid, Post-is}

pub part_set : (at n : ℕ) (words l ys : List ℕ) → ys ≡ words → n ≡ length words → at + n ≤ length l → put_mid at (at + n - at) l ys ≡ sets l at words
part_set at n words l ys e k h =
    (λ i. put_mid at (at + k i - at) l (e i))
    ∙ ap (λ (p : List ℕ). take at l ++ (words ++ p)) (Post-is at (at + length words) l (omega arith))
    ∙ sym (sets-eq words l at (omega arith) ∙ append_assoc (take at l) words (drop (at + length words) l))
