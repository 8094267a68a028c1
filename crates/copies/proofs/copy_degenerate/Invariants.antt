-- `copies::copy_degenerate` meets its contract. The invariant: the triangles before number t have copied. Assumes nothing.
use Prim.Native.Nat.{◌-◌, ◌≤◌}
use mathlib.Core.Path.{◌≡◌}
use lib.ListN.{length}
use Rattle.copies.specs.Copies.{broken_copied}
use Rattle.copies.proofs.copy_degenerate.Given as goal

abbrev pub invariant-loop-t : goal.invariant-loop-t
invariant-loop-t l = (l.answer ≡ broken_copied l.rows l.sound l.work l.t l.initial.answer) × (l.sound ≤ l.t) × (l.t ≤ l.all) × (length l.answer ≡ length l.initial.answer)

abbrev pub decreases-loop-t : goal.decreases-loop-t
decreases-loop-t l = l.all - l.t
