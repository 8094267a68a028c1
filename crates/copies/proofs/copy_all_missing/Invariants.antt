-- `copies::copy_all_missing` meets its contract. The invariant: the quads of the triangles before number t have copied. Assumes nothing.
use Prim.Native.Nat.{◌-◌, ◌≤◌}
use mathlib.Core.Path.{◌≡◌}
use lib.ListN.{length}
use Rattle.copies.specs.Copies.{missings_copied}
use Rattle.copies.proofs.copy_all_missing.Given as goal

abbrev pub invariant-loop-t : goal.invariant-loop-t
invariant-loop-t l = (l.answer ≡ missings_copied l.rows l.positions l.work l.t l.initial.answer) × (l.t ≤ l.sound) × (length l.answer ≡ length l.initial.answer)

abbrev pub decreases-loop-t : goal.decreases-loop-t
decreases-loop-t l = l.sound - l.t
