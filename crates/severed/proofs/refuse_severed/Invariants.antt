-- `severed::refuse_severed` meets its contract. Assumes nothing.
use Prim.Native.Nat.{◌*◌, ◌-◌, ◌≤◌}
use mathlib.Core.List.{[], ◌∷◌}
use Rattle.table.specs.Columns.{next_column}
use Rattle.view.specs.Frame.{Only}
use Rattle.severed.specs.Walk.{WalksTo}
use Rattle.severed.proofs.refuse_severed.Given as goal

abbrev pub invariant-loop-r : goal.invariant-loop-r
invariant-loop-r l = (l.r ≤ 3 * l.tris) × WalksTo l.rows l.tris l.given l.groups l.r l.work × Only (next_column ∷ []) l.rows l.initial.work l.work

abbrev pub decreases-loop-r : goal.decreases-loop-r
decreases-loop-r l = 3 * l.tris - l.r
