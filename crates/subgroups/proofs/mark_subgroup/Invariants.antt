-- `subgroups::mark_subgroup` meets its contract. Assumes nothing.
use Prim.Native.Nat.{◌-◌, ◌≤◌}
use mathlib.Core.Path.{◌≡◌}
use mathlib.Core.Bool.{true}
use mathlib.Core.List.{[], ◌∷◌}
use Rattle.table.specs.Columns.{joined_column}
use Rattle.view.specs.Frame.{Only}
use Rattle.subgroups.specs.Subgroups.{Marked}
use Rattle.subgroups.proofs.mark_subgroup.Given as goal

abbrev pub invariant-loop-p : goal.invariant-loop-p
invariant-loop-p l = Marked l.rows l.threshold l.m l.from (l.p - l.from) l.initial.work l.work × (l.same ≡ true → l.work ≡ l.initial.work) × (l.from ≤ l.p) × (l.p ≤ l.to) × Only (joined_column ∷ []) l.rows l.initial.work l.work

abbrev pub decreases-loop-p : goal.decreases-loop-p
decreases-loop-p l = l.to - l.p
