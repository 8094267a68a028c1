-- `spaces::generate_tangent_spaces` meets its contract. Assumes nothing.
use Prim.Native.Nat.{◌-◌, ◌*◌, ◌≤◌}
use mathlib.Core.Path.{◌≡◌}
use mathlib.Core.List.{[], ◌∷◌}
use lib.ListN.{length}
use Rattle.table.specs.Columns.{columns, joined_column}
use Rattle.view.specs.Frame.{Only}
use Rattle.spaces.proofs.Kept.{reach_first}
use Rattle.spaces.proofs.generate_tangent_spaces.Given as goal

abbrev pub invariant-loop-q : goal.invariant-loop-q
invariant-loop-q l = (l.answer ≡ reach_first l.rows l.threshold l.s.groups l.s.members l.initial.work l.initial.answer l.q) × Only (joined_column ∷ []) l.rows l.initial.work l.work × (l.q ≤ l.s.groups) × (length l.answer ≡ length l.initial.answer) × (columns * l.rows ≤ length l.work)

abbrev pub decreases-loop-q : goal.decreases-loop-q
decreases-loop-q l = l.s.groups - l.q
