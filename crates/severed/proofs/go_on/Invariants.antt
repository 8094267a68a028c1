-- `severed::go_on` meets its contract. Assumes nothing.
use Prim.Native.Nat.{◌*◌, ◌<◌}
use mathlib.Core.Path.{◌≡◌}
use mathlib.Core.List.{[], ◌∷◌}
use Rattle.std.proofs.Common.{IfSome, unwrap_or}
use Rattle.table.specs.Table.{cell}
use Rattle.table.specs.Columns.{next_column}
use Rattle.view.specs.Frame.{Only}
use Rattle.asked.specs.Groups.{group_word}
use Rattle.severed.specs.Walk.{Goes, unmarked}
use Rattle.severed.proofs.go_on.Given as goal

abbrev pub invariant-loop-next : goal.invariant-loop-next
invariant-loop-next l = IfSome l.next (λ x. (x < 3 * l.tris) × (group_word l.groups x ≡ 0 → ⊥) × (cell l.rows next_column x l.work ≡ 0)) × Only (next_column ∷ []) l.rows l.initial.work l.work × Goes l.rows l.tris l.given l.groups l.back (unwrap_or l.fn.start (3 * l.tris)) (unwrap_or l.next (3 * l.tris)) l.initial.work l.work

abbrev pub decreases-loop-next : goal.decreases-loop-next
decreases-loop-next l = unmarked l.rows l.work
