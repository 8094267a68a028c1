-- `neighbors::link_all` meets its contract. The invariant: the list has the turns of all places below `near`, and the cursors stand as they may.
-- The measure: both move at most n places, so that there are at most 2n steps. Assumes nothing.
use Prim.Native.Nat.{◌+◌, ◌*◌, ◌-◌}
use mathlib.Core.Path.{◌≡◌}
use mathlib.Core.List.{[], ◌∷◌}
use Rattle.lists.specs.Loops.{up_to}
use Rattle.table.specs.Columns.{link_column}
use Rattle.view.specs.Frame.{Only}
use Rattle.neighbors.specs.Links.{turn}
use Rattle.neighbors.specs.Cursors.{Stands}
use Rattle.neighbors.proofs.link_all.Given as goal

abbrev pub invariant-loop-c : goal.invariant-loop-c
invariant-loop-c l = Stands l.rows l.n l.c.near l.c.far l.work × (l.work ≡ up_to l.c.near (turn l.rows l.n) l.initial.work) × Only (link_column ∷ []) l.rows l.initial.work l.work

abbrev pub decreases-loop-c : goal.decreases-loop-c
decreases-loop-c l = 2 * l.n - (l.c.near + l.c.far)
