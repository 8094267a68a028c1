-- Proof that `weld` meets its contract. The invariant: the first r rows are welded. Assumes nothing.
use Prim.Native.Nat.{◌-◌, ◌≤◌}
use Rattle.view.specs.Frame.{Only}
use Rattle.weld.specs.Welding.{GoingIn, weld_columns}
use Rattle.weld.proofs.weld.Given as goal

abbrev pub invariant-loop-r : goal.invariant-loop-r
invariant-loop-r l = GoingIn l.rows l.r l.mesh.positions.now l.mesh.normals.now l.mesh.texture.now l.work × Only weld_columns l.rows l.initial.work l.work × (l.r ≤ l.n)

abbrev pub decreases-loop-r : goal.decreases-loop-r
decreases-loop-r l = l.n - l.r
