-- `desk::flaws_in` meets its contract. The invariant: what was found, or else is found in the corners that are left, is what all of them give, for each of the two tests. Assumes nothing.
use Prim.Native.Nat.{◌+◌, ◌-◌}
use mathlib.Core.Path.{◌≡◌}
use Rattle.definition.specs.Desk.{finite_corner, has_normal}
use Rattle.desk.specs.Verdict.{unless_found}
use Rattle.desk.proofs.Bad.{lowest, Gives}
use Rattle.desk.proofs.flaws_in.Given as goal

abbrev pub invariant-loop-i : goal.invariant-loop-i
invariant-loop-i l =
    let m = l.mesh in
    Gives finite_corner m.positions.now m.normals.now m.texture.now l.flaws.bad l.i (l.from + l.count - l.i) (unless_found l.initial.flaws.bad (lowest finite_corner m.positions.now m.normals.now m.texture.now l.from l.count))
    × Gives has_normal m.positions.now m.normals.now m.texture.now l.flaws.bare l.i (l.from + l.count - l.i) (unless_found l.initial.flaws.bare (lowest has_normal m.positions.now m.normals.now m.texture.now l.from l.count))
