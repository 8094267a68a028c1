-- `Mesh::caught` meets its contract. Assumes nothing.
use Rattle.std.proofs.Common.{◌∙◌}
use Rattle.mesh.specs.Parts.{given}
use Rattle.mesh.proofs.Fitting.{caught-many, caught-few, all-taken}
use Rattle.mesh.proofs.Mesh.caught.Goals as goal

pub returns-then-self-gt-FACE_LIMIT : goal.returns-then-self-gt-FACE_LIMIT
returns-then-self-gt-FACE_LIMIT c = caught-many (given c.args.self.now) c.if-self-gt-FACE_LIMIT.true

pub returns : goal.returns
returns c =
    let m = given c.args.self.now in
    c.unfit.ensures ∙ caught-few m c.corners_before-corners.result c.if-self-gt-FACE_LIMIT.false (c.corners_before-corners.ensures.0 ∙ all-taken m.sizes c.if-self-gt-FACE_LIMIT.false)
