-- `examine::examine` meets its contract. Assumes nothing.
use mathlib.Core.Path.{refl}
use lib.ListN.{length}
use Rattle.std.proofs.Common.{rules}
use Rattle.definition.specs.Handed.{handed}
use Rattle.mikktspace.proofs.Verdicts.{no-refusal}
use Rattle.examine.proofs.Accepted.{Accepts, Says}
use Rattle.examine.proofs.Results.{examines-refused, examines-decided}
use Rattle.examine.proofs.examine.Goals as goal

pub returns-in-Err : goal.returns-in-Err
returns-in-Err c =
    let t = c.args in
    let mesh = handed t.sizes.now t.positions.now t.normals.now t.texture.now in
    let said : Says mesh (length t.work.now) c.in-Err.refusal = grind rules in
    examines-refused mesh t.links.now t.groups.now t.orientations.now t.work.now c.in-Err.refusal _ said (λ i. record { refusal = c.number.ensures i; objection = 0; place = c.place.ensures i })

pub decide-requires : goal.decide-requires
decide-requires c =
    let t = c.args in
    let said : Accepts (handed t.sizes.now t.positions.now t.normals.now t.texture.now) (length t.work.now) = grind rules in
    no-refusal _ said

pub returns-in-Ok : goal.returns-in-Ok
returns-in-Ok c =
    let t = c.args in
    let mesh = handed t.sizes.now t.positions.now t.normals.now t.texture.now in
    let said : Accepts mesh (length t.work.now) = grind rules in
    examines-decided mesh t.links.now t.groups.now t.orientations.now t.work.now _ _ (no-refusal _ said) (record { number = refl; decides = c.in-Ok.ensures.decides; work = c.in-Ok.ensures.clears })

pub returns-in-Err-decide : goal.returns-in-Err-decide
returns-in-Err-decide c =
    let t = c.args in
    let mesh = handed t.sizes.now t.positions.now t.normals.now t.texture.now in
    let said : Accepts mesh (length t.work.now) = grind rules in
    examines-decided mesh t.links.now t.groups.now t.orientations.now t.work.now _ _ (no-refusal _ said) (record { number = refl; decides = rw c.from.ensures c.in-Err-decide.ensures.decides; work = c.in-Err-decide.ensures.clears })
