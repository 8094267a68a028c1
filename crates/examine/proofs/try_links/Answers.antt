-- `examine::try_links` meets its contract. Assumes nothing.
use mathlib.Core.Path.{sym, ◌∙◌}
use lib.ListN.{length}
use Rattle.std.proofs.lemmas.Result.{err_from_is_err_and}
use Rattle.std.proofs.Common.{rules}
use Rattle.mesh.specs.Parts.{given}
use Rattle.mikktspace.proofs.Verdicts.{no-refusal}
use Rattle.examine.proofs.Accepted.{Accepts, Says, known}
use Rattle.examine.proofs.Results.{hands-refused, hands-short, hands-given, long-enough}
use Rattle.examine.proofs.try_links.Goals as goal

pub returns-in_err-ask : goal.returns-in_err-ask
returns-in_err-ask c =
    let t = c.args in
    let p = err_from_is_err_and c.from_residual.result c.from_residual.ensures.1 in
    let said : Says (given t.mesh.now) (length t.work.now) c.in_err-ask.field-0.0 = grind rules in
    rw (p.1, p.2) (hands-refused (given t.mesh.now) t.links.now t.groups.now t.orientations.now t.work.now _ said)

pub short-few-requires : goal.short-few-requires
short-few-requires c =
    let t = c.args in
    let said : Accepts (given t.mesh.now) (length t.work.now) = grind rules in
    (known t.mesh.now _ (no-refusal _ said)).few

pub returns-then-few : goal.returns-then-few
returns-then-few c =
    let t = c.args in
    let said : Accepts (given t.mesh.now) (length t.work.now) = grind rules in
    hands-short (given t.mesh.now) t.links.now t.groups.now t.orientations.now t.work.now _ c.short-few.ensures (no-refusal _ said) c.if-few.true

pub hand_out-requires : goal.hand_out-requires
hand_out-requires c =
    let t = c.args in
    let l = long-enough _ _ _ _ (sym c.short-few.ensures ∙ c.if-few.false) in
    let said : Accepts (given t.mesh.now) (length t.work.now) = grind rules in
    (no-refusal _ said, l.0, l.1, l.2)

pub returns : goal.returns
returns c =
    let t = c.args in
    let said : Accepts (given t.mesh.now) (length t.work.now) = grind rules in
    hands-given (given t.mesh.now) t.links.now t.groups.now t.orientations.now t.work.now _ c.short-few.ensures (no-refusal _ said) _ _ _ _ _ c.if-few.false c.hand_out.ensures
