-- `labels::try_labels` meets its contract: what the desk says, 9, and else the numbers. Assumes nothing.
use native.Mathlib.Omega.{arith}
use mathlib.Core.Path.{sym, ap, ◌∙◌}
use borrow.Author.Tests.{lt-ltb, le-ltb}
use lib.ListN.{length}
use Rattle.std.proofs.lemmas.Result.{err_from_is_err_and}
use Rattle.bits.specs.Single.{zeroᶠ}
use Rattle.definition.specs.Desk.{shown}
use Rattle.mesh.specs.Parts.{given}
use Rattle.mikktspace.proofs.Verdicts.{no-refusal}
use Rattle.mikktspace.specs.Alone.{desk_verdict, longest_answer}
use Rattle.labels.specs.Labels.{answered, labelled_of, accepted_labels, labels_verdict, labels_outcome}
use Rattle.islands.proofs.Nine.{passes}
use Rattle.labels.proofs.Verdicts.{refused, too_short}
use Rattle.labels.proofs.try_labels.Goals as goal

pub returns-in_err-judge : goal.returns-in_err-judge
unfolding labels_outcome labels_verdict
returns-in_err-judge c =
    let a = c.args in
    let m = given a.mesh.now in
    let p = err_from_is_err_and c.from_residual.result c.from_residual.ensures.1 in
    rw (p.1, p.2) (refused _ _ _ _ a.labels.now a.work.now c.in_err-judge.ensures)

pub returns-then-few : goal.returns-then-few
unfolding labels_outcome labels_verdict
returns-then-few c =
    let a = c.args in
    let m = given a.mesh.now in
    let no = no-refusal (shown m zeroᶠ longest_answer (length a.work.now)) c.in_ok-judge.ensures in
    too_short _ _ _ a.labels.now a.work.now no (lt-ltb (length a.labels.now) (length m.sizes) (omega arith))

pub number_faces-requires : goal.number_faces-requires
unfolding labels_verdict
number_faces-requires c =
    let a = c.args in
    let m = given a.mesh.now in
    let no = no-refusal (shown m zeroᶠ longest_answer (length a.work.now)) c.in_ok-judge.ensures in
    passes _ _ no (le-ltb (length a.labels.now) (length m.sizes) (omega arith))

pub returns : goal.returns
unfolding labels_outcome labels_verdict answered labelled_of
returns c =
    let a = c.args in
    let m = given a.mesh.now in
    let no = no-refusal (shown m zeroᶠ longest_answer (length a.work.now)) c.in_ok-judge.ensures in
    c.number_faces.ensures ∙ ap (λ o. answered o (accepted_labels m a.labels.now a.work.now) a.labels.now a.work.now) (sym (passes (desk_verdict m (length a.work.now)) _ no (le-ltb (length a.labels.now) (length m.sizes) (omega arith))))
