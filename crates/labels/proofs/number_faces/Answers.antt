-- `labels::number_faces` meets its contract. Assumes nothing.
use native.Mathlib.Omega.{arith}
use lib.ListN.{length}
use Rattle.definition.specs.Desk.{shown}
use Rattle.mesh.specs.Parts.{given}
use Rattle.bits.specs.Single.{zeroᶠ}
use Rattle.laws.proofs.Verdict.{fine}
use Rattle.mikktspace.proofs.Verdicts.{cleared-past}
use Rattle.mikktspace.specs.Alone.{longest_answer}
use Rattle.labels.specs.Labels.{left, accepted_labels}
use Rattle.labels.proofs.Counting.{counts-islands, labels_length}
use Rattle.labels.proofs.Verdicts.{passed-labels}
use Rattle.labels.proofs.number_faces.Goals as goal

pub label-requires : goal.label-requires
label-requires c =
    let a = c.args in
    let p = passed-labels (given a.mesh.now) (length a.labels.now) (length a.work.now) c.requires in
    let f = fine (shown (given a.mesh.now) zeroᶠ longest_answer (length a.work.now)) p.0 in
    (f.few, p.1, omega (arith, f.work-fits))

pub overflow_mul-faces : goal.overflow_mul-faces
overflow_mul-faces c =
    let a = c.args in
    let p = passed-labels (given a.mesh.now) (length a.labels.now) (length a.work.now) c.requires in
    let f = fine (shown (given a.mesh.now) zeroᶠ longest_answer (length a.work.now)) p.0 in
    omega (arith, f.few)

pub clear_first-requires : goal.clear_first-requires
clear_first-requires c =
    let a = c.args in
    let p = passed-labels (given a.mesh.now) (length a.labels.now) (length a.work.now) c.requires in
    let f = fine (shown (given a.mesh.now) zeroᶠ longest_answer (length a.work.now)) p.0 in
    omega (arith, f.work-fits, c.label.ensures.1)

pub count_islands-requires : goal.count_islands-requires
count_islands-requires c =
    let a = c.args in
    let p = passed-labels (given a.mesh.now) (length a.labels.now) (length a.work.now) c.requires in
    let f = fine (shown (given a.mesh.now) zeroᶠ longest_answer (length a.work.now)) p.0 in
    (omega (arith, labels_length _ _ _ p.1 c.label.ensures.0), f.few)

pub returns : goal.returns
unfolding left accepted_labels
returns c =
    let a = c.args in
    let l = c.label.ensures in
    let n = counts-islands (given a.mesh.now) a.labels.now _ _ l.0 c.count_islands.ensures in
    let w = cleared-past (length a.mesh.now.sizes.now) a.work.now _ _ l.2 c.clear_first.ensures in
    λ i. record { number = 0; place = 0; islands = n i; labels = l.0 i; work = w i }
