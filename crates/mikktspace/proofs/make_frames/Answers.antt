-- `mikktspace::make_frames` meets its contract. Assumes nothing.
use Prim.Native.Nat.{ℕ, ◌*◌, ◌≤◌}
use native.Mathlib.Omega.{arith}
use mathlib.Core.Path.{◌≡◌, refl, ap, ◌∙◌}
use mathlib.Core.List.{List, ◌++◌}
use lib.ListN.{length, drop, replicate}
use Rattle.definition.specs.Desk.{shown}
use Rattle.tangent.specs.Slot.{slot_words}
use Rattle.definition.specs.Handed.{slot_count}
use Rattle.definition.specs.Limits.{work_words}
use Rattle.definition.specs.Outcome.{accepted}
use Rattle.mikktspace.specs.Contract.{left, cleared_first}
use Rattle.laws.proofs.Verdict.{fine}
use Rattle.mesh.specs.Parts.{given}
use Rattle.mikktspace.proofs.Verdicts.{all_slots}
use Rattle.mikktspace.proofs.Whole.{counts-fit, all-ranged, answered, cleared}
use Rattle.mikktspace.proofs.make_frames.Goals as goal

pub clear_first-requires : goal.clear_first-requires
clear_first-requires c =
    let a = c.args in
    let F = fine (shown (given a.mesh.now) a.threshold (length a.answer.now) (length a.work.now)) c.requires in
    omega (arith, F.answer-fits, all_slots a.mesh.now.sizes.now _ F.few c.slots_before-slots.ensures.0)

pub group_mesh-counts-requires : goal.group_mesh-counts-requires
group_mesh-counts-requires c =
    let a = c.args in
    let F = fine (shown (given a.mesh.now) a.threshold (length a.answer.now) (length a.work.now)) c.requires in
    (F.few, omega (arith, F.work-fits))

pub overflow_mul-faces : goal.overflow_mul-faces
overflow_mul-faces c =
    let a = c.args in
    let F = fine (shown (given a.mesh.now) a.threshold (length a.answer.now) (length a.work.now)) c.requires in
    omega (arith, F.few)

pub finish_frames-requires : goal.finish_frames-requires
finish_frames-requires c =
    let a = c.args in
    let F = fine (shown (given a.mesh.now) a.threshold (length a.answer.now) (length a.work.now)) c.requires in
    let m = given a.mesh.now in
    let L = c.group_mesh-counts.ensures in
    let R = counts-fit m _ a.work.now _ L in
    (omega arith, refl, R.0, R.1, L.few, L.small, omega (arith, F.work-fits, L.only.size), all-ranged m _ a.work.now _ L F.good (omega (arith, F.work-fits)))

pub overflow_mul-faces-2 : goal.overflow_mul-faces-2
overflow_mul-faces-2 c =
    let a = c.args in
    let F = fine (shown (given a.mesh.now) a.threshold (length a.answer.now) (length a.work.now)) c.requires in
    omega (arith, F.few)

pub clear_first-requires-2 : goal.clear_first-requires-2
clear_first-requires-2 c =
    let a = c.args in
    let F = fine (shown (given a.mesh.now) a.threshold (length a.answer.now) (length a.work.now)) c.requires in
    omega (arith, F.work-fits, c.group_mesh-counts.ensures.only.size, c.finish_frames.ensures.only.size)

-- a list that is cleared so far
cleared-to : (k m : ℕ) (l u : List ℕ) → u ≡ cleared_first k l → k ≡ m → u ≡ replicate m 0 ++ drop m l
unfolding cleared_first
cleared-to k m l u e h = e ∙ ap (λ (j : ℕ). replicate j 0 ++ drop j l) h

pub returns : goal.returns
unfolding left accepted
returns c =
    let a = c.args in
    let F = fine (shown (given a.mesh.now) a.threshold (length a.answer.now) (length a.work.now)) c.requires in
    let m = given a.mesh.now in
    let L = c.group_mesh-counts.ensures in
    let slots = all_slots m.sizes _ F.few c.slots_before-slots.ensures.0 in
    let first = cleared-to _ (slot_words * slot_count m.sizes) a.answer.now _ c.clear_first.ensures (omega (arith, slots)) in
    let answer = answered m _ a.work.now _ L F.good a.threshold a.answer.now _ _ _ first c.finish_frames.ensures in
    let work = cleared m _ a.work.now _ L F.good a.threshold a.answer.now _ _ _ first c.finish_frames.ensures _ (cleared-to _ (work_words * length m.sizes) _ _ c.clear_first-2.ensures (omega arith)) in
    λ i. record { number = 0; place = 0; slots = slots i; answer = answer i; work = work i }
