-- `desk::look_over` meets its contract. The invariant: the sums are those of the faces passed, and what was found, or else is found in the faces that are left, is what all of them give, for each of the two tests. Assumes nothing.
use Rattle.std.proofs.Common.{arith, ℕ, ◌≡◌, ◌+◌, ◌≤◌, ◌<◌, List, length, get_or, take, sym, ap, ◌∙◌, subst}
use Rattle.std.proofs.lemmas.List.{take_all}
use Rattle.definition.specs.Handed.{Handed, corner_count, slot_count, slots_of}
use Rattle.mesh.proofs.Counts.{corners-more, corners-none, slots-more, slots-none}
use Rattle.definition.specs.Desk.{finite_corner, has_normal}
use Rattle.desk.specs.Verdict.{found}
use Rattle.desk.proofs.Bad.{in_faces, at_once, next-face, all-passed}
use Rattle.desk.proofs.look_over.Goals as goal

pub loop-size-init : goal.loop-size-init
loop-size-init c =
    let sizes = c.args.mesh.now.sizes.now in
    (c.requires, omega arith, omega arith, corners-none sizes, slots-none sizes, at_once _, at_once _)

pub loop-size-preserved : goal.loop-size-preserved
loop-size-preserved c =
    let l = c.loop-size in
    let sizes = c.args.mesh.now.sizes.now in
    let h = c.loop-size-test.true in (
      l.invariant.0,
      omega arith,
      omega arith,
      omega (arith, l.invariant.3, corners-more sizes l.size-index h),
      (λ i. l.invariant.4 i + c.slots_of.ensures.0 i) ∙ sym (slots-more sizes l.size-index h),
      next-face finite_corner _ _ _ sizes _ _ l.size-index l.corners _ _ h c.flaws_of_face-flaws.ensures.0 l.invariant.5 (omega arith) (omega arith),
      next-face has_normal _ _ _ sizes _ _ l.size-index l.corners _ _ h c.flaws_of_face-flaws.ensures.1 l.invariant.6 (omega arith) (omega arith),
    )

pub returns : goal.returns
returns c =
    let l = c.loop-size in
    let sizes = c.args.mesh.now.sizes.now in
    let h = c.loop-size-test.false in
    let e = take_all l.size-index sizes h in (
      l.invariant.3 ∙ ap corner_count e,
      l.invariant.4 ∙ ap slot_count e,
      all-passed finite_corner _ _ _ sizes _ l.size-index l.corners h l.invariant.5,
      all-passed has_normal _ _ _ sizes _ l.size-index l.corners h l.invariant.6,
    )
