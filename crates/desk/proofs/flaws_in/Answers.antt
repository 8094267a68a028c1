-- `desk::flaws_in` meets its contract. The invariant: what was found, or else is found in the corners that are left, is what all of them give, for each of the two tests. Assumes nothing.
use Rattle.std.proofs.Common.{arith, ℕ, ◌≡◌, ◌+◌, ◌-◌, ◌<◌, ap, subst}
use Rattle.mesh.specs.Parts.{given}
use Rattle.definition.specs.Desk.{finite_corner, has_normal}
use Rattle.desk.specs.Verdict.{unless_found}
use Rattle.desk.proofs.Bad.{lowest, Gives, goes_on, gave}
use Rattle.desk.proofs.flaws_in.Goals as goal

-- all of them are left at first, one fewer after each, none in the end
whole : (from count : ℕ) → from + count - from ≡ count
whole from count = omega arith

fewer : (i end : ℕ) → end - i - 1 ≡ end - (i + 1)
fewer i end = omega arith

pub loop-i-init : goal.loop-i-init
loop-i-init c =
    let a = c.args in
    let m = given a.mesh.now in (
      ap (λ (n : ℕ). unless_found a.before.bad (lowest finite_corner m.positions m.normals m.texture a.from n)) (whole a.from a.count),
      ap (λ (n : ℕ). unless_found a.before.bare (lowest has_normal m.positions m.normals m.texture a.from n)) (whole a.from a.count),
    )

pub loop-i-preserved : goal.loop-i-preserved
loop-i-preserved c =
    let a = c.args in
    let m = given a.mesh.now in
    let l = c.loop-i in
    let end = a.from + a.count in
    let h : 0 < end - l.i = omega arith in
    let s = c.flaws_with-flaws.ensures in (
      subst (λ (n : ℕ). Gives finite_corner m.positions m.normals m.texture c.flaws_with-flaws.result.bad (l.i + 1) n (unless_found a.before.bad (lowest finite_corner m.positions m.normals m.texture a.from a.count))) (fewer l.i end) (goes_on finite_corner _ _ _ _ _ _ _ _ _ h c.corner_at.ensures s.0 l.invariant.0),
      subst (λ (n : ℕ). Gives has_normal m.positions m.normals m.texture c.flaws_with-flaws.result.bare (l.i + 1) n (unless_found a.before.bare (lowest has_normal m.positions m.normals m.texture a.from a.count))) (fewer l.i end) (goes_on has_normal _ _ _ _ _ _ _ _ _ h c.corner_at.ensures s.1 l.invariant.1),
    )

pub returns : goal.returns
returns c =
    let a = c.args in
    let l = c.loop-i in
    let e : a.from + a.count - l.i ≡ 0 = omega arith in
    (gave finite_corner _ _ _ _ _ _ _ e l.invariant.0, gave has_normal _ _ _ _ _ _ _ e l.invariant.1)
