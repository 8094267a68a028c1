-- `desk::judge` meets its contract: each way out is the first row that applies. Assumes nothing.
use Rattle.std.proofs.Common.{arith, ℕ, ◌≡◌, ◌*◌, ◌≤◌, ◌<◌, length, sym, ap, ◌∙◌, subst}
use Rattle.mesh.specs.Parts.{given}
use Rattle.definition.specs.Desk.{Shown, shown}
use Rattle.desk.proofs.Bad.{is_some, is_none}
use Rattle.desk.proofs.Telling.{many, two-passed, row1, row2, row3, row4, row7, row5, row6, no-row}
use Rattle.desk.proofs.judge.Goals as goal

pub returns-then-many : goal.returns-then-many
returns-then-many c =
    let a = c.args in
    let q = shown (given a.mesh.now) a.threshold a.answer a.work in
    row1 q (many q (omega arith))

pub returns-then-misfit : goal.returns-then-misfit
returns-then-misfit c =
    let a = c.args in
    let q = shown (given a.mesh.now) a.threshold a.answer a.work in
    let p = two-passed q _ _ (omega arith) c.look_over-seen.ensures.0 c.unfit-misfit.ensures in
    row2 q p.0 (p.1 ∙ c.if-misfit.true)

pub returns-then-not-is_finite : goal.returns-then-not-is_finite
returns-then-not-is_finite c =
    let a = c.args in
    let q = shown (given a.mesh.now) a.threshold a.answer a.work in
    let p = two-passed q _ _ (omega arith) c.look_over-seen.ensures.0 c.unfit-misfit.ensures in
    row3 q p.0 (p.1 ∙ c.if-misfit.false) (sym c.is_finite.ensures ∙ c.if-not-is_finite.true)

pub returns-in-Some : goal.returns-in-Some
returns-in-Some c =
    let a = c.args in
    let q = shown (given a.mesh.now) a.threshold a.answer a.work in
    let p = two-passed q _ _ (omega arith) c.look_over-seen.ensures.0 c.unfit-misfit.ensures in
    let f = p.1 ∙ c.if-misfit.false in
    let t = sym c.is_finite.ensures ∙ c.if-not-is_finite.false in
    row4 q p.0 f t _ (is_some _ _ (sym c.look_over-seen.ensures.2 ∙ c.in-Some.is))

pub returns-in-Some-bare : goal.returns-in-Some-bare
returns-in-Some-bare c =
    let a = c.args in
    let q = shown (given a.mesh.now) a.threshold a.answer a.work in
    let p = two-passed q _ _ (omega arith) c.look_over-seen.ensures.0 c.unfit-misfit.ensures in
    let f = p.1 ∙ c.if-misfit.false in
    let t = sym c.is_finite.ensures ∙ c.if-not-is_finite.false in
    let b = is_none _ (sym c.look_over-seen.ensures.2 ∙ c.in_default.is) in
    row7 q p.0 f t b _ (is_some _ _ (sym c.look_over-seen.ensures.3 ∙ c.in-Some-bare.is))

pub returns-then-few : goal.returns-then-few
returns-then-few c =
    let a = c.args in
    let q = shown (given a.mesh.now) a.threshold a.answer a.work in
    let p = two-passed q _ _ (omega arith) c.look_over-seen.ensures.0 c.unfit-misfit.ensures in
    let f = p.1 ∙ c.if-misfit.false in
    let t = sym c.is_finite.ensures ∙ c.if-not-is_finite.false in
    let b = is_none _ (sym c.look_over-seen.ensures.2 ∙ c.in_default.is) in
    let n = is_none _ (sym c.look_over-seen.ensures.3 ∙ c.in_default-bare.is) in
    row5 q p.0 f t b n (omega (arith, c.look_over-seen.ensures.1))

pub returns-then-short : goal.returns-then-short
returns-then-short c =
    let a = c.args in
    let q = shown (given a.mesh.now) a.threshold a.answer a.work in
    let p = two-passed q _ _ (omega arith) c.look_over-seen.ensures.0 c.unfit-misfit.ensures in
    let f = p.1 ∙ c.if-misfit.false in
    let t = sym c.is_finite.ensures ∙ c.if-not-is_finite.false in
    let b = is_none _ (sym c.look_over-seen.ensures.2 ∙ c.in_default.is) in
    let n = is_none _ (sym c.look_over-seen.ensures.3 ∙ c.in_default-bare.is) in
    row6 q p.0 f t b n (omega (arith, c.look_over-seen.ensures.1)) (omega arith)

pub returns : goal.returns
returns c =
    let a = c.args in
    let q = shown (given a.mesh.now) a.threshold a.answer a.work in
    let p = two-passed q _ _ (omega arith) c.look_over-seen.ensures.0 c.unfit-misfit.ensures in
    let f = p.1 ∙ c.if-misfit.false in
    let t = sym c.is_finite.ensures ∙ c.if-not-is_finite.false in
    let b = is_none _ (sym c.look_over-seen.ensures.2 ∙ c.in_default.is) in
    let n = is_none _ (sym c.look_over-seen.ensures.3 ∙ c.in_default-bare.is) in
    no-row q p.0 f t b n (omega (arith, c.look_over-seen.ensures.1)) (omega arith)
