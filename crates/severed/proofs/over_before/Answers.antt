-- `severed::over_before` meets its contract. Assumes nothing.
use Prim.Native.Nat.{◌*◌, ◌<◌, ◌≤◌}
use native.Mathlib.Omega.{arith}
use mathlib.Core.Bool.{true}
use mathlib.Core.Path.{refl, sym, subst}
use lib.ListN.{get_or}
use Rattle.asked.proofs.Rows.{not-lt}
use Rattle.asked.proofs.Ways.{end_below}
use Rattle.severed.proofs.Steps.{way-before-none, way-before-to}
use Rattle.severed.proofs.over_before.Goals as goal

pub word_at-word-requires : goal.word_at-word-requires
word_at-word-requires c =
    let b = end_below c.before_of.result c.args.tris (subst (λ z. z < 3 * c.args.tris) (sym c.before_of.ensures) c.requires.0) in
    omega (arith, b, c.requires.2)

pub returns-then-word-eq0 : goal.returns-then-word-eq0
returns-then-word-eq0 c = way-before-none c.args.tris c.args.given.now true c.args.x _ _ refl c.before_of.ensures c.word_at-word.ensures c.if-word-eq0.true

pub returns : goal.returns
returns c =
    let a = c.args in
    let l = end_below c.before_of.result a.tris (subst (λ z. z < 3 * a.tris) (sym c.before_of.ensures) c.requires.0) in
    let w : get_or a.given.now c.before_of.result 0 ≤ 3 * a.tris = not-lt _ _ (c.requires.3 c.before_of.result l) in
    way-before-to a.tris a.given.now true a.x _ _ refl c.before_of.ensures c.word_at-word.ensures c.if-word-eq0.false (omega (arith, w, c.word_at-word.ensures))
