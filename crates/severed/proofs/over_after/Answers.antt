-- `severed::over_after` meets its contract. Assumes nothing.
use Prim.Native.Nat.{◌*◌, ◌-◌, ◌<◌, ◌≤◌}
use native.Mathlib.Omega.{arith}
use mathlib.Core.Path.{refl}
use mathlib.Core.Bool.{false}
use lib.ListN.{get_or}
use Rattle.neighbors.proofs.Sided.{end_lt}
use Rattle.asked.proofs.Rows.{not-lt}
use Rattle.severed.proofs.Steps.{way-after-none, way-after-to}
use Rattle.severed.proofs.over_after.Goals as goal

pub returns-then-word-eq0 : goal.returns-then-word-eq0
returns-then-word-eq0 c = way-after-none c.args.tris c.args.given.now false c.args.x _ refl c.word_at-word.ensures c.if-word-eq0.true

pub end_of-requires : goal.end_of-requires
end_of-requires c =
    let a = c.args in
    let w : get_or a.given.now a.x 0 ≤ 3 * a.tris = not-lt _ _ (c.requires.3 a.x c.requires.0) in
    omega (arith, w, c.word_at-word.ensures, c.requires.1)

pub returns : goal.returns
returns c =
    let a = c.args in
    let w : get_or a.given.now a.x 0 ≤ 3 * a.tris = not-lt _ _ (c.requires.3 a.x c.requires.0) in
    let v : c.word_at-word.result - 1 < 3 * a.tris = omega (arith, w, c.word_at-word.ensures, c.if-word-eq0.false) in
    way-after-to a.tris a.given.now false a.x _ _ refl c.word_at-word.ensures c.if-word-eq0.false c.end_of.ensures (omega (arith, end_lt (c.word_at-word.result - 1) a.tris v, c.end_of.ensures))
