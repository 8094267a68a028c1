-- `examiner::scan_turn` meets its contract. Assumes nothing.
use Prim.Native.Nat.{◌*◌, ◌<◌}
use native.Mathlib.Omega.{arith}
use mathlib.Core.Path.{refl, sym, ◌∙◌}
use Rattle.examiner.proofs.Turning.{linked-turn, first-turn, next-turn}
use Rattle.examiner.proofs.scan_turn.Goals as goal

pub returns-then-word_at-ne0-clause-turn : goal.returns-then-word_at-ne0-clause-turn
returns-then-word_at-ne0-clause-turn c =
    let a = c.args in
    linked-turn a.rows (3 * a.tris) a.work.now a.given.now a.a _ _ _ c.requires.0 c.order_at-r.ensures _ c.word_at.ensures c.if-word_at-ne0.true

pub returns-in_default-clause-turn : goal.returns-in_default-clause-turn
returns-in_default-clause-turn c =
    let a = c.args in
    let p = c.requires in
    let k : c.order_at-r.result < 3 * a.tris = omega (arith, c.order_at-r.ensures, p.6 a.a p.0) in
    rw c.in-Some.is (next-turn a.rows (3 * a.tris) a.work.now a.given.now a.a c.in-Some.first _ _ p.0 c.order_at-r.ensures (rw c.in-Some.is at p.1) k (sym c.word_at.ensures ∙ c.if-word_at-ne0.false) _ c.same_ends.ensures c.if-same_ends.false)

pub returns-in_default-2-clause-turn : goal.returns-in_default-2-clause-turn
returns-in_default-2-clause-turn c =
    let a = c.args in
    rw c.in_default.is (first-turn a.rows (3 * a.tris) a.work.now a.given.now a.a (3 * a.tris) _ _ c.requires.0 c.order_at-r.ensures _ c.word_at.ensures c.if-word_at-ne0.false refl)
