-- `examiner::scan_run` meets its contract. Assumes nothing.
use Prim.Native.Nat.{◌*◌}
use native.Mathlib.Omega.{arith}
use Rattle.examiner.proofs.Turning.{alike-turn, kept-turn, lower-turn}
use Rattle.examiner.proofs.scan_run.Goals as goal

pub returns-then-vertex_at-clause-turn : goal.returns-then-vertex_at-clause-turn
returns-then-vertex_at-clause-turn c =
    let a = c.args in
    let p = c.requires in
    alike-turn a.rows (3 * a.tris) a.work.now a.given.now a.a a.first _ a.r p.0 p.5 p.1 p.6 p.7 p.8 _ _ c.vertex_at.ensures c.vertex_at-2.ensures c.if-vertex_at.true

pub returns-in-Some-clause-turn : goal.returns-in-Some-clause-turn
returns-in-Some-clause-turn c =
    let a = c.args in
    let p = c.requires in
    rw c.in-Some.is (kept-turn a.rows (3 * a.tris) a.work.now a.given.now a.a a.first c.in-Some.b a.r p.0 p.5 p.1 p.6 p.7 p.8 c.if-b-first.true)

pub returns-in_default-clause-turn : goal.returns-in_default-clause-turn
returns-in_default-clause-turn c =
    let a = c.args in
    let p = c.requires in
    rw c.in-Some.is (lower-turn a.rows (3 * a.tris) a.work.now a.given.now a.a a.first c.in-Some.b a.r p.0 p.5 p.1 p.6 p.7 p.8 _ _ c.vertex_at.ensures c.vertex_at-2.ensures c.if-vertex_at.false (omega (arith, c.if-b-first.false)))

pub returns-in_default-2-clause-turn : goal.returns-in_default-2-clause-turn
returns-in_default-2-clause-turn c =
    let a = c.args in
    let p = c.requires in
    rw c.in_default.is (lower-turn a.rows (3 * a.tris) a.work.now a.given.now a.a a.first (3 * a.tris) a.r p.0 p.5 p.1 p.6 p.7 p.8 _ _ c.vertex_at.ensures c.vertex_at-2.ensures c.if-vertex_at.false (omega (arith, p.1)))
