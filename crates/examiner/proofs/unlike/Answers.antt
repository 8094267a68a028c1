-- `examiner::unlike` meets its contract. Assumes nothing.
use native.Mathlib.Omega.{arith}
use Rattle.neighbors.proofs.Sided.{end_lt}
use Rattle.examiner.proofs.unlike.Goals as goal

pub vertex_at-b-requires : goal.vertex_at-b-requires
vertex_at-b-requires c =
    (omega (arith, c.end_of-f.ensures, end_lt c.args.q c.args.tris c.requires.1, c.requires.2), c.requires.3)

pub vertex_at-c-requires : goal.vertex_at-c-requires
vertex_at-c-requires c =
    (omega (arith, c.end_of-e.ensures, end_lt c.args.r c.args.tris c.requires.0, c.requires.2), c.requires.3)
