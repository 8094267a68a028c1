-- Proof that `head_turn` meets its contract. Assumes nothing.
use Prim.Native.Nat.{ℕ, ◌+◌, ◌<◌}
use native.Mathlib.Omega.{arith}
use mathlib.Core.Path.{ap, subst}
use Rattle.std.proofs.Common.{unwrap_or}
use Rattle.table.specs.Columns.{head_column}
use Rattle.table.specs.Table.{put}
use Rattle.firsts.specs.Firsts.{Runs}
use Rattle.firsts.proofs.Heading.{runs-low}
use Rattle.firsts.proofs.head_turn.Goals as goal
use Rattle.firsts.proofs.head_turn.Tie as tie
use Rattle.firsts.proofs.head_turn.Lts as lts
use Rattle.firsts.proofs.head_turn.Reads as reads

abbrev At-After-run_first-f : Type 0
At-After-run_first-f = lts.After-run_first tie.the-claims reads.Pre reads.Post tie.handed_clauses

pub run_first-f-requires : goal.run_first-f-requires
run_first-f-requires c = (omega (arith, c.order_at-r.ensures, c.requires.6), c.requires.1, c.requires.5)

-- the row that is stored is one of the n
low : (c : At-After-run_first-f) → c.run_first-f.result < c.args.n
low c = runs-low _ _ _ _ _ (omega (arith, c.order_at-r.ensures, c.requires.6)) c.run_first-f.ensures

pub overflow_add-work : goal.overflow_add-work
overflow_add-work c = let p = c.requires in omega (arith, low c.before, p.2, p.4)

pub overflow_cast-work : goal.overflow_cast-work
overflow_cast-work c = let p = c.requires in omega (arith, low c.before, p.2, p.4)

pub returns : goal.returns
returns c =
    let o = c.order_at-r.ensures in
    let a = c.args in
    record { runs = subst (λ (x : ℕ). Runs a.n a.groups.now (unwrap_or a.first a.n) x c.run_first-f.result) o c.run_first-f.ensures; puts = ap (λ (x : ℕ). put a.rows head_column x (c.run_first-f.result + 1) a.work.now) o }
