-- `appends::are_next` meets its contract. Assumes nothing.
use Prim.Native.Nat.{◌+◌, ◌%◌}
use mathlib.Core.Bool.{◌&&◌, ◌||◌}
use lib.Dec.{eqb, ltb}
use Rattle.appends.specs.Append.{are_next}
use Rattle.appends.proofs.are_next.Goals as goal

pub returns : goal.returns
unfolding are_next
returns c =
    let a = c.args in
    λ z. ltb 0 a.count && (eqb (c.records_before.ensures.0 z + a.count) a.total || ltb (c.records_before.ensures.0 z + a.count) a.total && eqb (a.count % c.records_held-held.ensures.0 z) 0)
