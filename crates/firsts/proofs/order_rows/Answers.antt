-- Proof that `order_rows` meets its contract. Assumes nothing.
use Rattle.firsts.proofs.Ordering.{orders}
use Rattle.firsts.proofs.order_rows.Goals as goal

pub returns : goal.returns
returns c =
    let p = c.requires in
    orders c.args.rows c.args.n c.args.groups.now c.args.work.now _ _ _ _ p.0 p.1 p.2 c.clear.ensures c.put_words.ensures c.put_rows.ensures c.sort.ensures
