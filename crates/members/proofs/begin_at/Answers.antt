-- Proof that `begin_at` meets its contract. Assumes nothing.
use Rattle.members.proofs.Laws.{begin-in, begin-out}
use Rattle.members.proofs.begin_at.Goals as goal

pub returns-then-q-s : goal.returns-then-q-s
returns-then-q-s c =
    let a = c.args in
    begin-in a.rows a.s.groups a.s.members a.work.now a.q c.min.result c.if-q-s.true c.min.ensures

pub returns-else-q-s : goal.returns-else-q-s
returns-else-q-s c =
    let a = c.args in
    begin-out a.rows a.s.groups a.s.members a.work.now a.q c.if-q-s.false
