-- Proof that `build_4_rule_groups` meets its contract. Assumes nothing.
use Rattle.flat.proofs.Turns.{flat-walked}
use Rattle.flat.proofs.build_4_rule_groups.Goals as goal

pub returns : goal.returns
returns c =
    let a = c.args in
    record { grouped = λ ss d ls B n N S A. flat-walked a.rows a.tris ss d ls B a.work.now _ c.walk_all.result n c.requires.0 c.requires.1 c.walk_all.ensures.few.0 N S A c.walk_all.ensures.is; few = c.walk_all.ensures.few; only = c.walk_all.ensures.only }
