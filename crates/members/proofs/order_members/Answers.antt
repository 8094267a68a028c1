-- Proof that `order_members` meets its contract. Assumes nothing.
use Rattle.members.proofs.Whole.{all-only, in_order}
use Rattle.members.proofs.order_members.Goals as goal

pub returns : goal.returns
returns c =
    let a = c.args in record { ordered = λ ss d ls B fits N all G. in_order a.rows a.s.groups a.s.members a.work.now _ _ _ _ c.requires.0 c.requires.1 c.requires.2 c.clear.ensures c.clear-2.ensures c.copy_members.ensures c.sort_groups.ensures ss d fits ls B N all G; only = all-only a.rows a.s.groups a.s.members a.work.now _ _ _ _ c.requires.0 c.requires.1 c.requires.2 c.clear.ensures c.clear-2.ensures c.copy_members.ensures c.sort_groups.ensures }
