-- `contributions::store` meets its contract. Assumes nothing.
use borrow.Author.Rules.{rules}
use Rattle.contributions.proofs.Laws.{stored_as}
use Rattle.contributions.proofs.store.Goals as goal

pub returns : goal.returns
returns c =
    let a = c.args in
    stored_as a.rows a.r a.s a.t a.opening a.work.now c.requires.0 c.requires.1 _ _ _ c.put_vector.ensures.0 c.put_vector-2.ensures.0 c.word.ensures c.put_vector.ensures.1 c.put_vector-2.ensures.1 (search rules)
