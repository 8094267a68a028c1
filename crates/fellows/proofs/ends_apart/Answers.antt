-- `fellows::ends_apart` meets its contract. Assumes nothing.
use native.Mathlib.Omega.{arith}
use Rattle.neighbors.proofs.Sided.{end_lt}
use Rattle.asked.proofs.Rows.{told, tells-differ}
use Rattle.fellows.proofs.Beside.{apart-start, apart-end, not-apart}
use Rattle.fellows.proofs.ends_apart.Goals as goal

pub word_at-requires-2 : goal.word_at-requires-2
word_at-requires-2 c =
    omega (arith, c.end_of-f.ensures, end_lt c.args.q c.args.tris c.requires.1, c.requires.3)

pub returns-then-word_at : goal.returns-then-word_at
returns-then-word_at c =
    let a = c.args in
    told (apart-start a.groups.now a.r a.q _ _ _ _ 0 0 c.end_of-e.ensures c.end_of-f.ensures c.word_at.ensures c.word_at-2.ensures c.if-word_at.true)

pub word_at-requires-3 : goal.word_at-requires-3
word_at-requires-3 c =
    omega (arith, c.end_of-e.ensures, end_lt c.args.r c.args.tris c.requires.0, c.requires.3)

pub returns : goal.returns
returns c =
    let a = c.args in
    tells-differ _ _
    (λ h. apart-end a.groups.now a.r a.q _ _ _ _ _ _ c.end_of-e.ensures c.end_of-f.ensures c.word_at.ensures c.word_at-2.ensures c.word_at-3.ensures c.word_at-4.ensures h)
    (λ h. not-apart a.groups.now a.r a.q _ _ _ _ _ _ c.end_of-e.ensures c.end_of-f.ensures c.word_at.ensures c.word_at-2.ensures c.word_at-3.ensures c.word_at-4.ensures c.requires.4 c.requires.5 c.if-word_at.false h)
