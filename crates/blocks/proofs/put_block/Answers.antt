-- `blocks::put_block` meets its contract. Assumes nothing.
use native.Mathlib.Omega.{arith}
use Prim.Native.Nat.{ℕ, ◌+◌}
use mathlib.Core.Path.{◌≡◌, ◌∙◌, ap}
use Rattle.blocks.specs.Format.{complement}
use Rattle.blocks.proofs.Stored.{block-stored}
use Rattle.blocks.proofs.put_block.Goals as goal

pub put_words-second-requires : goal.put_words-second-requires
put_words-second-requires c =
    (omega (arith, c.put_words-first.auto.bytes, c.used_words-count.ensures), omega (arith, c.used_words-count.ensures), omega (arith, c.used_words-count.ensures))

pub overflow_add-first : goal.overflow_add-first
overflow_add-first c = omega (arith, c.put_words-second.ensures.2, c.put_words-first.ensures.2)

-- the sum by another name
of-sum : (r s t : ℕ) → r ≡ complement s → s ≡ t → r ≡ complement t
of-sum r s t e h = e ∙ ap complement h

pub returns : goal.returns
returns c =
    let a = c.args in
    let e = c.used_words-count.ensures.0 in
    block-stored a.kind a.card.now c.header-h.result a.records.now a.at a.total a.b a.from c.used_words-count.result c.header-h.ensures e
    (omega (arith, e, c.requires.2)) c.put_words-first.new.bytes c.put_words-second.new.bytes c.put_zeros.new.bytes c.put_word.new.bytes c.put_words-first.result c.put_words-second.result
    c.complement.result c.put_words-first.ensures.0 c.put_words-second.ensures.0 c.put_zeros.ensures c.put_word.ensures c.put_words-first.ensures.1 c.put_words-second.ensures.1
    (of-sum _ _ (c.put_words-first.result + c.put_words-second.result) c.complement.ensures (omega arith))
