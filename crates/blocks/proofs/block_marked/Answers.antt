-- `blocks::block_marked` meets its contract. Assumes nothing.
use native.Mathlib.Omega.{arith}
use Prim.Native.Nat.{◌+◌, ◌*◌}
use mathlib.Core.Path.{◌≡◌, sym, ◌∙◌}
use lib.Dec.{leb}
use Rattle.lists.specs.Parts.{every_below}
use Rattle.words.specs.Words.{word_at}
use Rattle.blocks.specs.Format.{used_words}
use Rattle.blocks.proofs.Counts.{words_are, used-words-le}
use Rattle.blocks.proofs.block_marked.Goals as goal

pub records_marked-requires : goal.records_marked-requires
records_marked-requires c =
    let a = c.args in
    let product : c.record_words.result * c.records_used.result ≡ used_words a.kind a.total a.b = (λ z. c.record_words.ensures.0 z * c.records_used.ensures.0 z) ∙ sym (words_are a.kind a.total a.b) in
    (omega (arith, product, used-words-le a.kind a.total a.b, c.requires.0), c.record_words.ensures.1)

pub returns : goal.returns
returns c =
    let a = c.args in
    c.records_marked.ensures ∙ (λ z. every_below (c.records_used.ensures.0 z) (λ r. leb (word_at a.card.now (a.p + c.record_words.ensures.0 z * r)) 1))
