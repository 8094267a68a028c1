-- `blocks::checked` meets its contract. Assumes nothing.
use native.Mathlib.Omega.{arith}
use mathlib.Core.Path.{sym, ◌∙◌, ap}
use lib.Dec.{eqb}
use Rattle.lists.specs.Parts.{sum_of}
use Rattle.blocks.specs.Format.{block_words, summed_words, complement, check_word}
use Rattle.blocks.specs.Judged.{checked}
use Rattle.words.proofs.Words.{word_of, words_take}
use Rattle.blocks.proofs.checked.Goals as goal

pub returns : goal.returns
unfolding checked check_word
returns c =
    let a = c.args in
    let word = c.word_at.ensures ∙ sym (word_of a.card.now a.p block_words summed_words (omega arith)) in
    let sum = c.sum_at.ensures ∙ ap sum_of (sym (words_take a.card.now a.p summed_words block_words (omega arith))) in
    λ z. eqb (word z) ((c.complement.ensures ∙ ap complement sum) z)
