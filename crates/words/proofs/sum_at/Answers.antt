-- `words::sum_at` meets its contract. Assumes nothing.
use native.Mathlib.Omega.{arith}
use Prim.Native.Nat.{ℕ, ◌+◌}
use mathlib.Core.Path.{◌∙◌}
use Rattle.std.proofs.Common.{rules}
use Rattle.std.proofs.lemmas.Iterator.{YieldsList-from_range, YieldsList-from_map}
use Rattle.std.proofs.lemmas.Iterator.Consumers.{sum_from_yields_List, fits_from_yields_list}
use Rattle.words.specs.Words.{word_at}
use Rattle.words.proofs.Words.{words_sum, sum-le}
use Rattle.words.proofs.sum_at.Goals as goal

pub sum-requires-clause-fits : goal.sum-requires-clause-fits
sum-requires-clause-fits c =
    let a = c.args in
    fits_from_yields_list c.map.result _ (YieldsList-from_map _ (λ (i : ℕ). word_at a.bytes.now (a.from + i)) (YieldsList-from_range 0 a.count a.count c.map.ensures.source (omega arith)) c.map.ensures.closure (λ x r q k. search rules))
    (omega (arith, words_sum a.bytes.now a.from a.count, sum-le a.bytes.now a.from (λ i. omega (arith, c.type_inv.bytes i)) a.count))

pub returns : goal.returns
returns c =
    let a = c.args in
    sum_from_yields_List c.map.result _ c.sum.ensures.ran (YieldsList-from_map _ (λ (i : ℕ). word_at a.bytes.now (a.from + i)) (YieldsList-from_range 0 a.count a.count c.map.ensures.source (omega arith)) c.map.ensures.closure (λ x r q k. search rules))
    ∙ words_sum a.bytes.now a.from a.count
