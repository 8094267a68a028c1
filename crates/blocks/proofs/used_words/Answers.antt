-- `blocks::used_words` meets its contract. Assumes nothing.
use native.Mathlib.Omega.{arith}
use Prim.Native.Nat.{◌*◌}
use mathlib.Core.Path.{◌≡◌, sym, ◌∙◌}
use Rattle.blocks.specs.Format.{used_words}
use Rattle.blocks.proofs.Counts.{words_are, used-words-le}
use Rattle.blocks.proofs.used_words.Goals as goal
use Rattle.blocks.proofs.used_words.Tie as tie
use Rattle.blocks.proofs.used_words.Lts as lts
use Rattle.blocks.proofs.used_words.Reads as reads

abbrev At-After-records_used : Type 0
At-After-records_used = lts.After-records_used tie.the-claims reads.Pre reads.Post

product : (c : At-After-records_used) → let a = c.args in c.record_words.result * c.records_used.result ≡ used_words a.kind a.total a.b
product c =
    let a = c.args in
    (λ z. c.record_words.ensures.0 z * c.records_used.ensures.0 z) ∙ sym (words_are a.kind a.total a.b)

pub overflow_mul-result : goal.overflow_mul-result
overflow_mul-result c =
    let a = c.args in
    omega (arith, product c, used-words-le a.kind a.total a.b)

pub returns : goal.returns
returns c =
    let a = c.args in
    (product c, omega (arith, product c, used-words-le a.kind a.total a.b), c.records_used.ensures.2)
