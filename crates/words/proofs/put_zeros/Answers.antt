-- `words::put_zeros` meets its contract. Assumes nothing.
use native.Mathlib.Omega.{arith}
use Prim.Native.Nat.{◌*◌}
use mathlib.Core.Path.{sym, ap, ◌∙◌}
use lib.Seq.{sets}
use Rattle.lists.proofs.Written.{part-cleared}
use Rattle.words.proofs.Words.{zeros_bytes}
use Rattle.words.proofs.put_zeros.Goals as goal

pub returns : goal.returns
returns c =
    let a = c.args in
    part-cleared a.bytes.now _ (4 * a.to) _ (4 * a.count) (c.fill.ensures.after (λ y e. e)) (omega arith) (omega arith) ∙ ap (sets a.bytes.now (4 * a.to)) (sym (zeros_bytes a.count))
