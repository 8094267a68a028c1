-- `words::put_word` meets its contract. Assumes nothing.
use native.Mathlib.Omega.{arith}
use Prim.Native.Nat.{◌*◌}
use mathlib.Core.Path.{◌∙◌}
use Rattle.words.specs.Words.{word_bytes}
use Rattle.lists.proofs.Written.{part-written}
use Rattle.words.proofs.put_word.Goals as goal

pub returns : goal.returns
unfolding word_bytes
returns c = part-written c.args.bytes.now _ (word_bytes c.args.w) (4 * c.args.i) _ (c.copy_from_slice.ensures.after ∙ c.to_le_bytes.ensures) (omega arith) (omega arith)
