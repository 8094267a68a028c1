-- `cards::records_of` meets its contract. Assumes nothing.
use Prim.Native.Nat.{ℕ, ◌/◌}
use mathlib.Core.Path.{ap}
use lib.ListN.{length}
use Rattle.cards.specs.Writer.{records_of}
use Rattle.cards.proofs.records_of.Goals as goal

pub returns : goal.returns
unfolding records_of
returns c = ap (λ (w : ℕ). length c.args.answer.now / w) c.record_words.ensures.0
