-- Any two outcomes that a contract of the form `Answers` allows are equal. Assumes nothing.
use mathlib.Core.Path.{sym, ◌∙◌}
use Rattle.promises.specs.Determined.{Promised}

pub determined : Promised
unfolding Promised
determined x r s p q = p ∙ sym q
