-- 'Each public call has a contract that determines result, answer list and work list for every input, refused ones too.' Definitions only.
use Rattle.std.specs.Prelude.{◌≡◌}
use Rattle.definition.specs.Outcome.{Result}
use Rattle.definition.specs.Handed.{Call}
use Rattle.promises.specs.Calls.{Answers}

-- 'Any pair of outcomes satisfying it is shown identical'. (Of the public call itself: PublicCall.antt.)
unfoldable pub Promised : Type 0
Promised = (x : Call) (r s : Result) → Answers x r → Answers x s → r ≡ s
