-- Request E9: refusal 9. Definitions only.
use Rattle.std.specs.Prelude.{Bool, true, cond}
use Rattle.std.proofs.Math.Option.{Option, none, some}
use Rattle.definition.specs.Desk.{Row}

-- 'lists of its own that are too short are refused with 9'
abbrev pub nine : Row
nine = record { number = 9; applies = true; place = 0 }

-- '.. after all others': what the table says, and else 9 if a list is too short
unfoldable pub afterwards : Option Row → Bool → Option Row
afterwards (some r) short = some r
afterwards none short = cond short (some nine) none
