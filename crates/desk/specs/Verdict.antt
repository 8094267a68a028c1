-- The numbers and places that the desk's answers stand for. Definitions only.
use Rattle.std.specs.Prelude.{ℕ, Option, None, Some, Result, Ok, Err}
use Rattle.std.proofs.Math.Option.{Option as Given, none, some}
use Rattle.definition.specs.Desk.{Row}
use Rattle.desk.specs.declared.Refusal.{Refusal}
use Rattle.desk.specs.declared.Refusal.TheVariants.{TooManyFaces, Misfit, Threshold, NotFinite, NoNormal, ShortAnswer, ShortWork, ShortOwn}

-- what is said of a call: the number of a refusal and its place; 0 and 0 where there is none
pub record Verdict : Type 0 where
  pub number : ℕ
  pub place : ℕ

-- a verdict of this number and place
abbrev pub said : ℕ → ℕ → Verdict
said n i = record { number = n; place = i }

-- the row that is given as a verdict: its number and its place; 0 and 0 where none is given
unfoldable pub as_verdict : Given Row → Verdict
as_verdict none = said 0 0
as_verdict (some r) = said r.number r.place

-- the number of a refusal
unfoldable pub number_of : Refusal → ℕ
number_of TooManyFaces = 1
number_of Misfit = 2
number_of Threshold = 3
number_of (NotFinite i) = 4
number_of (NoNormal i) = 7
number_of ShortAnswer = 5
number_of ShortWork = 6
number_of ShortOwn = 9

-- its place
unfoldable pub place_of : Refusal → ℕ
place_of TooManyFaces = 0
place_of Misfit = 0
place_of Threshold = 0
place_of (NotFinite i) = i
place_of (NoNormal i) = i
place_of ShortAnswer = 0
place_of ShortWork = 0
place_of ShortOwn = 0

-- what an answer of the desk says
unfoldable pub told : Result Unit Refusal → Verdict
told (Ok u) = said 0 0
told (Err r) = said (number_of r) (place_of r)

-- a corner's number that was found, or that there is none
unfoldable pub found : Given ℕ → Option ℕ
found none = None
found (some i) = Some i

-- what was found before, and else what is there now
unfoldable pub unless_found : Option ℕ → Given ℕ → Given ℕ
unless_found (Some i) o = some i
unless_found None o = o
