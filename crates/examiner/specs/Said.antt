-- What the examiner says, and the number and place of it that C is told. Definitions only.
use Rattle.std.specs.Prelude.{ℕ, ◌≡◌, ◌<◌, Option, Some, None, Result, Ok, Err, MatchResult}
use Rattle.asked.specs.Lowest.{None as Never}
use Rattle.examiner.specs.declared.Fault.{Fault}
use Rattle.examiner.specs.declared.Fault.TheVariants.{Misfit, Wide, Crooked, OneSided, LeftOver, NoFlag, Turned, Loose, OtherVertex, OtherWay, Parted, Severed}
use Rattle.examiner.specs.declared.Objection.{Objection}

-- the number of a fault
abbrev pub number_of : Fault → ℕ
number_of Misfit = 1
number_of Wide = 2
number_of Crooked = 3
number_of OneSided = 4
number_of LeftOver = 5
number_of NoFlag = 6
number_of Turned = 7
number_of Loose = 8
number_of OtherVertex = 9
number_of OtherWay = 10
number_of Parted = 11
number_of Severed = 12

-- the number of what is said, 0 where nothing is objected
abbrev pub number_in : Result Unit Objection → ℕ
number_in (Ok x) = 0
number_in (Err o) = number_of o.fault

-- its place, and 0
abbrev pub place_in : Result Unit Objection → ℕ
place_in (Ok x) = 0
place_in (Err o) = o.place

-- an objection at the place that was found, if one was
abbrev pub refusal : Fault → Option ℕ → Result Unit Objection
refusal fault None = Ok tt
refusal fault (Some r) = Err (record { fault = fault; place = r })

-- what is said of a fault that is looked for below n: no place has it, or this place is the first that has it
abbrev pub Refuses : Fault → (ℕ → Type 0) → ℕ → Result Unit Objection → Type 0
Refuses fault P n said = MatchResult said (λ _. Never P n) (λ o. (o.fault ≡ fault) × (o.place < n) × P o.place × Never P o.place)
