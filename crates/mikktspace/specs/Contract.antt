-- What the public call promises: result, answer list and work list are the definition's, for every input. Definitions only.
use Rattle.std.specs.Prelude.{ℕ, ◌≡◌, List, ◌++◌, drop, replicate, Result as Tried, Ok, Err}
use Rattle.definition.specs.Handed.{Call}
use Rattle.definition.specs.Outcome.{Result, outcome}
use Rattle.desk.specs.declared.Refusal.{Refusal}
use Rattle.desk.specs.Verdict.{number_of, place_of}
use Rattle.mikktspace.specs.declared.Outcome.{Outcome}

-- all that a call leaves behind: what it returned, and the two lists
unfoldable pub left : Outcome → List ℕ → List ℕ → Result
left r answer work = record { number = r.number; place = r.place; slots = r.slots; answer = answer; work = work }

-- how many slots were written, or why none were, as a call returns it
unfoldable pub outcome_of : Tried ℕ Refusal → Outcome
outcome_of (Ok n) = record { number = 0; place = 0; slots = n }
outcome_of (Err r) = record { number = number_of r; place = place_of r; slots = 0 }

-- The contract of the public call x: it returns r, and leaves the answer list as b and the work list as v.
abbrev pub Contract : Call → Outcome → List ℕ → List ℕ → Type 0
Contract x r b v = left r b v ≡ outcome x

-- a list whose first n words are zeros
unfoldable pub cleared_first : ℕ → List ℕ → List ℕ
cleared_first n l = replicate n 0 ++ drop n l
