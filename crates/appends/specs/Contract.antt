-- What `next_block` and `append` promise, for every input, of either kind. Definitions only.
use Rattle.std.specs.Prelude.{ℕ, ◌≡◌, List, Result, Ok, Err}
use Rattle.blocks.specs.declared.Kind.{Kind}
use Rattle.appends.specs.Next.{Following, following}
use Rattle.appends.specs.Append.{AppendLeft, append_left}
use Rattle.appends.specs.declared.Refusal.{Refusal}
use Rattle.appends.specs.declared.Refusal.TheVariants.{Unwritable, TooShort, Overfull, NotNext}
use Rattle.appends.specs.declared.Placed.{Placed}
use Rattle.appends.specs.declared.Next.{Next}
use Rattle.appends.specs.declared.Appended.{Appended}

-- the number of a refusal
abbrev pub number_of : Refusal → ℕ
number_of Unwritable = 1
number_of TooShort = 2
number_of Overfull = 3
number_of NotNext = 4

-- what `next_block` and `append` return, as C reads it
abbrev pub next_of : Result Placed Refusal → Next
next_of (Ok p) = record { number = 0; records = p.count; at = p.at }
next_of (Err r) = record { number = number_of r; records = 0; at = 0 }

abbrev pub appended_of : Result Placed Refusal → Appended
appended_of (Ok p) = record { number = 0; blocks = p.count; at = p.at }
appended_of (Err r) = record { number = number_of r; blocks = 0; at = 0 }

-- what `next_block` returned
unfoldable pub after_next : Next → Following
after_next r = record { number = r.number; records = r.records; at = r.at }

-- The contract of `next_block`: of a card of a kind, of so many bytes and the total n it returned r.
abbrev pub Follows : Kind → ℕ → ℕ → Next → Type 0
Follows kind long n r = after_next r ≡ following kind n long

-- all that a call of `append` leaves behind
unfoldable pub after_append : Appended → List ℕ → AppendLeft
after_append r lent = record { number = r.number; blocks = r.blocks; at = r.at; lent = lent }

-- The contract of `append`. Handed in: the kind and the length of the card, the total n and the records l; lent: the list c, which it leaves as d; returned: r.
abbrev pub Appends : Kind → ℕ → ℕ → List ℕ → List ℕ → Appended → List ℕ → Type 0
Appends kind long n l c r d = after_append r d ≡ append_left kind n long l c
