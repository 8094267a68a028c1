-- What the writer and the reader promise: result and lent list are the definition's, for every input, of either kind. Definitions only.
use Rattle.std.specs.Prelude.{ℕ, ◌≡◌, List, Result, Ok, Err}
use Rattle.blocks.specs.declared.Kind.{Kind}
use Rattle.cards.specs.Writer.{WriteLeft, write_left}
use Rattle.cards.specs.Reader.{ReadLeft, read_left}
use Rattle.cards.specs.declared.Refusal.{Refusal}
use Rattle.cards.specs.declared.Refusal.TheVariants.{Unwritable, TooShort}
use Rattle.cards.specs.declared.Written.{Written}
use Rattle.cards.specs.declared.CardFound.{CardFound}

-- the number of a refusal
abbrev pub number_of : Refusal → ℕ
number_of Unwritable = 1
number_of TooShort = 2

-- what the writer and the reader return, as C reads it
abbrev pub written : Result ℕ Refusal → Written
written (Ok n) = record { number = 0; bytes = n }
written (Err r) = record { number = number_of r; bytes = 0 }

abbrev pub found : Result ℕ Refusal → CardFound
found (Ok n) = record { number = 0; past = n }
found (Err r) = record { number = number_of r; past = 0 }

-- all that a call of the writer leaves behind: what it returned, and the lent list
unfoldable pub after_write : Written → List ℕ → WriteLeft
after_write r card = record { number = r.number; bytes = r.bytes; card = card }

-- The writer's contract. Handed in: the kind and the answer words l; lent: the list c, which it leaves as d; returned: r.
abbrev pub Writes : Kind → List ℕ → List ℕ → Written → List ℕ → Type 0
Writes kind l c r d = after_write r d ≡ write_left kind l c

-- all that a call of the reader leaves behind
unfoldable pub after_read : CardFound → List ℕ → ReadLeft
after_read r answer = record { number = r.number; past = r.past; answer = answer }

-- The reader's contract. Handed in: the kind, the bytes bs and the total n; lent: the list a, which it leaves as b; returned: r.
abbrev pub Reads : Kind → List ℕ → ℕ → List ℕ → CardFound → List ℕ → Type 0
Reads kind bs n a r b = after_read r b ≡ read_left kind n bs a
