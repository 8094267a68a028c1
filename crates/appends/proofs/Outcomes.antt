-- Which outcome it is, by the tests. Assumes nothing.
use Prim.Native.Nat.{ℕ, ◌+◌, ◌≤◌, ◌<◌}
use mathlib.Core.Path.{◌≡◌, refl, ap, ◌∙◌}
use mathlib.Core.Bool.{Bool, true, false, cond}
use mathlib.Core.List.{List}
use lib.ListN.{length}
use borrow.Author.Tests.{le-leb, lt-leb}
use Rattle.blocks.specs.declared.Kind.{Kind}
use Rattle.blocks.specs.Format.{records_used}
use Rattle.cards.specs.Writer.{records_of, writable, card_bytes}
use denote.Enum.Declared.{tag_of}
use Rattle.appends.specs.contracts.Refusal.{the_type}
use Rattle.appends.specs.declared.Refusal.{Refusal}
use Rattle.appends.specs.declared.Refusal.TheVariants.{Unwritable, TooShort, Overfull, NotNext}
use Rattle.appends.specs.Contract.{number_of}
use Rattle.appends.specs.Next.{overfull, first_torn, place_of, Following, following}
use Rattle.appends.specs.Append.{are_next, not_added, now_added, append_left}

-- the number that a refusal is declared with
pub number-is : (r : Refusal) → tag_of the_type r + 1 ≡ number_of r
number-is Unwritable = refl
number-is TooShort = refl
number-is Overfull = refl
number-is NotNext = refl

module _ (kind : Kind) (n long : ℕ) where
  abbrev pub none-next : Following
  none-next = record { number = 3; records = 0; at = 0 }

  abbrev pub next-torn : Following
  next-torn = record { number = 0; records = records_used kind n (first_torn long); at = place_of long }

  -- the next block by its number
  pub next-is : (b r p : ℕ) → r ≡ records_used kind n b → b ≡ first_torn long → p ≡ place_of long → record { number = 0; records = r; at = p } ≡ next-torn
  next-is b r p e f g = λ z. record { number = 0; records = (e ∙ ap (records_used kind n) f) z; at = g z }

  pub following-by : (x : Bool) → overfull kind n long ≡ x → following kind n long ≡ cond x none-next next-torn
  unfolding following
  following-by x h = ap (λ (y : Bool). cond y none-next next-torn) h

module _ (kind : Kind) (n long : ℕ) (l lent : List ℕ) where
  -- each refusal by the tests before it
  pub added-1 : writable kind l ≡ false → append_left kind n long l lent ≡ not_added 1 lent
  unfolding append_left
  added-1 h = simp h

  module _ (can : writable kind l ≡ true) where
    pub added-2 : length lent < card_bytes kind (records_of kind l) → append_left kind n long l lent ≡ not_added 2 lent
    unfolding append_left
    added-2 h = simp (can, lt-leb (card_bytes kind (records_of kind l)) (length lent) h)

    module _ (room : card_bytes kind (records_of kind l) ≤ length lent) where
      pub added-3 : overfull kind n long ≡ true → append_left kind n long l lent ≡ not_added 3 lent
      unfolding append_left
      added-3 h = simp (can, le-leb (card_bytes kind (records_of kind l)) (length lent) room, h)

      module _ (within : overfull kind n long ≡ false) where
        pub added-by : (x : Bool) → are_next kind n (first_torn long) (records_of kind l) ≡ x → append_left kind n long l lent ≡ cond x (now_added kind n long l lent) (not_added 4 lent)
        unfolding append_left
        added-by x h = simp (can, le-leb (card_bytes kind (records_of kind l)) (length lent) room, within, h)
