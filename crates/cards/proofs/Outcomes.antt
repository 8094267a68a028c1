-- Which outcome it is, by the tests. Assumes nothing.
use Prim.Native.Nat.{ℕ, ◌+◌, ◌*◌, ◌%◌, ◌≤◌, ◌<◌}
use mathlib.Core.Path.{◌≡◌, refl, sym, ap, ◌∙◌}
use mathlib.Core.Bool.{Bool, true, false, cond, ◌&&◌}
use mathlib.Core.List.{List, ◌++◌}
use lib.ListN.{length, get_or, drop}
use lib.Dec.{eqb, leb, ltb}
use borrow.Author.Tests.{eqb-true, ltb-true, le-leb, lt-leb, eq-eqb, ne_eqb, lt-ltb, le-ltb}
use Rattle.words.specs.Words.{word_values}
use Rattle.blocks.specs.declared.Kind.{Kind}
use Rattle.blocks.specs.Format.{record_words}
use Rattle.blocks.proofs.Counts.{whole_words}
use Rattle.bits.proofs.Bools.{and_left, and_right}
use Rattle.lists.specs.Parts.{every_below}
use denote.Enum.Declared.{tag_of}
use Rattle.cards.specs.contracts.Refusal.{the_type}
use Rattle.cards.specs.declared.Refusal.{Refusal}
use Rattle.cards.specs.declared.Refusal.TheVariants.{Unwritable, TooShort}
use Rattle.cards.specs.Contract.{number_of}
use Rattle.cards.specs.Writer.{records_of, writable, card_bytes, not_written, card_written, write_left}
use Rattle.cards.specs.Reader.{bytes_past, readings, ReadLeft, read_left}

-- the number that a refusal is declared with
pub number-is : (r : Refusal) → tag_of the_type r + 1 ≡ number_of r
number-is Unwritable = refl
number-is TooShort = refl

module _ (kind : Kind) (l : List ℕ) where
  -- what a list that can be written is: whole records, fewer than 2^32, each with 0 or 1 in its word 0
  module _ (h : writable kind l ≡ true) where
    lengths : (eqb (length l % record_words kind) 0 && ltb (records_of kind l) word_values) ≡ true
    unfolding writable
    lengths = and_left (eqb (length l % record_words kind) 0 && ltb (records_of kind l) word_values) (every_below (records_of kind l) (λ r. leb (get_or l (record_words kind * r) 0) 1)) h

    pub whole-records : length l ≡ record_words kind * records_of kind l
    unfolding records_of
    whole-records = whole_words kind (length l) (eqb-true (length l % record_words kind) 0 (and_left (eqb (length l % record_words kind) 0) (ltb (records_of kind l) word_values) lengths))

    pub few-records : records_of kind l < word_values
    few-records = ltb-true (records_of kind l) word_values (and_right (eqb (length l % record_words kind) 0) (ltb (records_of kind l) word_values) lengths)

    pub marked-records : every_below (records_of kind l) (λ r. leb (get_or l (record_words kind * r) 0) 1) ≡ true
    unfolding writable
    marked-records = and_right (eqb (length l % record_words kind) 0 && ltb (records_of kind l) word_values) (every_below (records_of kind l) (λ r. leb (get_or l (record_words kind * r) 0) 1)) h

  -- by the three tests
  marks : Bool
  marks = every_below (records_of kind l) (λ r. leb (get_or l (record_words kind * r) 0) 1)

  pub cannot-part : (length l % record_words kind ≡ 0 → ⊥) → false ≡ writable kind l
  unfolding writable marks
  cannot-part d = sym (ap (λ (x : Bool). x && ltb (records_of kind l) word_values && marks) (ne_eqb (length l % record_words kind) 0 d))

  pub cannot-many : length l % record_words kind ≡ 0 → word_values ≤ records_of kind l → false ≡ writable kind l
  unfolding writable marks
  cannot-many e h = sym (λ z. eq-eqb (length l % record_words kind) 0 e z && le-ltb (records_of kind l) word_values h z && marks)

  pub marked-decides : length l % record_words kind ≡ 0 → records_of kind l < word_values → writable kind l ≡ every_below (records_of kind l) (λ r. leb (get_or l (record_words kind * r) 0) 1)
  unfolding writable marks
  marked-decides e h = λ z. eq-eqb (length l % record_words kind) 0 e z && lt-ltb (records_of kind l) word_values h z && marks

  -- and every such list can be
  pub can_write : length l % record_words kind ≡ 0 → records_of kind l < word_values → every_below (records_of kind l) (λ r. leb (get_or l (record_words kind * r) 0) 1) ≡ true → writable kind l ≡ true
  can_write e h m = marked-decides e h ∙ m

  module _ (card : List ℕ) where
    -- by the two tests
    pub wrote-1 : writable kind l ≡ false → write_left kind l card ≡ not_written 1 card
    unfolding write_left
    wrote-1 h = simp h

    pub wrote-2 : writable kind l ≡ true → length card < card_bytes kind (records_of kind l) → write_left kind l card ≡ not_written 2 card
    unfolding write_left
    wrote-2 h k = simp (h, lt-leb (card_bytes kind (records_of kind l)) (length card) k)

    pub wrote-0 : writable kind l ≡ true → card_bytes kind (records_of kind l) ≤ length card → write_left kind l card ≡ card_written kind l card
    unfolding write_left
    wrote-0 h k = simp (h, le-leb (card_bytes kind (records_of kind l)) (length card) k)

module _ (kind : Kind) (n : ℕ) (bs answer : List ℕ) where
  taken : ReadLeft
  taken = record { number = 0; past = bytes_past kind n bs; answer = readings kind n bs ++ drop (record_words kind * n) answer }

  refused : ReadLeft
  refused = record { number = 2; past = 0; answer = answer }

  pub got-2 : length answer < record_words kind * n → read_left kind n bs answer ≡ record { number = 2; past = 0; answer = answer }
  unfolding read_left taken refused
  got-2 h = ap (λ (x : Bool). cond x taken refused) (lt-leb (record_words kind * n) (length answer) h)

  pub got-0 : record_words kind * n ≤ length answer → read_left kind n bs answer ≡ record { number = 0; past = bytes_past kind n bs; answer = readings kind n bs ++ drop (record_words kind * n) answer }
  unfolding read_left taken refused
  got-0 h = ap (λ (x : Bool). cond x taken refused) (le-leb (record_words kind * n) (length answer) h)
