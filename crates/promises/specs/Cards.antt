-- Cards (crate cards; dokphalun_card_write and dokphalun_card_read of the archive): what is promised of whatever their contracts allow, for cards of either kind. Definitions only.
use Rattle.std.specs.Prelude.{ℕ, ◌+◌, ◌*◌, ◌/◌, ◌%◌, ◌≤◌, ◌<◌, ◌≡◌, true, false, ◌≢◌, ◌⊎◌, List, [], ◌∷◌, ◌++◌, length, get_or, set, take, drop, replicate}
use Rattle.lists.specs.Parts.{joined, part}
use Rattle.words.specs.Words.{word_values, word_at, words_at, Fit}
use Rattle.blocks.specs.declared.Kind.{Kind}
use Rattle.blocks.specs.declared.Kind.TheVariants.{Ten, Twelve}
use Rattle.blocks.specs.Format.{block_bytes, block_words, header_words, record_words, records_held, blocks_for, records_used, used_words, records_in, block_of}
use Rattle.blocks.specs.Judged.{block_at, good, lost}
use Rattle.cards.specs.declared.Written.{Written}
use Rattle.cards.specs.declared.CardFound.{CardFound}
use Rattle.tangent.specs.Slot.{slot_words}
use Rattle.cards.specs.Writer.{records_of, writable, card_bytes, card_of}
use Rattle.cards.specs.Reader.{bytes_past}
use Rattle.cards.specs.Contract.{Writes, Reads}

-- a call of the writer that was made, of the answer words l and the lent list c: what it returned, and the list after it
pub record Writing (kind : Kind) (l c : List ℕ) : Type 0 where
  pub returned : Written
  pub card : List ℕ
  pub meets : Writes kind l c returned card

-- a call of the reader that was made, of the bytes bs, the total n and the lent list a
pub record CardRead (kind : Kind) (bs : List ℕ) (n : ℕ) (a : List ℕ) : Type 0 where
  pub returned : CardFound
  pub answer : List ℕ
  pub meets : Reads kind bs n a returned answer

-- the words of record k
unfoldable pub record_at : Kind → ℕ → List ℕ → List ℕ
record_at kind k l = part (record_words kind * k) (record_words kind) l

-- each number of a list is a byte
abbrev pub Bytes : List ℕ → Type 0
Bytes bs = (i : ℕ) → get_or bs i 0 < 256

-- the block at place b has another word i in cs than in bs, and all other words the same
pub record OneWord (b i : ℕ) (bs cs : List ℕ) : Type 0 where
  pub inside : i < block_words
  pub other : word_at cs (block_words * b + i) ≢ word_at bs (block_words * b + i)
  pub rest : block_at b cs ≡ set (block_at b bs) i (word_at cs (block_words * b + i))

-- record k as it stands in its block, absent (word 0 is 0) or present (1)
pub record RecordKept (kind : Kind) (bs : List ℕ) (n k : ℕ) (ws : List ℕ) : Type 0 where
  pub sound : good kind n (k / records_held kind) bs ≡ true
  pub words : ws ≡ words_at bs (block_words * (k / records_held kind) + header_words + record_words kind * (k % records_held kind)) (record_words kind)
  pub mark : get_or ws 0 0 ≤ 1

-- record k lost (word 0 is 2), because its block is not what its place calls for, or is not there
pub record RecordLost (kind : Kind) (bs : List ℕ) (n k : ℕ) (ws : List ℕ) : Type 0 where
  pub unsound : good kind n (k / records_held kind) bs ≡ false
  pub words : ws ≡ lost kind
  pub mark : get_or ws 0 0 ≡ 2

-- 'refuses with 1 ..', 'with 2, checked second, ..'; 'Nothing is altered then'
pub record Unwritten (kind : Kind) (l c : List ℕ) (w : Writing kind l c) : Type 0 where
  pub number : ((writable kind l ≡ false) × (w.returned.number ≡ 1)) ⊎ ((writable kind l ≡ true) × (length c < card_bytes kind (records_of kind l)) × (w.returned.number ≡ 2))
  pub bytes : w.returned.bytes ≡ 0
  pub card : w.card ≡ c

-- the card's bytes, and nothing else altered
pub record CardDone (kind : Kind) (l c : List ℕ) (w : Writing kind l c) : Type 0 where
  pub can : writable kind l ≡ true
  pub room : card_bytes kind (records_of kind l) ≤ length c
  pub number : w.returned.number ≡ 0
  pub bytes : w.returned.bytes ≡ card_bytes kind (records_of kind l)
  pub card : w.card ≡ card_of kind l ++ drop (card_bytes kind (records_of kind l)) c

-- refused with 2, and nothing altered
pub record Unread (kind : Kind) (bs : List ℕ) (n : ℕ) (a : List ℕ) (r : CardRead kind bs n a) : Type 0 where
  pub short : length a < record_words kind * n
  pub number : r.returned.number ≡ 2
  pub past : r.returned.past ≡ 0
  pub answer : r.answer ≡ a

-- n records read, the bytes past the last whole block reported, and nothing else altered
pub record CardGot (kind : Kind) (bs : List ℕ) (n : ℕ) (a : List ℕ) (r : CardRead kind bs n a) : Type 0 where
  pub room : record_words kind * n ≤ length a
  pub number : r.returned.number ≡ 0
  pub past : r.returned.past ≡ bytes_past kind n bs
  pub rest : drop (record_words kind * n) r.answer ≡ drop (record_words kind * n) a

-- the bytes of a block, written out
abbrev pub sample_bytes : List ℕ
sample_bytes = 1 ∷ 0 ∷ 0 ∷ 0 ∷ 2 ∷ 0 ∷ 0 ∷ 0 ∷ 14 ∷ 0 ∷ 0 ∷ 0 ∷ (replicate 16 0 ++ 1 ∷ replicate 479 0 ++ 237 ∷ 255 ∷ 255 ∷ 255 ∷ [])

-- and of a block of the other kind
abbrev pub twelve_bytes : List ℕ
twelve_bytes = 1 ∷ 0 ∷ 0 ∷ 0 ∷ 4 ∷ 0 ∷ 0 ∷ 0 ∷ 14 ∷ 0 ∷ 0 ∷ 0 ∷ 2 ∷ (replicate 15 0 ++ 1 ∷ replicate 479 0 ++ 233 ∷ 255 ∷ 255 ∷ 255 ∷ [])

-- (That each call ends, whatever it is handed, is part of what its contract says.)
pub record CardsPromised : Type 0 where
  -- a record of E7's kind is a slot of the answer
  pub width : record_words Twelve ≡ slot_words
  -- block 1 of 14 records, the first of its two present: words 1, 2, 14, four zeros, 1, 119 zeros, FFFFFFED
  pub sample : block_of Ten 14 1 (1 ∷ replicate 19 0) ≡ sample_bytes
  -- and of the other kind, the first of its four present: words 1, 4, 14, 2, three zeros, 1, 119 zeros, FFFFFFE9
  pub sample_twelve : block_of Twelve 14 1 (1 ∷ replicate 47 0) ≡ twelve_bytes
  -- 'What was written reads back the same', whatever bytes t stand past it
  pub back : (kind : Kind) (l c t a : List ℕ) (w : Writing kind l c) (r : CardRead kind (take w.returned.bytes w.card ++ t) (records_of kind l) a) → Fit l → w.returned.number ≡ 0 → r.returned.number ≡ 0 → (r.answer ≡ l ++ drop (length l) a) × (r.returned.past ≡ length t)
  -- 'a block in which exactly one word was changed is always noticed': its records read as lost
  pub noticed : (kind : Kind) (n b i : ℕ) (bs cs a : List ℕ) (r : CardRead kind cs n a) → b < blocks_for kind n → Bytes bs → Bytes cs → good kind n b bs ≡ true → OneWord b i bs cs → r.returned.number ≡ 0 → records_in kind n b r.answer ≡ joined (records_used kind n b) (λ _. lost kind)
  -- a block of the format is what its place calls for, whatever stands before it and after it: so are those that `append` makes
  pub block_good : (kind : Kind) (n b : ℕ) (rs front after : List ℕ) → length rs ≡ used_words kind n b → length front ≡ block_bytes * b → n < word_values → b < word_values → Fit rs → ((r : ℕ) → r < records_used kind n b → get_or rs (record_words kind * r) 0 ≤ 1) → good kind n b (front ++ (block_of kind n b rs ++ after)) ≡ true
  -- and so is each block that the writer wrote
  pub written_good : (kind : Kind) (l c : List ℕ) (b : ℕ) (w : Writing kind l c) → Fit l → w.returned.number ≡ 0 → b < blocks_for kind (records_of kind l) → good kind (records_of kind l) b w.card ≡ true
  -- so on a card that the writer wrote, exactly one word of a block changed is always noticed, whatever happened to the other blocks
  pub noticed_written : (kind : Kind) (l c cs a : List ℕ) (b i : ℕ) (w : Writing kind l c) (r : CardRead kind cs (records_of kind l) a) → Fit l → w.returned.number ≡ 0 → b < blocks_for kind (records_of kind l) → Bytes cs → OneWord b i w.card cs → r.returned.number ≡ 0 → records_in kind (records_of kind l) b r.answer ≡ joined (records_used kind (records_of kind l) b) (λ _. lost kind)
  -- 'The other blocks read as if nothing had happened': a block whose bytes are the same reads the same
  pub others : (kind : Kind) (n b : ℕ) (bs cs a d : List ℕ) (r : CardRead kind bs n a) (q : CardRead kind cs n d) → b < blocks_for kind n → part (block_bytes * b) block_bytes bs ≡ part (block_bytes * b) block_bytes cs → r.returned.number ≡ 0 → q.returned.number ≡ 0 → records_in kind n b r.answer ≡ records_in kind n b q.answer
  -- so a block that is as it was written reads as it was written, whatever happened to the card
  pub stands : (kind : Kind) (l c bs a : List ℕ) (b : ℕ) (w : Writing kind l c) (r : CardRead kind bs (records_of kind l) a) → b < blocks_for kind (records_of kind l) → Fit l → w.returned.number ≡ 0 → part (block_bytes * b) block_bytes bs ≡ part (block_bytes * b) block_bytes w.card → r.returned.number ≡ 0 → records_in kind (records_of kind l) b r.answer ≡ records_in kind (records_of kind l) b l
  -- absent, present and lost are told apart for every record
  pub told : (kind : Kind) (n k : ℕ) (bs a : List ℕ) (r : CardRead kind bs n a) → k < n → r.returned.number ≡ 0 → RecordKept kind bs n k (record_at kind k r.answer) ⊎ RecordLost kind bs n k (record_at kind k r.answer)
  -- 'to a reader of one kind a block of the other is lost': whatever block of one kind stands at place p, to a reader of another it is not what the place calls for, whatever the total m is
  pub other_kind_bad : (kind other : Kind) (n b m p : ℕ) (rs front after : List ℕ) → kind ≢ other → length front ≡ block_bytes * p → good other m p (front ++ (block_of kind n b rs ++ after)) ≡ false
  -- so every record of place p reads as lost
  pub other_kind_lost : (kind other : Kind) (n b m p : ℕ) (rs front after a : List ℕ) (r : CardRead other (front ++ (block_of kind n b rs ++ after)) m a) → kind ≢ other → length front ≡ block_bytes * p → p < blocks_for other m → r.returned.number ≡ 0 → records_in other m p r.answer ≡ joined (records_used other m p) (λ _. lost other)
  -- so does each block that the writer of one kind wrote, to a reader of another, whatever total he is told
  pub other_card_lost : (kind other : Kind) (l c a : List ℕ) (m p : ℕ) (w : Writing kind l c) (r : CardRead other w.card m a) → kind ≢ other → w.returned.number ≡ 0 → p < blocks_for kind (records_of kind l) → p < blocks_for other m → r.returned.number ≡ 0 → records_in other m p r.answer ≡ joined (records_used other m p) (λ _. lost other)
  -- the refusals, and what they leave
  pub written : (kind : Kind) (l c : List ℕ) (w : Writing kind l c) → Unwritten kind l c w ⊎ CardDone kind l c w
  pub read : (kind : Kind) (bs : List ℕ) (n : ℕ) (a : List ℕ) (r : CardRead kind bs n a) → Unread kind bs n a r ⊎ CardGot kind bs n a r
  -- 'Any pair of outcomes satisfying it is shown identical'
  pub one_writing : (kind : Kind) (l c : List ℕ) (w v : Writing kind l c) → (w.returned ≡ v.returned) × (w.card ≡ v.card)
  pub one_reading : (kind : Kind) (bs : List ℕ) (n : ℕ) (a : List ℕ) (r q : CardRead kind bs n a) → (r.returned ≡ q.returned) × (r.answer ≡ q.answer)
