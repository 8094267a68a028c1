-- What a block of a card is, from requests E1 and E7: a block of either kind. Definitions only.
use Rattle.std.specs.Prelude.{ℕ, ◌+◌, ◌-◌, ◌*◌, ◌/◌, ◌%◌, min, List, [], ◌∷◌, ◌++◌, replicate}
use Rattle.lists.specs.Parts.{sum_of, part}
use Rattle.words.specs.Words.{word_values, bytes_of}
use Rattle.blocks.specs.declared.Kind.{Kind}
use Rattle.blocks.specs.declared.Kind.TheVariants.{Ten, Twelve}

-- the words of a record: E1's 'ten words', or E7's 'twelve words'
unfoldable pub record_words : Kind → ℕ
record_words Ten = 10
record_words Twelve = 12

-- how many records a block holds: E1's '12 records', or E7's 'blocks of E1 hold ten records'
unfoldable pub records_held : Kind → ℕ
records_held Ten = 12
records_held Twelve = 10

-- word 3 of a block: one of E1's 'four zero words', and 'Word 3 is 2 in the new kind'
unfoldable pub kind_word : Kind → ℕ
kind_word Ten = 0
kind_word Twelve = 2

-- the words before the records: number, used, total, the kind's word and three zero words
abbrev pub header_words : ℕ
header_words = 7

-- the words that a block's records take, in both kinds
abbrev pub room_words : ℕ
room_words = 120

-- the words that are summed: those before the records, and the records
abbrev pub summed_words : ℕ
summed_words = header_words + room_words

-- 'A block is 512 bytes, 128 little-endian words': those that are summed, and the sum
abbrev pub block_words : ℕ
block_words = summed_words + 1

abbrev pub block_bytes : ℕ
block_bytes = 4 * block_words

-- the zero words after the kind's word
abbrev pub spare : List ℕ
spare = 0 ∷ 0 ∷ 0 ∷ []

-- how many blocks n records take: 'No records, no blocks; only the last may be part full'
unfoldable pub blocks_for : Kind → ℕ → ℕ
blocks_for kind n = (n + (records_held kind - 1)) / records_held kind

-- 'records used (1 to 12)', 1 to 10 in E7's kind: how many of n records are in block b
unfoldable pub records_used : Kind → ℕ → ℕ → ℕ
records_used kind n b = min (records_held kind) (n - records_held kind * b)

-- and how many words they are
unfoldable pub used_words : Kind → ℕ → ℕ → ℕ
used_words kind n b = record_words kind * records_used kind n b

-- the records of block b in a list of n records
unfoldable pub records_in : Kind → ℕ → ℕ → List ℕ → List ℕ
records_in kind n b l = part (room_words * b) (used_words kind n b) l

-- 'block number from 0, records used .., total records, four zero words', the first of which is the kind's word
unfoldable pub header : Kind → ℕ → ℕ → List ℕ
header kind n b = b ∷ records_used kind n b ∷ n ∷ kind_word kind ∷ spare

-- all words but the last: '.. 12 records of ten words (unused ones zero)', or ten of twelve
unfoldable pub body : Kind → ℕ → ℕ → List ℕ → List ℕ
body kind n b rs = header kind n b ++ rs ++ replicate (room_words - used_words kind n b) 0

-- 'the bitwise complement .., modulo 2^32': every bit of a word turned is the word taken from 2^32 - 1
unfoldable pub complement : ℕ → ℕ
complement s = word_values - 1 - s % word_values

-- 'the bitwise complement of the sum of the other 127 words, modulo 2^32'
unfoldable pub check_word : List ℕ → ℕ
check_word ws = complement (sum_of ws)

-- block b of n records, of which rs are its own, as words
unfoldable pub block : Kind → ℕ → ℕ → List ℕ → List ℕ
block kind n b rs = body kind n b rs ++ check_word (body kind n b rs) ∷ []

-- and as bytes
unfoldable pub block_of : Kind → ℕ → ℕ → List ℕ → List ℕ
block_of kind n b rs = bytes_of (block kind n b rs)
