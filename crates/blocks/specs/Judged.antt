-- How the reader judges a block by its place, from request E1, for either kind. Definitions only.
use Rattle.std.specs.Prelude.{ℕ, ◌+◌, ◌-◌, ◌*◌, ◌/◌, Bool, cond, ◌&&◌, List, ◌∷◌, length, get_or, take, replicate, eqb, leb, ltb}
use Rattle.lists.specs.Parts.{every_below, joined}
use Rattle.words.specs.Words.{words_at}
use Rattle.blocks.specs.declared.Kind.{Kind}
use Rattle.blocks.specs.Format.{block_bytes, block_words, summed_words, record_words, room_words, header_words, records_used, used_words, header, check_word}

-- 'number, counts, zeros': the words before the records, the kind's word among them, are those of the place
unfoldable pub headed : Kind → ℕ → ℕ → List ℕ → Bool
headed kind n b ws = every_below header_words (λ i. eqb (get_or ws i 0) (get_or (header kind n b) i 0))

-- 'a record's word 0 (0 or 1)', of each record used
unfoldable pub records_marked : Kind → ℕ → ℕ → List ℕ → Bool
records_marked kind n b ws = every_below (records_used kind n b) (λ r. leb (get_or ws (header_words + record_words kind * r) 0) 1)

-- 'zeros (unused records too)'
unfoldable pub emptied : Kind → ℕ → ℕ → List ℕ → Bool
emptied kind n b ws = every_below (room_words - used_words kind n b) (λ i. eqb (get_or ws (header_words + used_words kind n b + i) 0) 0)

-- 'or sum'
unfoldable pub checked : List ℕ → Bool
checked ws = eqb (get_or ws summed_words 0) (check_word (take summed_words ws))

-- whether the words of a block are what place b of n records calls for
unfoldable pub sound_block : Kind → ℕ → ℕ → List ℕ → Bool
sound_block kind n b ws = headed kind n b ws && records_marked kind n b ws && emptied kind n b ws && checked ws

-- the words of the block at place b of a list of bytes
unfoldable pub block_at : ℕ → List ℕ → List ℕ
block_at b bs = words_at bs (block_words * b) block_words

-- whether there is a block at place b, and it is sound
unfoldable pub good : Kind → ℕ → ℕ → List ℕ → Bool
good kind n b bs = ltb b (length bs / block_bytes) && sound_block kind n b (block_at b bs)

-- so many words that are lost: 'word 0 is 2, the rest zero'
unfoldable pub lost_words : ℕ → List ℕ
lost_words w = 2 ∷ replicate (w - 1) 0

-- a record that is lost
abbrev pub lost : Kind → List ℕ
lost kind = lost_words (record_words kind)

-- the records of block b, as they are read from a list of bytes: 'its records read as lost' where it is not good
unfoldable pub records_read : Kind → ℕ → ℕ → List ℕ → List ℕ
records_read kind n b bs = cond (good kind n b bs) (words_at bs (block_words * b + header_words) (used_words kind n b)) (joined (records_used kind n b) (λ _. lost kind))
