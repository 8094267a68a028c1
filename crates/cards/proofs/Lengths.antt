-- How long the blocks of a card and what is read from them are. Assumes nothing.
use Prim.Native.Nat.{ℕ, zero, suc, ◌*◌, ◌≤◌, ◌<◌}
use native.Mathlib.Omega.{arith}
use mathlib.Core.Path.{◌≡◌, refl, ◌∙◌}
use mathlib.Core.List.{List}
use lib.ListN.{length, length-append}
use Rattle.lists.specs.Parts.{joined}
use Rattle.lists.proofs.Parts.{length-joined, length_part}
use Rattle.blocks.specs.declared.Kind.{Kind}
use Rattle.blocks.specs.Format.{block_bytes, record_words, records_held, room_words, blocks_for, used_words, records_in, block_of}
use Rattle.blocks.specs.Judged.{records_read}
use Rattle.blocks.proofs.Counts.{called, words-fit, full-words, last-words, no_words}
use Rattle.blocks.proofs.Stored.{length-block-bytes}
use Rattle.blocks.proofs.Judged.{length-read}
use Rattle.cards.specs.Writer.{blocks_of}
use Rattle.cards.specs.Reader.{readings}

-- the records of a block that is called for are all in the list
pub length-own : (kind : Kind) (n b : ℕ) (l : List ℕ) → record_words kind * n ≤ length l → records_held kind * b < n → length (records_in kind n b l) ≡ used_words kind n b
unfolding records_in
length-own kind n b l h k = length_part (room_words * b) (used_words kind n b) l (omega (arith, words-fit kind n b k))

-- k blocks
pub length-blocks : (kind : Kind) (k n : ℕ) (l : List ℕ) → record_words kind * n ≤ length l → k ≤ blocks_for kind n → length (blocks_of kind k n l) ≡ block_bytes * k
unfolding blocks_of
length-blocks kind k n l h m =
    length-joined k block_bytes (λ b. block_of kind n b (records_in kind n b l)) (λ b i. length-block-bytes kind n b (records_in kind n b l) (length-own kind n b l h (called kind n b (omega (arith, i, m)))))

-- what is read from the blocks before b
pub length_before : (kind : Kind) (n b : ℕ) (bs : List ℕ) → b < blocks_for kind n → length (joined b (λ k. records_read kind n k bs)) ≡ room_words * b
length_before kind n b bs h =
    length-joined b room_words (λ k. records_read kind n k bs) (λ k l. length-read kind n k bs ∙ full-words kind n k (omega (arith, l, h)))

-- and from all of them
to-the-last : (kind : Kind) (n k : ℕ) (bs : List ℕ) → blocks_for kind n ≡ k → length (joined k (λ b. records_read kind n b bs)) ≡ record_words kind * n
unfolding joined
to-the-last kind n zero bs e = omega (arith, no_words kind n e)
to-the-last kind n (suc m) bs e =
    length-append (joined m (λ b. records_read kind n b bs)) (records_read kind n m bs)
    ∙ omega (arith, length_before kind n m bs (omega (arith, e)), length-read kind n m bs, last-words kind n m e)

pub length-readings : (kind : Kind) (n : ℕ) (bs : List ℕ) → length (readings kind n bs) ≡ record_words kind * n
unfolding readings
length-readings kind n bs = to-the-last kind n (blocks_for kind n) bs refl
