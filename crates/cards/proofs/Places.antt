-- Where each block and each record stands in what was read. Assumes nothing.
use Prim.Native.Nat.{ℕ, ◌+◌, ◌*◌, ◌/◌, ◌≤◌, ◌<◌}
use native.Mathlib.Nat.{add-zero}
use native.Mathlib.Omega.{arith}
use mathlib.Core.Path.{◌≡◌, sym, ap, ◌∙◌}
use mathlib.Core.Bool.{true, false, ◌&&◌}
use mathlib.Core.List.{List, ◌++◌, append_assoc}
use lib.ListN.{length, get_or}
use lib.Dec.{leb, ltb}
use borrow.Author.Tests.{leb-true}
use Rattle.bits.proofs.Bools.{and_left, and_right}
use Rattle.lists.specs.Parts.{every_below, joined, part}
use Rattle.words.specs.Words.{word_at, words_at}
use Rattle.lists.proofs.Parts.{every-at, joined-split, length-joined, part-middle, part-whole}
use Rattle.words.proofs.Words.{word_of, words-part}
use Rattle.blocks.specs.declared.Kind.{Kind}
use Rattle.blocks.specs.Format.{block_bytes, block_words, header_words, record_words, records_held, room_words, blocks_for, records_used, used_words, records_in}
use Rattle.blocks.specs.Judged.{headed, records_marked, emptied, checked, sound_block, block_at, good, lost, records_read}
use Rattle.blocks.proofs.Counts.{words_are, wide-some, one_of, place_is}
use Rattle.blocks.proofs.Judged.{length-lost, length-read, read-good, read-lost, marked-words}
use Rattle.cards.specs.Reader.{readings}
use Rattle.cards.proofs.Lengths.{length_before}

module _ (kind : Kind) (n : ℕ) (bs tail : List ℕ) where
  -- a part of what block b reads as
  within : (b j m : ℕ) → b < blocks_for kind n → j + m ≤ used_words kind n b → part (room_words * b + j) m (readings kind n bs ++ tail) ≡ part j m (records_read kind n b bs)
  unfolding readings
  within b j m h k =
      let s = joined-split (blocks_for kind n) b (λ i. records_read kind n i bs) h in
      ap (part (room_words * b + j) m)
      (ap (λ (l : List ℕ). l ++ tail) s.1
      ∙ (append_assoc (joined b (λ i. records_read kind n i bs)) (records_read kind n b bs ++ s.0) tail ∙ ap (λ (l : List ℕ). joined b (λ i. records_read kind n i bs) ++ l) (append_assoc (records_read kind n b bs) s.0 tail)))
      ∙ part-middle (joined b (λ i. records_read kind n i bs)) (records_read kind n b bs) (s.0 ++ tail) (room_words * b) j m (length_before kind n b bs h) (omega (arith, k, length-read kind n b bs))

  -- the records of block b are what it reads as
  pub block-place : (b : ℕ) → b < blocks_for kind n → records_in kind n b (readings kind n bs ++ tail) ≡ records_read kind n b bs
  unfolding records_in
  block-place b h =
      ap (λ (p : ℕ). part p (used_words kind n b) (readings kind n bs ++ tail)) (sym (add-zero (room_words * b)))
      ∙ (within b 0 (used_words kind n b) h (omega arith) ∙ part-whole (records_read kind n b bs) (used_words kind n b) (length-read kind n b bs))

  -- record r of block b
  module _ (b r : ℕ) (h : b < blocks_for kind n) (k : r < records_used kind n b) where
    -- its words are among the block's
    inside : record_words kind * r + record_words kind ≤ used_words kind n b
    inside = omega (arith, one_of (record_words kind) r (records_used kind n b) k, words_are kind n b)

    pub record-place : part (record_words kind * (records_held kind * b + r)) (record_words kind) (readings kind n bs ++ tail) ≡ part (record_words kind * r) (record_words kind) (records_read kind n b bs)
    record-place =
        ap (λ (p : ℕ). part p (record_words kind) (readings kind n bs ++ tail)) (place_is kind b r) ∙ within b (record_words kind * r) (record_words kind) h inside

    -- in a good block
    pub record-kept : good kind n b bs ≡ true → part (record_words kind * (records_held kind * b + r)) (record_words kind) (readings kind n bs ++ tail) ≡ words_at bs (block_words * b + header_words + record_words kind * r) (record_words kind)
    record-kept g =
        record-place ∙ (ap (part (record_words kind * r) (record_words kind)) (read-good kind n b bs g) ∙ words-part bs (block_words * b + header_words) (record_words kind * r) (record_words kind) (used_words kind n b) inside)

    -- its word 0
    pub record-mark : good kind n b bs ≡ true → get_or (words_at bs (block_words * b + header_words + record_words kind * r) (record_words kind)) 0 0 ≤ 1
    unfolding good sound_block
    record-mark g =
        omega (arith, word_of bs (block_words * b + header_words + record_words kind * r) (record_words kind) 0 (wide-some kind), ap (word_at bs) (add-zero (block_words * b + header_words + record_words kind * r)), leb-true (word_at bs (block_words * b + header_words + record_words kind * r)) 1 (every-at (records_used kind n b) r (λ r. leb (word_at bs (block_words * b + header_words + record_words kind * r)) 1) marks k))
      where
        marks : every_below (records_used kind n b) (λ r. leb (word_at bs (block_words * b + header_words + record_words kind * r)) 1) ≡ true
        marks =
            marked-words kind n b bs
            ∙ and_right (headed kind n b (block_at b bs)) (records_marked kind n b (block_at b bs))
            (and_left (headed kind n b (block_at b bs) && records_marked kind n b (block_at b bs)) (emptied kind n b (block_at b bs))
            (and_left (headed kind n b (block_at b bs) && records_marked kind n b (block_at b bs) && emptied kind n b (block_at b bs)) (checked (block_at b bs)) (and_right (ltb b (length bs / block_bytes)) (sound_block kind n b (block_at b bs)) g)))

    -- in any other
    pub record-lost : good kind n b bs ≡ false → part (record_words kind * (records_held kind * b + r)) (record_words kind) (readings kind n bs ++ tail) ≡ lost kind
    record-lost g =
        let s = joined-split (records_used kind n b) r (λ _. lost kind) k in
        let wide = length-lost (record_words kind) (wide-some kind) in
        record-place
        ∙ (ap (part (record_words kind * r) (record_words kind)) (read-lost kind n b bs g ∙ s.1)
        ∙ (ap (λ (p : ℕ). part p (record_words kind) (joined r (λ _. lost kind) ++ (lost kind ++ s.0))) (sym (add-zero (record_words kind * r)))
        ∙ (part-middle (joined r (λ _. lost kind)) (lost kind) s.0 (record_words kind * r) 0 (record_words kind) (length-joined r (record_words kind) (λ _. lost kind) (λ i l. wide)) (omega (arith, wide)) ∙ part-whole (lost kind) (record_words kind) wide)))
