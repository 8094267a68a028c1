-- The judgement of a block, over the words of the card. Assumes nothing.
use Prim.Native.Nat.{ℕ, zero, suc, ◌+◌, ◌-◌, ◌*◌, ◌/◌, ◌≤◌, ◌<◌}
use native.Mathlib.Nat.{add_assoc}
use native.Mathlib.Omega.{arith}
use mathlib.Core.Path.{◌≡◌, refl, sym, ap, ◌∙◌}
use mathlib.Core.Bool.{Bool, true, false, ◌&&◌, cond}
use mathlib.Core.List.{List}
use lib.ListN.{length, get_or, replicate}
use lib.Dec.{eqb, leb, ltb}
use borrow.Author.Tests.{lt-ltb, le-ltb, ltb-true}
use Rattle.bits.proofs.Bools.{and_left}
use Rattle.lists.specs.Parts.{every_below, joined}
use Rattle.words.specs.Words.{word_at, words_at}
use Rattle.lists.proofs.Parts.{every-same, length-joined, length-zeros}
use Rattle.words.proofs.Words.{word_of, length-words}
use Rattle.blocks.specs.declared.Kind.{Kind}
use Rattle.blocks.specs.Format.{block_bytes, block_words, header_words, record_words, room_words, records_used, used_words, header}
use Rattle.blocks.specs.Judged.{headed, records_marked, emptied, checked, sound_block, block_at, good, lost_words, lost, records_read}
use Rattle.blocks.proofs.Counts.{used-words-le, words_are, wide-some, one_of}

-- so many words that are lost
pub length-lost : (w : ℕ) → 0 < w → length (lost_words w) ≡ w
unfolding lost_words
length-lost w h = omega (arith, length-zeros (w - 1))

-- all of them but the first are zero
pub zero-there : (k i : ℕ) → get_or {A = ℕ} (replicate k 0) i 0 ≡ 0
zero-there zero i = refl
zero-there (suc k) zero = refl
zero-there (suc k) (suc i) = zero-there k i

module _ (kind : Kind) (n b : ℕ) (bs : List ℕ) where
  -- word i of the block
  at : (i : ℕ) → i < block_words → get_or (block_at b bs) i 0 ≡ word_at bs (block_words * b + i)
  unfolding block_at
  at i l = word_of bs (block_words * b) block_words i l

  pub headed-words : every_below header_words (λ i. eqb (word_at bs (block_words * b + i)) (get_or (header kind n b) i 0)) ≡ headed kind n b (block_at b bs)
  unfolding headed
  headed-words = every-same header_words (λ i. eqb (word_at bs (block_words * b + i)) (get_or (header kind n b) i 0)) (λ i. eqb (get_or (block_at b bs) i 0) (get_or (header kind n b) i 0)) (λ i l. ap (λ (w : ℕ). eqb w (get_or (header kind n b) i 0)) (sym (at i (omega arith))))

  pub marked-words : every_below (records_used kind n b) (λ r. leb (word_at bs (block_words * b + header_words + record_words kind * r)) 1) ≡ records_marked kind n b (block_at b bs)
  unfolding records_marked
  marked-words =
      every-same (records_used kind n b) (λ r. leb (word_at bs (block_words * b + header_words + record_words kind * r)) 1) (λ r. leb (get_or (block_at b bs) (header_words + record_words kind * r) 0) 1)
      (λ r l. ap (λ (w : ℕ). leb w 1) (ap (word_at bs) (add_assoc (block_words * b) header_words (record_words kind * r)) ∙ sym (at (header_words + record_words kind * r) (omega (arith, one_of (record_words kind) r (records_used kind n b) l, words_are kind n b, used-words-le kind n b)))))

  pub emptied-words : every_below (room_words - used_words kind n b) (λ i. eqb (word_at bs (block_words * b + header_words + used_words kind n b + i)) 0) ≡ emptied kind n b (block_at b bs)
  unfolding emptied
  emptied-words =
      every-same (room_words - used_words kind n b) (λ i. eqb (word_at bs (block_words * b + header_words + used_words kind n b + i)) 0) (λ i. eqb (get_or (block_at b bs) (header_words + used_words kind n b + i) 0) 0)
      (λ i l. ap (λ (w : ℕ). eqb w 0) (ap (word_at bs) (place i) ∙ sym (at (header_words + used_words kind n b + i) (omega (arith, l, used-words-le kind n b)))))
    where
      place : (i : ℕ) → block_words * b + header_words + used_words kind n b + i ≡ block_words * b + (header_words + used_words kind n b + i)
      place i = omega arith

  -- no block
  pub good_none : length bs / block_bytes ≤ b → false ≡ good kind n b bs
  unfolding good
  good_none h = sym (ap (λ (x : Bool). x && sound_block kind n b (block_at b bs)) (le-ltb b (length bs / block_bytes) h))

  -- a block, by its four tests
  module _ (there : b < length bs / block_bytes) where
    by : headed kind n b (block_at b bs) && records_marked kind n b (block_at b bs) && emptied kind n b (block_at b bs) && checked (block_at b bs) ≡ good kind n b bs
    unfolding good sound_block
    by = sym (ap (λ (x : Bool). x && sound_block kind n b (block_at b bs)) (lt-ltb b (length bs / block_bytes) there))

    pub bad-header : headed kind n b (block_at b bs) ≡ false → false ≡ good kind n b bs
    bad-header h = sym (ap (λ (x : Bool). x && records_marked kind n b (block_at b bs) && emptied kind n b (block_at b bs) && checked (block_at b bs)) h) ∙ by

    pub bad-mark : headed kind n b (block_at b bs) ≡ true → records_marked kind n b (block_at b bs) ≡ false → false ≡ good kind n b bs
    bad-mark h m = sym (λ z. h z && m z && emptied kind n b (block_at b bs) && checked (block_at b bs)) ∙ by

    pub bad-rest : headed kind n b (block_at b bs) ≡ true → records_marked kind n b (block_at b bs) ≡ true → emptied kind n b (block_at b bs) ≡ false → false ≡ good kind n b bs
    bad-rest h m e = sym (λ z. h z && m z && e z && checked (block_at b bs)) ∙ by

    pub by-sum : headed kind n b (block_at b bs) ≡ true → records_marked kind n b (block_at b bs) ≡ true → emptied kind n b (block_at b bs) ≡ true → checked (block_at b bs) ≡ good kind n b bs
    by-sum h m e = sym (λ z. h z && m z && e z && checked (block_at b bs)) ∙ by

  -- a good block is there
  pub good-there : good kind n b bs ≡ true → b < length bs / block_bytes
  unfolding good
  good-there h = ltb-true b (length bs / block_bytes) (and_left (ltb b (length bs / block_bytes)) (sound_block kind n b (block_at b bs)) h)

  -- and reads as its words; any other as lost
  pub read-good : good kind n b bs ≡ true → records_read kind n b bs ≡ words_at bs (block_words * b + header_words) (used_words kind n b)
  unfolding records_read
  read-good h = ap (λ (x : Bool). cond x (words_at bs (block_words * b + header_words) (used_words kind n b)) (joined (records_used kind n b) (λ _. lost kind))) h

  pub read-lost : good kind n b bs ≡ false → records_read kind n b bs ≡ joined (records_used kind n b) (λ _. lost kind)
  unfolding records_read
  read-lost h = ap (λ (x : Bool). cond x (words_at bs (block_words * b + header_words) (used_words kind n b)) (joined (records_used kind n b) (λ _. lost kind))) h

  -- a block reads as so many words as its records have
  pub length-read : length (records_read kind n b bs) ≡ used_words kind n b
  length-read = go (good kind n b bs) refl
    where
      go : (x : Bool) → good kind n b bs ≡ x → length (records_read kind n b bs) ≡ used_words kind n b
      go true h = ap length (read-good h) ∙ length-words bs (block_words * b + header_words) (used_words kind n b)
      go false h = ap length (read-lost h) ∙ (length-joined (records_used kind n b) (record_words kind) (λ _. lost kind) (λ i l. length-lost (record_words kind) (wide-some kind)) ∙ sym (words_are kind n b))
