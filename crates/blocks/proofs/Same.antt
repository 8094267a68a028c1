-- A block is judged and read by its own 512 bytes alone. Assumes nothing.
use Prim.Native.Nat.{ℕ, ◌+◌, ◌-◌, ◌*◌, ◌/◌, ◌<◌, min}
use native.Mathlib.Omega.{arith}
use mathlib.Core.Path.{◌≡◌, refl, sym, ap, ◌∙◌}
use mathlib.Core.Bool.{Bool, true, false, cond, ◌&&◌}
use mathlib.Core.List.{List}
use lib.ListN.{length, get_or, take, drop, length-take, length-drop}
use lib.Seq.{get_or-take, get_or-drop, ext_get_or}
use lib.Dec.{eqb, ltb}
use borrow.Author.Tests.{ltb-true, ltb-false, eq-eqb, ne_eqb}
use Rattle.lists.specs.Parts.{joined, part}
use Rattle.words.specs.Words.{word_at, words_at}
use Rattle.words.proofs.Words.{same_word, word_of, length-words, words-part}
use Rattle.blocks.specs.declared.Kind.{Kind}
use Rattle.blocks.specs.Format.{block_bytes, block_words, header_words, records_used, used_words}
use Rattle.blocks.specs.Judged.{sound_block, block_at, good, lost, records_read}
use Rattle.blocks.proofs.Counts.{used-words-le}

-- whether a block is there, by the length of its bytes
there : (b : ℕ) (bs : List ℕ) → ltb b (length bs / block_bytes) ≡ eqb (length (part (block_bytes * b) block_bytes bs)) block_bytes
unfolding part
there b bs = go (ltb b (length bs / block_bytes)) refl
  where
    size : length (take block_bytes (drop (block_bytes * b) bs)) ≡ min block_bytes (length bs - block_bytes * b)
    size = length-take block_bytes (drop (block_bytes * b) bs) ∙ ap (min block_bytes) (length-drop (block_bytes * b) bs)

    go : (x : Bool) → ltb b (length bs / block_bytes) ≡ x → ltb b (length bs / block_bytes) ≡ eqb (length (take block_bytes (drop (block_bytes * b) bs))) block_bytes
    go true h = h ∙ sym (eq-eqb (length (take block_bytes (drop (block_bytes * b) bs))) block_bytes (omega (arith, size, ltb-true b (length bs / block_bytes) h)))
    go false h = h ∙ sym (ne_eqb (length (take block_bytes (drop (block_bytes * b) bs))) block_bytes (λ e. omega (arith, e, size, ltb-false b (length bs / block_bytes) h)))

module _ (kind : Kind) (n b : ℕ) (bs cs : List ℕ) (e : part (block_bytes * b) block_bytes bs ≡ part (block_bytes * b) block_bytes cs) where
  -- each byte
  byte : (i : ℕ) → i < block_bytes → get_or bs (block_bytes * b + i) 0 ≡ get_or cs (block_bytes * b + i) 0
  unfolding part
  byte i h = sym (of bs) ∙ (ap (λ (l : List ℕ). get_or l i 0) e ∙ of cs)
    where
      of : (l : List ℕ) → get_or (take block_bytes (drop (block_bytes * b) l)) i 0 ≡ get_or l (block_bytes * b + i) 0
      of l = get_or-take block_bytes (drop (block_bytes * b) l) i 0 h ∙ get_or-drop (block_bytes * b) l i 0

  -- each word
  word : (i : ℕ) → i < block_words → word_at bs (block_words * b + i) ≡ word_at cs (block_words * b + i)
  word i h =
      same_word bs cs (block_words * b + i) (block_words * b + i)
      (λ k l. ap (λ (j : ℕ). get_or bs j 0) (place i k) ∙ (byte (4 * i + k) (omega (arith, h, l)) ∙ ap (λ (j : ℕ). get_or cs j 0) (sym (place i k))))
    where
      place : (i k : ℕ) → 4 * (block_words * b + i) + k ≡ block_bytes * b + (4 * i + k)
      place i k = omega arith

  same_block : block_at b bs ≡ block_at b cs
  unfolding block_at
  same_block =
      ext_get_or 0 (words_at bs (block_words * b) block_words) (words_at cs (block_words * b) block_words) (length-words bs (block_words * b) block_words ∙ sym (length-words cs (block_words * b) block_words))
      (λ i l. at i (omega (arith, l, length-words bs (block_words * b) block_words)))
    where
      at : (i : ℕ) → i < block_words → get_or (words_at bs (block_words * b) block_words) i 0 ≡ get_or (words_at cs (block_words * b) block_words) i 0
      at i h = word_of bs (block_words * b) block_words i h ∙ (word i h ∙ sym (word_of cs (block_words * b) block_words i h))

  pub same_good : good kind n b bs ≡ good kind n b cs
  unfolding good
  same_good = λ z. (there b bs ∙ (ap (λ (l : List ℕ). eqb (length l) block_bytes) e ∙ sym (there b cs))) z && sound_block kind n b (same_block z)

  pub same_read : records_read kind n b bs ≡ records_read kind n b cs
  unfolding records_read block_at
  same_read = λ z. cond (same_good z) (same-words z) (joined (records_used kind n b) (λ _. lost kind))
    where
      own : (l : List ℕ) → part header_words (used_words kind n b) (words_at l (block_words * b) block_words) ≡ words_at l (block_words * b + header_words) (used_words kind n b)
      own l = words-part l (block_words * b) header_words (used_words kind n b) block_words (omega (arith, used-words-le kind n b))

      same-words : words_at bs (block_words * b + header_words) (used_words kind n b) ≡ words_at cs (block_words * b + header_words) (used_words kind n b)
      same-words = sym (own bs) ∙ (ap (part header_words (used_words kind n b)) same_block ∙ own cs)
