-- A block that was written is sound, and its records read back. Assumes nothing.
use Prim.Native.Nat.{ℕ, ◌+◌, ◌*◌, ◌-◌, ◌/◌, ◌<◌}
use native.Mathlib.Nat.{add_assoc}
use native.Mathlib.Omega.{arith}
use mathlib.Core.Path.{◌≡◌, sym, ap, ◌∙◌, subst}
use mathlib.Core.Bool.{true, ◌&&◌}
use mathlib.Core.List.{List, [], ◌∷◌, ◌++◌, append_assoc}
use lib.ListN.{length, get_or, replicate, length-append, get_or-append}
use lib.Seq.{take_at, get_or_at, get_or-append-add}
use lib.Dec.{eqb, leb}
use borrow.Author.Tests.{eq-eqb, lt-ltb}
use Rattle.lists.specs.Parts.{every_below, part}
use Rattle.words.specs.Words.{word_values, words_at, Fit}
use Rattle.lists.proofs.Parts.{every-all, every-at, length-zeros, part-middle, part-whole}
use Rattle.words.proofs.Words.{words_back, words-part, fit_append, fit-zeros, fit-one}
use Rattle.blocks.specs.declared.Kind.{Kind}
use Rattle.blocks.specs.Format.{block_bytes, block_words, header_words, record_words, room_words, summed_words, records_used, used_words, kind_word, spare, header, body, complement, check_word, block, block_of}
use Rattle.blocks.specs.Judged.{headed, records_marked, emptied, checked, sound_block, block_at, good, records_read}
use Rattle.blocks.proofs.Counts.{used-few, kind-word-fits, wide-some, one_of, used-words-le, words_are}
use Rattle.blocks.proofs.Stored.{length-header, length-body, length-block, length-block-bytes}
use Rattle.blocks.proofs.Judged.{zero-there, read-good}

module _ (kind : Kind) (n b : ℕ) (rs : List ℕ) (own : length rs ≡ used_words kind n b) where
  -- the block as its header, its records and the rest
  abbrev rest : List ℕ
  rest = replicate (room_words - used_words kind n b) 0 ++ check_word (body kind n b rs) ∷ []

  parts : block kind n b rs ≡ header kind n b ++ (rs ++ rest)
  unfolding block body
  parts =
      append_assoc (header kind n b ++ rs) (replicate (room_words - used_words kind n b) 0) (check_word (body kind n b rs) ∷ [])
      ∙ append_assoc (header kind n b) rs rest

  -- a word of the header
  in-header : (i : ℕ) → i < header_words → get_or (block kind n b rs) i 0 ≡ get_or (header kind n b) i 0
  in-header i h = ap (λ (l : List ℕ). get_or l i 0) parts ∙ get_or-append (header kind n b) (rs ++ rest) 0 i (omega (arith, h, length-header kind n b))

  -- a word past it
  past : (i : ℕ) → get_or (block kind n b rs) (header_words + i) 0 ≡ get_or (rs ++ rest) i 0
  past i = ap (λ (l : List ℕ). get_or l (header_words + i) 0) parts ∙ (ap (λ (k : ℕ). get_or (header kind n b ++ (rs ++ rest)) (k + i) 0) (sym (length-header kind n b)) ∙ get_or-append-add (header kind n b) (rs ++ rest) i 0)

  is-headed : headed kind n b (block kind n b rs) ≡ true
  unfolding headed
  is-headed = every-all header_words (λ i. eqb (get_or (block kind n b rs) i 0) (get_or (header kind n b) i 0)) (λ i h. eq-eqb _ _ (in-header i h))

  -- a word of a record
  in-records : (i : ℕ) → i < used_words kind n b → get_or (block kind n b rs) (header_words + i) 0 ≡ get_or rs i 0
  in-records i h = past i ∙ get_or-append rs rest 0 i (omega (arith, h, own))

  is-marked : every_below (records_used kind n b) (λ r. leb (get_or rs (record_words kind * r) 0) 1) ≡ true → records_marked kind n b (block kind n b rs) ≡ true
  unfolding records_marked
  is-marked m =
      every-all (records_used kind n b) (λ r. leb (get_or (block kind n b rs) (header_words + record_words kind * r) 0) 1)
      (λ r h. ap (λ (w : ℕ). leb w 1) (in-records (record_words kind * r) (omega (arith, one_of (record_words kind) r (records_used kind n b) h, wide-some kind, words_are kind n b))) ∙ every-at (records_used kind n b) r (λ r. leb (get_or rs (record_words kind * r) 0) 1) m h)

  -- a word of an unused record
  unused : (i : ℕ) → i < room_words - used_words kind n b → get_or (block kind n b rs) (header_words + used_words kind n b + i) 0 ≡ 0
  unused i h =
      ap (λ (k : ℕ). get_or (block kind n b rs) k 0) (add_assoc header_words (used_words kind n b) i)
      ∙ (past (used_words kind n b + i)
      ∙ (ap (λ (k : ℕ). get_or (rs ++ rest) (k + i) 0) (sym own)
      ∙ (get_or-append-add rs rest i 0 ∙ (get_or-append (replicate (room_words - used_words kind n b) 0) (check_word (body kind n b rs) ∷ []) 0 i (omega (arith, h, length-zeros (room_words - used_words kind n b))) ∙ zero-there (room_words - used_words kind n b) i))))

  is-emptied : emptied kind n b (block kind n b rs) ≡ true
  unfolding emptied
  is-emptied = every-all (room_words - used_words kind n b) (λ i. eqb (get_or (block kind n b rs) (header_words + used_words kind n b + i) 0) 0) (λ i h. eq-eqb _ _ (unused i h))

  is-checked : checked (block kind n b rs) ≡ true
  unfolding checked block
  is-checked =
      eq-eqb _ _ (get_or_at (body kind n b rs) (check_word (body kind n b rs)) [] 0 summed_words (length-body kind n b rs own)
      ∙ ap check_word (sym (take_at (body kind n b rs) (check_word (body kind n b rs) ∷ []) summed_words (length-body kind n b rs own))))

  pub written-sound : every_below (records_used kind n b) (λ r. leb (get_or rs (record_words kind * r) 0) 1) ≡ true → sound_block kind n b (block kind n b rs) ≡ true
  unfolding sound_block
  written-sound m = λ z. is-headed z && is-marked m z && is-emptied z && is-checked z

  -- every word of the block is a word
  block-fits : n < word_values → b < word_values → Fit rs → Fit (block kind n b rs)
  unfolding header check_word complement
  block-fits h k f = subst Fit (sym parts) (fit_append (header kind n b) (rs ++ rest) head (fit_append rs rest f (fit_append (replicate (room_words - used_words kind n b) 0) (check_word (body kind n b rs) ∷ []) (fit-zeros (room_words - used_words kind n b)) (fit-one _ (omega arith)))))
    where
      head : Fit (header kind n b)
      head =
          fit_append (b ∷ []) (records_used kind n b ∷ n ∷ kind_word kind ∷ spare) (fit-one b k)
          (fit_append (records_used kind n b ∷ []) (n ∷ kind_word kind ∷ spare) (fit-one (records_used kind n b) (omega (arith, used-few kind n b)))
          (fit_append (n ∷ []) (kind_word kind ∷ spare) (fit-one n h) (fit_append (kind_word kind ∷ []) spare (fit-one (kind_word kind) (omega (arith, kind-word-fits kind))) (fit-zeros 3))))

  -- the records are a part of the block
  own-part : part header_words (used_words kind n b) (block kind n b rs) ≡ rs
  own-part = ap (part header_words (used_words kind n b)) parts ∙ (part-middle (header kind n b) rs rest header_words 0 (used_words kind n b) (length-header kind n b) (omega (arith, own)) ∙ all)
    where
      all : part 0 (used_words kind n b) rs ≡ rs
      all = part-whole rs (used_words kind n b) own

  -- in a card: the block at its place is good, and its records are read
  module _ (front after : List ℕ) (place : length front ≡ block_bytes * b) (h : n < word_values) (k : b < word_values) (f : Fit rs) (m : every_below (records_used kind n b) (λ r. leb (get_or rs (record_words kind * r) 0) 1) ≡ true) where
    abbrev card : List ℕ
    card = front ++ (block_of kind n b rs ++ after)

    stands : block_at b card ≡ block kind n b rs
    unfolding block_at block_of
    stands =
        ap (words_at card (block_words * b)) (sym (length-block kind n b rs own))
        ∙ words_back front (block kind n b rs) after (block_words * b) (omega (arith, place)) (block-fits h k f)

    pub written_good : good kind n b card ≡ true
    unfolding good
    written_good = λ z. lt-ltb b (length card / block_bytes) there z && (ap (sound_block kind n b) stands ∙ written-sound m) z
      where
        there : b < length card / block_bytes
        there = omega (arith, place, length-append front (block_of kind n b rs ++ after), length-append (block_of kind n b rs) after, length-block-bytes kind n b rs own)

    pub written_read : records_read kind n b card ≡ rs
    unfolding block_at
    written_read =
        read-good kind n b card written_good
        ∙ (sym (words-part card (block_words * b) header_words (used_words kind n b) block_words (omega (arith, used-words-le kind n b))) ∙ (ap (part header_words (used_words kind n b)) stands ∙ own-part))
