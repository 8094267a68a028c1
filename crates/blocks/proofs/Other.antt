-- To a reader of one kind a block of the other is lost. Assumes nothing.
use Prim.Native.Nat.{ℕ, ◌+◌, ◌-◌, ◌*◌, ◌/◌}
use native.Mathlib.Nat.{add-zero}
use native.Mathlib.Omega.{arith}
use mathlib.Core.Path.{◌≡◌, refl, sym, ap, ◌∙◌}
use mathlib.Core.Bool.{Bool, false, ◌&&◌, and-false}
use mathlib.Core.Logic.{◌≢◌}
use mathlib.Core.List.{List, [], ◌∷◌, ◌++◌, append_assoc}
use lib.ListN.{length, get_or, replicate, length-append}
use lib.Dec.{eqb, ltb}
use borrow.Author.Tests.{ne_eqb}
use Rattle.lists.proofs.Parts.{every-fails}
use Rattle.words.specs.Words.{word_at, words_at, bytes_of}
use Rattle.words.proofs.Words.{bytes-append, length-bytes, words_back, word_of, fit-one}
use Rattle.blocks.specs.declared.Kind.{Kind}
use Rattle.blocks.specs.declared.Kind.TheVariants.{Ten, Twelve}
use Rattle.blocks.specs.Format.{block_bytes, block_words, header_words, room_words, records_used, used_words, kind_word, spare, header, body, check_word, block, block_of}
use Rattle.blocks.specs.Judged.{headed, records_marked, emptied, checked, sound_block, block_at, good}
use Rattle.blocks.proofs.Counts.{kind-word-fits}

-- two kinds have two words 3
kinds-apart : (kind other : Kind) → kind ≢ other → kind_word kind ≢ kind_word other
unfolding kind_word
kinds-apart Ten Ten d e = d refl
kinds-apart Ten Twelve d e = omega (arith, e)
kinds-apart Twelve Ten d e = omega (arith, e)
kinds-apart Twelve Twelve d e = d refl

-- a block of a kind, whatever it holds, at place p of a card
module _ (kind : Kind) (n b : ℕ) (rs front after : List ℕ) (p : ℕ) (place : length front ≡ block_bytes * p) where
  abbrev card : List ℕ
  card = front ++ (block_of kind n b rs ++ after)

  -- its words before and after word 3
  abbrev start : List ℕ
  start = b ∷ records_used kind n b ∷ n ∷ []

  abbrev rest : List ℕ
  rest = spare ++ rs ++ replicate (room_words - used_words kind n b) 0 ++ check_word (body kind n b rs) ∷ []

  parts : block kind n b rs ≡ start ++ ((kind_word kind ∷ []) ++ rest)
  unfolding block body header
  parts = refl

  bytes : block_of kind n b rs ≡ bytes_of start ++ (bytes_of (kind_word kind ∷ []) ++ bytes_of rest)
  unfolding block_of
  bytes = ap bytes_of parts ∙ (bytes-append start ((kind_word kind ∷ []) ++ rest) ∙ ap (λ (x : List ℕ). bytes_of start ++ x) (bytes-append (kind_word kind ∷ []) rest))

  whole : card ≡ (front ++ bytes_of start) ++ (bytes_of (kind_word kind ∷ []) ++ (bytes_of rest ++ after))
  whole =
      ap (λ (x : List ℕ). front ++ (x ++ after)) bytes
      ∙ (ap (λ (x : List ℕ). front ++ x) (append_assoc (bytes_of start) (bytes_of (kind_word kind ∷ []) ++ bytes_of rest) after ∙ ap (λ (x : List ℕ). bytes_of start ++ x) (append_assoc (bytes_of (kind_word kind ∷ [])) (bytes_of rest) after))
      ∙ sym (append_assoc front (bytes_of start) (bytes_of (kind_word kind ∷ []) ++ (bytes_of rest ++ after))))

  -- word 3 is the kind's
  word-3 : get_or (block_at p card) 3 0 ≡ kind_word kind
  unfolding block_at
  word-3 =
      word_of card (block_words * p) block_words 3 (omega arith)
      ∙ (ap (word_at card) (sym (add-zero (block_words * p + 3)))
      ∙ (sym (word_of card (block_words * p + 3) 1 0 (omega arith))
      ∙ (ap (λ (l : List ℕ). get_or (words_at l (block_words * p + 3) 1) 0 0) whole
      ∙ ap (λ (l : List ℕ). get_or l 0 0) (words_back (front ++ bytes_of start) (kind_word kind ∷ []) (bytes_of rest ++ after) (block_words * p + 3) long (fit-one (kind_word kind) (omega (arith, kind-word-fits kind)))))))
    where
      long : length (front ++ bytes_of start) ≡ 4 * (block_words * p + 3)
      long = length-append front (bytes_of start) ∙ omega (arith, place, length-bytes start)

  -- so the header is not what the place calls for, whatever the total is
  not-headed : (other : Kind) (m : ℕ) → kind ≢ other → headed other m p (block_at p card) ≡ false
  unfolding headed header
  not-headed other m d = every-fails header_words 3 (λ i. eqb (get_or (block_at p card) i 0) (get_or (header other m p) i 0)) (omega arith) (ne_eqb (get_or (block_at p card) 3 0) (kind_word other) (λ e. kinds-apart kind other d (sym word-3 ∙ e)))

  pub other-bad : (other : Kind) (m : ℕ) → kind ≢ other → good other m p card ≡ false
  unfolding good sound_block
  other-bad other m d =
      ap (λ (x : Bool). ltb p (length card / block_bytes) && (x && records_marked other m p (block_at p card) && emptied other m p (block_at p card) && checked (block_at p card))) (not-headed other m d)
      ∙ and-false (ltb p (length card / block_bytes))
