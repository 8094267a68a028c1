-- What was written reads back the same. Assumes nothing.
use Prim.Native.Nat.{ℕ, zero, suc, ◌+◌, ◌*◌, ◌<◌}
use native.Mathlib.Omega.{arith}
use mathlib.Core.Path.{◌≡◌, refl, sym, ap, ◌∙◌}
use mathlib.Core.Bool.{true}
use mathlib.Core.List.{List, [], ◌∷◌, ◌++◌}
use lib.ListN.{length, get_or, take, drop}
use lib.Seq.{take_all, get_or-take, get_or-drop}
use lib.Dec.{leb}
use Rattle.lists.specs.Parts.{every_below, joined, part}
use Rattle.words.specs.Words.{Fit}
use Rattle.lists.proofs.Parts.{every-all, every-at, joined_same, joined-split, part-follows}
use Rattle.words.proofs.Words.{fit-part}
use Rattle.blocks.specs.declared.Kind.{Kind}
use Rattle.blocks.specs.Format.{block_bytes, record_words, records_held, room_words, blocks_for, records_used, used_words, records_in, block_of}
use Rattle.blocks.specs.Judged.{records_read}
use Rattle.blocks.proofs.Counts.{words_are, used-fits, called, wide-some, one_of, place_is, block-below, words-fit, full-words, last-words, no_words}
use Rattle.blocks.proofs.Written.{written_read}
use Rattle.cards.specs.Writer.{records_of, writable, blocks_of, card_of}
use Rattle.cards.specs.Reader.{blocks_there, bytes_past, readings}
use Rattle.cards.proofs.Lengths.{length-own, length-blocks}
use Rattle.cards.proofs.Outcomes.{whole-records, few-records, marked-records}

-- the records of the blocks before b, joined
before : (kind : Kind) (n b : ℕ) (l : List ℕ) → b < blocks_for kind n → joined b (λ k. records_in kind n k l) ≡ take (room_words * b) l
unfolding joined records_in
before kind n zero l h = refl
before kind n (suc b) l h =
    ap (λ (x : List ℕ). x ++ records_in kind n b l) (before kind n b l (omega arith))
    ∙ (ap (λ (k : ℕ). take (room_words * b) l ++ part (room_words * b) k l) (full-words kind n b h) ∙ (part-follows (room_words * b) room_words l ∙ ap (λ (k : ℕ). take k l) place))
  where
    place : room_words * b + room_words ≡ room_words * suc b
    place = omega arith

-- and of all
joined-records : (kind : Kind) (n k : ℕ) (l : List ℕ) → blocks_for kind n ≡ k → length l ≡ record_words kind * n → joined k (λ b. records_in kind n b l) ≡ l
unfolding joined records_in
joined-records kind n zero l e h = sym (nothing l (omega (arith, h, no_words kind n e)))
  where
    nothing : (l : List ℕ) → length l ≡ 0 → l ≡ []
    nothing [] h = refl
    nothing (x ∷ l) h = absurd (omega arith)
joined-records kind n (suc m) l e h =
    ap (λ (x : List ℕ). x ++ records_in kind n m l) (before kind n m l (omega (arith, e)))
    ∙ (part-follows (room_words * m) (used_words kind n m) l ∙ take_all (room_words * m + used_words kind n m) l (omega (arith, h, last-words kind n m e)))

module _ (kind : Kind) (l : List ℕ) (can : writable kind l ≡ true) where
  -- the words 0 of a block's records
  pub marks : (b : ℕ) → records_held kind * b < records_of kind l → every_below (records_used kind (records_of kind l) b) (λ r. leb (get_or (records_in kind (records_of kind l) b l) (record_words kind * r) 0) 1) ≡ true
  unfolding records_in part
  marks b h = every-all (records_used kind n b) (λ r. leb (get_or (records_in kind n b l) (record_words kind * r) 0) 1) (λ r k. ap (λ (w : ℕ). leb w 1) (word r k) ∙ every-at n (records_held kind * b + r) (λ r. leb (get_or l (record_words kind * r) 0) 1) (marked-records kind l can) (omega (arith, k, used-fits kind n b h)))
    where
      n : ℕ
      n = records_of kind l

      word : (r : ℕ) → r < records_used kind (records_of kind l) b → get_or (take (used_words kind (records_of kind l) b) (drop (room_words * b) l)) (record_words kind * r) 0 ≡ get_or l (record_words kind * (records_held kind * b + r)) 0
      word r k =
          get_or-take (used_words kind (records_of kind l) b) (drop (room_words * b) l) (record_words kind * r) 0 (omega (arith, one_of (record_words kind) r (records_used kind (records_of kind l) b) k, wide-some kind, words_are kind (records_of kind l) b))
          ∙ (get_or-drop (room_words * b) l (record_words kind * r) 0 ∙ ap (λ (j : ℕ). get_or l j 0) (sym (place_is kind b r)))

  pub length-card : length (card_of kind l) ≡ block_bytes * blocks_for kind (records_of kind l)
  unfolding card_of
  length-card = length-blocks kind (blocks_for kind (records_of kind l)) (records_of kind l) l (omega (arith, whole-records kind l can)) (omega arith)

module _ (kind : Kind) (l : List ℕ) (can : writable kind l ≡ true) (fit : Fit l) where
  -- one block
  pub block_back : (b : ℕ) → b < blocks_for kind (records_of kind l) → records_read kind (records_of kind l) b (card_of kind l) ≡ records_in kind (records_of kind l) b l
  unfolding card_of blocks_of records_in
  block_back b h =
      let s = joined-split (blocks_for kind n) b (λ k. block_of kind n k (records_in kind n k l)) h in
      let c = called kind n b h in
      let w = whole-records kind l can in
      ap (records_read kind n b) s.1
      ∙ written_read kind n b (records_in kind n b l) (length-own kind n b l (omega (arith, w)) c) (blocks_of kind b n l) s.0 (length-blocks kind b n l (omega (arith, w)) (omega (arith, h))) (few-records kind l can) (omega (arith, block-below kind n b c, few-records kind l can))
      (fit-part (room_words * b) (used_words kind n b) l (omega (arith, w, words-fit kind n b c)) fit) (marks kind l can b c)
    where
      n : ℕ
      n = records_of kind l

  -- all of them
  pub all_back : readings kind (records_of kind l) (card_of kind l) ≡ l
  unfolding readings
  all_back =
      joined_same (blocks_for kind (records_of kind l)) (λ b. records_read kind (records_of kind l) b (card_of kind l)) (λ b. records_in kind (records_of kind l) b l) block_back
      ∙ joined-records kind (records_of kind l) (blocks_for kind (records_of kind l)) l refl (whole-records kind l can)

  pub none-past : bytes_past kind (records_of kind l) (card_of kind l) ≡ 0
  unfolding bytes_past blocks_there
  none-past = omega (arith, length-card kind l can)
