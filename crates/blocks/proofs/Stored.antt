-- A block that is stored in four runs. Assumes nothing.
use Prim.Native.Nat.{ℕ, ◌+◌, ◌-◌, ◌*◌, ◌≤◌}
use native.Mathlib.Omega.{arith}
use mathlib.Core.Path.{◌≡◌, refl, sym, ap, ◌∙◌}
use mathlib.Core.List.{List, [], ◌∷◌, ◌++◌}
use lib.ListN.{length, take, replicate, length-append}
use lib.Seq.{sets, take_all}
use Rattle.lists.specs.Parts.{sum_of, part}
use Rattle.words.specs.Words.{word_bytes, bytes_of}
use Rattle.lists.proofs.Parts.{length-zeros, sum-append, sum_zeros, length_part}
use Rattle.words.proofs.Stores.{sets-join}
use Rattle.words.proofs.Words.{bytes-append, bytes_one, length-bytes}
use Rattle.blocks.specs.declared.Kind.{Kind}
use Rattle.blocks.specs.Format.{block_bytes, block_words, header_words, room_words, summed_words, used_words, header, body, complement, check_word, block, block_of}
use Rattle.blocks.proofs.Counts.{used-words-le}

-- the words before the records are seven
pub length-header : (kind : Kind) (n b : ℕ) → length (header kind n b) ≡ header_words
unfolding header
length-header kind n b = refl

-- all words but the last are 127
pub length-body : (kind : Kind) (n b : ℕ) (rs : List ℕ) → length rs ≡ used_words kind n b → length (body kind n b rs) ≡ summed_words
unfolding body
length-body kind n b rs e =
    length-append (header kind n b ++ rs) (replicate (room_words - used_words kind n b) 0)
    ∙ omega (arith, length-append (header kind n b) rs, length-header kind n b, length-zeros (room_words - used_words kind n b), used-words-le kind n b)

-- and all are 128
pub length-block : (kind : Kind) (n b : ℕ) (rs : List ℕ) → length rs ≡ used_words kind n b → length (block kind n b rs) ≡ block_words
unfolding block
length-block kind n b rs e = length-append (body kind n b rs) (check_word (body kind n b rs) ∷ []) ∙ omega (arith, length-body kind n b rs e)

pub length-block-bytes : (kind : Kind) (n b : ℕ) (rs : List ℕ) → length rs ≡ used_words kind n b → length (block_of kind n b rs) ≡ block_bytes
unfolding block_of
length-block-bytes kind n b rs e = length-bytes (block kind n b rs) ∙ omega (arith, length-block kind n b rs e)

-- the sum of all words but the last
sum_body : (kind : Kind) (n b : ℕ) (rs : List ℕ) → sum_of (body kind n b rs) ≡ sum_of (header kind n b) + sum_of rs
unfolding body
sum_body kind n b rs =
    sum-append (header kind n b ++ rs) (replicate (room_words - used_words kind n b) 0) ∙ omega (arith, sum-append (header kind n b) rs, sum_zeros (room_words - used_words kind n b))

-- words that are stored after words
then : (l u : List ℕ) (p q : ℕ) (xs ys : List ℕ) → u ≡ sets l (4 * p) (bytes_of xs) → q ≡ p + length xs → sets u (4 * q) (bytes_of ys) ≡ sets l (4 * p) (bytes_of (xs ++ ys))
then l u p q xs ys e f =
    ap (λ (x : List ℕ). sets x (4 * q) (bytes_of ys)) e
    ∙ (sets-join l (4 * p) (4 * q) (bytes_of xs) (bytes_of ys) (omega (arith, length-bytes xs)) ∙ ap (sets l (4 * p)) (sym (bytes-append xs ys)))

-- header, records, zeros and the last word, one after another, are the block
module _ (kind : Kind) (card h records : List ℕ) (at n b from u : ℕ) (head : h ≡ header kind n b) (count : u ≡ used_words kind n b) (enough : from + u ≤ length records) where
  abbrev rs : List ℕ
  rs = part from (used_words kind n b) records

  own : part from u records ≡ rs
  own = ap (λ (k : ℕ). part from k records) count

  length-own : length rs ≡ used_words kind n b
  length-own = length_part from (used_words kind n b) records (omega (arith, enough, count))

  first : part 0 header_words h ≡ header kind n b
  unfolding part
  first = ap (take header_words) head ∙ take_all header_words (header kind n b) (omega (arith, length-header kind n b))

  pub block-stored : (c d e f : List ℕ) (s t w : ℕ)
      → c ≡ sets card (4 * (block_words * at)) (bytes_of (part 0 header_words h)) → d ≡ sets c (4 * (block_words * at + header_words)) (bytes_of (part from u records))
      → e ≡ sets d (4 * (block_words * at + header_words + u)) (bytes_of (replicate (room_words - u) 0)) → f ≡ sets e (4 * (block_words * at + summed_words)) (word_bytes w)
      → s ≡ sum_of (part 0 header_words h) → t ≡ sum_of (part from u records) → w ≡ complement (s + t)
      → f ≡ sets card (block_bytes * at) (block_of kind n b (part from (used_words kind n b) records))
  unfolding block_of block body check_word
  block-stored c d e f s t w p q r k x y z =
      k ∙ (ap (λ (v : List ℕ). sets e (4 * (block_words * at + summed_words)) v) (sym (bytes_one w))
      ∙ (then card e (block_words * at) (block_words * at + summed_words) (body kind n b rs) (w ∷ []) zeros (omega (arith, length-body kind n b rs length-own))
      ∙ (λ i. sets card (place i) (bytes_of (body kind n b rs ++ last i ∷ [])))))
    where
      place : 4 * (block_words * at) ≡ block_bytes * at
      place = omega arith

      last : w ≡ complement (sum_of (body kind n b rs))
      last = z ∙ ap complement ((λ i. (x ∙ ap sum_of first) i + (y ∙ ap sum_of own) i) ∙ sym (sum_body kind n b rs))

      start : c ≡ sets card (4 * (block_words * at)) (bytes_of (header kind n b))
      start = p ∙ ap (λ (v : List ℕ). sets card (4 * (block_words * at)) (bytes_of v)) first

      filled : d ≡ sets card (4 * (block_words * at)) (bytes_of (header kind n b ++ rs))
      filled =
          q ∙ (ap (λ (v : List ℕ). sets c (4 * (block_words * at + header_words)) (bytes_of v)) own
          ∙ then card c (block_words * at) (block_words * at + header_words) (header kind n b) rs start (omega (arith, length-header kind n b)))

      zeros : e ≡ sets card (4 * (block_words * at)) (bytes_of (header kind n b ++ rs ++ replicate (room_words - used_words kind n b) 0))
      zeros =
          r ∙ (ap (λ (v : ℕ). sets d (4 * (block_words * at + header_words + v)) (bytes_of (replicate (room_words - v) 0))) count
          ∙ then card d (block_words * at) (block_words * at + header_words + used_words kind n b) (header kind n b ++ rs) (replicate (room_words - used_words kind n b) 0) filled
          (omega (arith, length-append (header kind n b) rs, length-header kind n b, length-own)))
