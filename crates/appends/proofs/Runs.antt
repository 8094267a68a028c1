-- Blocks that are appended to a cut card, in whole or in part, leave a cut of the same card. Assumes nothing.
use Prim.Native.Nat.{ℕ, ◌+◌, ◌-◌, ◌*◌, ◌/◌, ◌%◌, ◌≤◌, ◌<◌}
use native.Mathlib.Nat.{mul-le-mul_left}
use native.Mathlib.Omega.{arith}
use mathlib.Core.Path.{◌≡◌, refl, sym, ap, ◌∙◌}
use mathlib.Core.Bool.{Bool, true, false}
use mathlib.Core.Logic.{inl, inr, ◌⊎◌}
use mathlib.Core.List.{List, [], ◌++◌, append_assoc, append-nil}
use lib.ListN.{length, take, drop, take-append-drop, drop_of_length-le}
use lib.Seq.{take-take, take_at, take-append-add, take-append-le, length-take-le}
use lib.Dec.{ltb}
use borrow.Author.Tests.{ltb-true, ltb-false}
use Rattle.lists.specs.Parts.{joined, part}
use Rattle.lists.proofs.Parts.{joined_same, joined-add, part-part}
use Rattle.blocks.specs.declared.Kind.{Kind}
use Rattle.blocks.specs.Format.{block_bytes, record_words, records_held, room_words, blocks_for, used_words, records_in, block_of}
use Rattle.blocks.proofs.Counts.{words-fit, place_is, called, blocks-among}
use Rattle.cards.specs.Writer.{records_of, writable, blocks_of, card_of}
use Rattle.cards.proofs.Lengths.{length-blocks}
use Rattle.cards.proofs.Outcomes.{whole-records}
use Rattle.appends.specs.Append.{blocks_from}
use Rattle.appends.specs.File.{patched}
use Rattle.appends.proofs.Counts.{NextRecords, next-words, length_from}

-- f is the beginning of g
abbrev pub Begins : List ℕ → List ℕ → Type 0
Begins f g = (rest : List ℕ) × (f ++ rest ≡ g)

pub begins-cut : (m : ℕ) (f g : List ℕ) → Begins f g → Begins (take m f) g
begins-cut m f g b = (drop m f ++ b.0, sym (append_assoc (take m f) (drop m f) b.0) ∙ (ap (λ (x : List ℕ). x ++ b.0) (take-append-drop m f) ∙ b.1))

-- it is so many elements of it
pub begins-is : (f g : List ℕ) → Begins f g → f ≡ take (length f) g
begins-is f g b = sym (take_at f b.0 (length f) refl) ∙ ap (take (length f)) b.1

-- the first j of the bytes that follow in g, put over a beginning of g at a place in it
patch-begins : (front xs after f g : List ℕ) (at j : ℕ) → g ≡ front ++ (xs ++ after) → length front ≡ at → at ≤ length f → j ≤ length xs → Begins f g → Begins (patched f at (take j xs)) g
unfolding patched
patch-begins front xs after f g at j e l h k b = go (ltb (at + j) (length f)) refl
  where
    m : ℕ
    m = length f

    size : length (take j xs) ≡ j
    size = length-take-le j xs k

    -- up to the end of what was put
    start : take at f ++ take j xs ≡ take (at + j) g
    start =
        ap (λ (x : List ℕ). x ++ take j xs)
        (ap (take at) (begins-is f g b) ∙ (take-take at (length f) g h ∙ (ap (take at) e ∙ take_at front (xs ++ after) at l)))
        ∙ sym (ap (take (at + j)) e ∙ (ap (λ (n : ℕ). take (n + j) (front ++ (xs ++ after))) (sym l) ∙ (take-append-add front (xs ++ after) j ∙ ap (λ (x : List ℕ). front ++ x) (take-append-le j xs after k))))

    whole : take at f ++ take j xs ++ drop (at + length (take j xs)) f ≡ take (at + j) g ++ drop (at + j) f
    whole = λ z. start z ++ drop (at + size z) f

    go : (x : Bool) → ltb (at + j) (length f) ≡ x → Begins (take at f ++ take j xs ++ drop (at + length (take j xs)) f) g
    go true p =
        let q = ltb-true (at + j) (length f) p in
        let same : take (at + j) g ≡ take (at + j) f = sym (ap (take (at + j)) (begins-is f g b) ∙ take-take (at + j) (length f) g (omega (arith, q))) in
        (b.0, ap (λ (x : List ℕ). x ++ b.0) (whole ∙ (ap (λ (x : List ℕ). x ++ drop (at + j) f) same ∙ take-append-drop (at + j) f)) ∙ b.1)
    go false p =
        let none : drop (at + j) f ≡ [] = drop_of_length-le f (ltb-false (at + j) (length f) p) in
        (drop (at + j) g, ap (λ (x : List ℕ). x ++ drop (at + j) g) (whole ∙ (ap (λ (x : List ℕ). take (at + j) g ++ x) none ∙ append-nil (take (at + j) g))) ∙ take-append-drop (at + j) g)

-- the next records of l
module _ (kind : Kind) (l : List ℕ) (can : writable kind l ≡ true) (b : ℕ) (rs : List ℕ) (own : rs ≡ part (room_words * b) (length rs) l) (ok : writable kind rs ≡ true) (f : NextRecords kind (records_of kind l) b (records_of kind rs)) where
  -- they are among those of l
  among : records_held kind * b + records_of kind rs ≤ records_of kind l
  among = go f.which
    where
      go : (records_held kind * b + records_of kind rs ≡ records_of kind l) ⊎ ((records_held kind * b + records_of kind rs < records_of kind l) × (records_of kind rs % records_held kind ≡ 0)) → records_held kind * b + records_of kind rs ≤ records_of kind l
      go (inl e) = omega (arith, e)
      go (inr e) = omega (arith, e.0)

  -- each of their blocks is the block of l
  one : (i : ℕ) → i < blocks_for kind (records_of kind rs) → part (room_words * i) (used_words kind (records_of kind l) (b + i)) rs ≡ records_in kind (records_of kind l) (b + i) l
  unfolding records_in
  one i h =
      ap (part (room_words * i) (used_words kind (records_of kind l) (b + i))) own
      ∙ (part-part (room_words * b) (length rs) (room_words * i) (used_words kind (records_of kind l) (b + i)) l
      (omega (arith, next-words kind (records_of kind l) b (records_of kind rs) i f h, words-fit kind (records_of kind rs) i (called kind (records_of kind rs) i h), whole-records kind rs ok))
      (omega (arith, place_is kind b (records_of kind rs), mul-le-mul_left (record_words kind) among, whole-records kind rs ok, whole-records kind l can))
      ∙ ap (λ (p : ℕ). part p (used_words kind (records_of kind l) (b + i)) l) place)
    where
      place : room_words * b + room_words * i ≡ room_words * (b + i)
      place = omega arith

  fit-in : b + blocks_for kind (records_of kind rs) ≤ blocks_for kind (records_of kind l)
  fit-in = blocks-among kind b (records_of kind rs) (records_of kind l) among

  -- the card of l: the blocks before, theirs, and the rest
  pub card-split : (rest : List ℕ) × (card_of kind l ≡ blocks_of kind b (records_of kind l) l ++ (blocks_from kind (records_of kind l) b rs ++ rest))
  unfolding card_of blocks_of blocks_from
  card-split =
      let n = records_of kind l in
      let k = blocks_for kind (records_of kind rs) in
      let m = blocks_for kind n - (b + k) in
      let g : ℕ → List ℕ = λ i. block_of kind n i (records_in kind n i l) in
      let theirs = joined_same k (λ i. block_of kind n (b + i) (part (room_words * i) (used_words kind n (b + i)) rs)) (λ i. g (b + i)) (λ i h. ap (block_of kind n (b + i)) (one i h)) in
      let count : blocks_for kind n ≡ b + (k + m) = omega (arith, fit-in) in
      (joined m (λ i. g (b + (k + i))), ap (λ (j : ℕ). joined j g) count ∙ (joined-add b (k + m) g ∙ ap (λ (x : List ℕ). joined b g ++ x) (joined-add k m (λ i. g (b + i)) ∙ ap (λ (x : List ℕ). x ++ joined m (λ i. g (b + (k + i)))) (sym theirs))))

  -- and what appending them leaves, in whole or in part
  pub append-begins : (c : List ℕ) (j : ℕ) → b ≡ length c / block_bytes → j ≤ block_bytes * blocks_for kind (records_of kind rs) → Begins c (card_of kind l) → Begins (patched c (block_bytes * b) (take j (blocks_from kind (records_of kind l) b rs))) (card_of kind l)
  unfolding blocks_from
  append-begins c j e h s =
      patch-begins (blocks_of kind b (records_of kind l) l) (blocks_from kind (records_of kind l) b rs) card-split.0 c (card_of kind l) (block_bytes * b) j card-split.1
      (length-blocks kind b (records_of kind l) l (omega (arith, whole-records kind l can)) (omega (arith, fit-in))) (omega (arith, e)) (omega (arith, h, length_from kind (records_of kind l) b rs f (blocks_for kind (records_of kind rs)) (omega arith))) s
