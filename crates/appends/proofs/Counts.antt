-- Records that are those of the next blocks by count. Assumes nothing.
use Prim.Native.Nat.{ℕ, ◌+◌, ◌-◌, ◌*◌, ◌%◌, ◌≤◌, ◌<◌, min}
use native.Mathlib.Nat.{mul-add, mod_self}
use native.Mathlib.Omega.{arith}
use mathlib.Core.Path.{◌≡◌, refl, sym, ap, ◌∙◌}
use mathlib.Core.Bool.{Bool, true, false, ◌&&◌, ◌||◌}
use mathlib.Core.Logic.{◌⊎◌, inl, inr}
use mathlib.Core.List.{List}
use lib.ListN.{length}
use lib.Dec.{eqb, ltb}
use borrow.Author.Tests.{eqb-true, ltb-true, ltb-false, eq-eqb, ne_eqb, lt-ltb}
use Rattle.bits.proofs.Bools.{and_left, and_right}
use Rattle.lists.specs.Parts.{joined, part}
use Rattle.lists.proofs.Parts.{length-joined, length_part}
use Rattle.blocks.specs.declared.Kind.{Kind}
use Rattle.blocks.specs.Format.{block_bytes, record_words, records_held, room_words, blocks_for, records_used, used_words, block_of}
use Rattle.blocks.proofs.Counts.{held-some, words_are, words-in, words-fit, called, full-there}
use Rattle.blocks.proofs.Stored.{length-block-bytes}
use Rattle.cards.specs.Writer.{records_of}
use Rattle.appends.specs.Next.{overfull, first_torn}
use Rattle.appends.specs.Append.{are_next}

-- all that is left, or full blocks
pub record NextRecords (kind : Kind) (n b k : ℕ) : Type 0 where
  pub some : 0 < k
  pub which : (records_held kind * b + k ≡ n) ⊎ ((records_held kind * b + k < n) × (k % records_held kind ≡ 0))

pub follows : (kind : Kind) (n b k : ℕ) → are_next kind n b k ≡ true → NextRecords kind n b k
unfolding are_next
follows kind n b k h = record { some = ltb-true 0 k (and_left (ltb 0 k) rest h); which = go (eqb (records_held kind * b + k) n) refl (and_right (ltb 0 k) rest h) }
  where
    rest : Bool
    rest = eqb (records_held kind * b + k) n || ltb (records_held kind * b + k) n && eqb (k % records_held kind) 0

    go : (x : Bool) → eqb (records_held kind * b + k) n ≡ x → rest ≡ true → (records_held kind * b + k ≡ n) ⊎ ((records_held kind * b + k < n) × (k % records_held kind ≡ 0))
    go true e q = inl (eqb-true (records_held kind * b + k) n e)
    go false e q =
        let both = ap (λ (x : Bool). x || ltb (records_held kind * b + k) n && eqb (k % records_held kind) 0) (sym e) ∙ q in
        inr (ltb-true (records_held kind * b + k) n (and_left (ltb (records_held kind * b + k) n) (eqb (k % records_held kind) 0) both), eqb-true (k % records_held kind) 0 (and_right (ltb (records_held kind * b + k) n) (eqb (k % records_held kind) 0) both))

pub follow-is : (kind : Kind) (n b k : ℕ) → NextRecords kind n b k → are_next kind n b k ≡ true
unfolding are_next
follow-is kind n b k f = λ z. lt-ltb 0 k f.some z && go f.which z
  where
    go : (records_held kind * b + k ≡ n) ⊎ ((records_held kind * b + k < n) × (k % records_held kind ≡ 0)) → (eqb (records_held kind * b + k) n || ltb (records_held kind * b + k) n && eqb (k % records_held kind) 0) ≡ true
    go (inl e) = ap (λ (x : Bool). x || ltb (records_held kind * b + k) n && eqb (k % records_held kind) 0) (eq-eqb (records_held kind * b + k) n e)
    go (inr e) = λ z. ne_eqb (records_held kind * b + k) n (λ q. omega (arith, q, e.0)) z || lt-ltb (records_held kind * b + k) n e.0 z && eq-eqb (k % records_held kind) 0 e.1 z

-- the records of one block that is called for
pub one-next : (kind : Kind) (n b : ℕ) → records_held kind * b < n → NextRecords kind n b (records_used kind n b)
unfolding records_used
one-next kind n b h = record { some = omega (arith, held-some kind); which = go (ltb (records_held kind * b + records_held kind) n) refl }
  where
    go : (x : Bool) → ltb (records_held kind * b + records_held kind) n ≡ x → (records_held kind * b + min (records_held kind) (n - records_held kind * b) ≡ n) ⊎ ((records_held kind * b + min (records_held kind) (n - records_held kind * b) < n) × (min (records_held kind) (n - records_held kind * b) % records_held kind ≡ 0))
    go true e =
        let l = ltb-true (records_held kind * b + records_held kind) n e in
        let full : min (records_held kind) (n - records_held kind * b) ≡ records_held kind = omega (arith, l) in
        inr (omega (arith, l, full), ap (λ (k : ℕ). k % records_held kind) full ∙ mod_self (records_held kind))
    go false e = inl (omega (arith, h, ltb-false (records_held kind * b + records_held kind) n e))

module _ (kind : Kind) (n b k i : ℕ) (f : NextRecords kind n b k) (h : i < blocks_for kind k) where
  -- each of their blocks is called for
  pub next-called : records_held kind * (b + i) < n
  next-called = go f.which
    where
      go : (records_held kind * b + k ≡ n) ⊎ ((records_held kind * b + k < n) × (k % records_held kind ≡ 0)) → records_held kind * (b + i) < n
      go (inl e) = omega (arith, mul-add (records_held kind) b i, called kind k i h, e)
      go (inr e) = omega (arith, mul-add (records_held kind) b i, called kind k i h, e.0)

  -- and holds as many as the same block of a card of theirs alone
  pub next-used : records_used kind n (b + i) ≡ records_used kind k i
  unfolding records_used
  next-used = go f.which
    where
      go : (records_held kind * b + k ≡ n) ⊎ ((records_held kind * b + k < n) × (k % records_held kind ≡ 0)) → min (records_held kind) (n - records_held kind * (b + i)) ≡ min (records_held kind) (k - records_held kind * i)
      go (inl e) = omega (arith, mul-add (records_held kind) b i, e)
      go (inr e) = omega (arith, mul-add (records_held kind) b i, full-there kind k i e.1 h, e.0)

  pub next-words : used_words kind n (b + i) ≡ used_words kind k i
  next-words = words_are kind n (b + i) ∙ (ap (λ (u : ℕ). record_words kind * u) next-used ∙ sym (words_are kind k i))

-- the bytes of their blocks
module _ (kind : Kind) (n b : ℕ) (l : List ℕ) (f : NextRecords kind n b (records_of kind l)) where
  -- their records are all in the list
  pub next-fit : (i : ℕ) → i < blocks_for kind (records_of kind l) → room_words * i + used_words kind n (b + i) ≤ length l
  unfolding records_of
  next-fit i h =
      omega (arith, next-words kind n b (records_of kind l) i f h, words-fit kind (records_of kind l) i (called kind (records_of kind l) i h), words-in kind (length l) (records_of kind l) (omega arith))

  pub length_from : (i : ℕ) → i ≤ blocks_for kind (records_of kind l) → length (joined i (λ k. block_of kind n (b + k) (part (room_words * k) (used_words kind n (b + k)) l))) ≡ block_bytes * i
  length_from i h =
      length-joined i block_bytes (λ k. block_of kind n (b + k) (part (room_words * k) (used_words kind n (b + k)) l))
      (λ k j. length-block-bytes kind n (b + k) (part (room_words * k) (used_words kind n (b + k)) l) (length_part (room_words * k) (used_words kind n (b + k)) l (next-fit k (omega (arith, j, h)))))

-- a card that holds no more than n records call for has its torn block among theirs, or is whole
pub torn-among : (kind : Kind) (n long : ℕ) → overfull kind n long ≡ false → first_torn long ≤ blocks_for kind n
unfolding overfull first_torn
torn-among kind n long h = omega (arith, ltb-false (block_bytes * blocks_for kind n) long h)
