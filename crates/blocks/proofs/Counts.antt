-- How many records and words a block has, in either kind. Assumes nothing.
use Prim.Native.Nat.{ℕ, suc, ◌+◌, ◌-◌, ◌*◌, ◌/◌, ◌%◌, ◌≤◌, ◌<◌}
use native.Mathlib.Nat.{mul-zero, mul-suc, mul_comm, mul-add, mul_assoc, mul-le-mul_left, mul-le-mul_right, lt_of_mul-lt-mul_left, mul-div-le, mul-div_right, mul-mod_right, lt-div-mul-add, div-add-mod, mod-lt}
use native.Mathlib.Omega.{arith}
use mathlib.Core.Path.{◌≡◌, refl, sym, ap, ◌∙◌}
use Rattle.blocks.specs.declared.Kind.{Kind}
use Rattle.blocks.specs.declared.Kind.TheVariants.{Ten, Twelve}
use Rattle.blocks.specs.Format.{record_words, records_held, kind_word, room_words, blocks_for, records_used, used_words}

-- ---- by the numbers of each kind

-- a record has words, a block holds records, and full blocks take the room
pub wide-some : (kind : Kind) → 0 < record_words kind
unfolding record_words
wide-some Ten = omega arith
wide-some Twelve = omega arith

pub held-some : (kind : Kind) → 0 < records_held kind
unfolding records_held
held-some Ten = omega arith
held-some Twelve = omega arith

room-is : (kind : Kind) → record_words kind * records_held kind ≡ room_words
unfolding record_words records_held
room-is Ten = refl
room-is Twelve = refl

-- a block's count of records and its word 3 are small
held-few : (kind : Kind) → records_held kind ≤ room_words
unfolding records_held
held-few Ten = omega arith
held-few Twelve = omega arith

pub kind-word-fits : (kind : Kind) → kind_word kind ≤ 2
unfolding kind_word
kind-word-fits Ten = omega arith
kind-word-fits Twelve = omega arith

-- ---- lists of records

-- one of some records, with its words
pub one_of : (w r u : ℕ) → r < u → w * r + w ≤ w * u
one_of w r u h = omega (arith, mul-suc w r, mul-le-mul_left w h)

module _ (kind : Kind) where
  -- the words of whole records
  pub whole_words : (m : ℕ) → m % record_words kind ≡ 0 → m ≡ record_words kind * (m / record_words kind)
  whole_words m h = omega (arith, h, div-add-mod m (record_words kind))

  pub count-words : (m u : ℕ) → m ≡ record_words kind * u → (m / record_words kind ≡ u) × (m % record_words kind ≡ 0)
  count-words m u e = (ap (λ (x : ℕ). x / record_words kind) e ∙ mul-div_right u (wide-some kind), ap (λ (x : ℕ). x % record_words kind) e ∙ mul-mod_right (record_words kind) u)

  -- n records are in a list of m words, or are not
  pub words-in : (m n : ℕ) → n ≤ m / record_words kind → record_words kind * n ≤ m
  words-in m n h = omega (arith, mul-le-mul_left (record_words kind) h, mul-div-le m (record_words kind))

  pub words-out : (m n : ℕ) → m / record_words kind < n → m < record_words kind * n
  words-out m n h =
      let l : m < m / record_words kind * record_words kind + record_words kind = lt-div-mul-add (wide-some kind) in
      omega (arith, l, one_of (record_words kind) (m / record_words kind) n h, mul_comm (m / record_words kind) (record_words kind))

  -- record r of block b, in a list of records
  pub place_is : (b r : ℕ) → record_words kind * (records_held kind * b + r) ≡ room_words * b + record_words kind * r
  place_is b r =
      mul-add (record_words kind) (records_held kind * b) r
      ∙ ap (λ (x : ℕ). x + record_words kind * r) (sym (mul_assoc (record_words kind) (records_held kind) b) ∙ ap (λ (x : ℕ). x * b) (room-is kind))

  -- ---- blocks of n records: enough of them, and with one less too few

  enough : (n : ℕ) → n ≤ records_held kind * blocks_for kind n
  unfolding blocks_for
  enough n =
      let m = n + (records_held kind - 1) in
      let l : m < m / records_held kind * records_held kind + records_held kind = lt-div-mul-add (held-some kind) in
      omega (arith, l, held-some kind, mul_comm (m / records_held kind) (records_held kind))

  not_more : (n : ℕ) → records_held kind * blocks_for kind n ≤ n + (records_held kind - 1)
  unfolding blocks_for
  not_more n = mul-div-le (n + (records_held kind - 1)) (records_held kind)

  -- no blocks, no records
  no_blocks : (n : ℕ) → blocks_for kind n ≡ 0 → n ≡ 0
  no_blocks n e = omega (arith, enough n, ap (λ (x : ℕ). records_held kind * x) e, mul-zero (records_held kind))

  -- a block that is called for holds a record, and only the last may be part full
  pub called : (n b : ℕ) → b < blocks_for kind n → records_held kind * b < n
  called n b h = omega (arith, one_of (records_held kind) b (blocks_for kind n) h, not_more n, held-some kind)

  full : (n b : ℕ) → suc b < blocks_for kind n → records_used kind n b ≡ records_held kind
  unfolding records_used
  full n b h = omega (arith, one_of (records_held kind) (suc b) (blocks_for kind n) h, mul-suc (records_held kind) b, not_more n, held-some kind)

  -- the last block ends with the last record
  last_block : (n m : ℕ) → blocks_for kind n ≡ suc m → records_held kind * m + records_used kind n m ≡ n
  unfolding records_used
  last_block n m e =
      omega (arith, enough n, ap (λ (x : ℕ). records_held kind * x) e, mul-suc (records_held kind) m, called n m (omega (arith, e)))

  -- fewer blocks, by the records that they hold
  fewer : (a b : ℕ) → records_held kind * a < records_held kind * b → a < b
  fewer a b h = lt_of_mul-lt-mul_left (records_held kind) h

  -- at most as many blocks as records
  pub blocks-le : (n : ℕ) → blocks_for kind n ≤ n
  blocks-le n =
      omega (arith, fewer (blocks_for kind n) (suc n) (omega (arith, not_more n, mul-suc (records_held kind) n, mul-le-mul_right n (held-some kind), held-some kind)))

  -- some records that one block holds
  pub one_block : (n : ℕ) → 1 ≤ n → n ≤ records_held kind → blocks_for kind n ≡ 1
  one_block n h k =
      omega (arith, fewer 0 (blocks_for kind n) (omega (arith, enough n, mul-zero (records_held kind))), fewer (blocks_for kind n) 2 (omega (arith, not_more n, held-some kind)))

  -- the blocks of some records after b others are among those of all
  pub blocks-among : (b k n : ℕ) → records_held kind * b + k ≤ n → b + blocks_for kind k ≤ blocks_for kind n
  blocks-among b k n h =
      omega (arith, fewer (b + blocks_for kind k) (suc (blocks_for kind n)) (omega (arith, enough n, not_more k, mul-add (records_held kind) b (blocks_for kind k), mul-suc (records_held kind) (blocks_for kind n), held-some kind)))

  -- each block of full blocks is full
  pub full-there : (k i : ℕ) → k % records_held kind ≡ 0 → i < blocks_for kind k → records_held kind * i + records_held kind ≤ k
  full-there k i e h =
      omega (arith, e, div-add-mod k (records_held kind), one_of (records_held kind) i (k / records_held kind) (fewer i (k / records_held kind) (omega (arith, e, div-add-mod k (records_held kind), called k i h))))

  -- a block that is not called for holds none
  pub used-none : (n b : ℕ) → blocks_for kind n ≤ b → records_used kind n b ≡ 0
  unfolding records_used
  used-none n b h = omega (arith, enough n, mul-le-mul_left (records_held kind) h)

  -- the number of a block that is called for
  pub block-below : (n b : ℕ) → records_held kind * b < n → b < n
  block-below n b h = omega (arith, h, mul-le-mul_right b (held-some kind))

  -- record k by its block, which is called for, and its place there
  pub block-of : (n k : ℕ) → k < n → k / records_held kind < blocks_for kind n
  block-of n k h = fewer (k / records_held kind) (blocks_for kind n) (omega (arith, mul-div-le k (records_held kind), enough n, h))

  pub number_is : (k : ℕ) → k ≡ records_held kind * (k / records_held kind) + k % records_held kind
  number_is k = sym (div-add-mod k (records_held kind))

  pub place_of : (n k : ℕ) → k < n → k % records_held kind < records_used kind n (k / records_held kind)
  unfolding records_used
  place_of n k h = omega (arith, h, number_is k, mod-lt k (held-some kind))

  -- ---- one block

  -- at most twelve, or ten
  pub used_le : (n b : ℕ) → records_used kind n b ≤ records_held kind
  unfolding records_used
  used_le n b = omega arith

  pub used-few : (n b : ℕ) → records_used kind n b ≤ room_words
  used-few n b = omega (arith, used_le n b, held-few kind)

  -- 'records used (1 to 12)'
  pub used-one : (n b : ℕ) → records_held kind * b < n → 1 ≤ records_used kind n b
  unfolding records_used
  used-one n b h = omega (arith, held-some kind)

  -- the records of the blocks before b and of b itself are among the n
  pub used-fits : (n b : ℕ) → records_held kind * b < n → records_held kind * b + records_used kind n b ≤ n
  unfolding records_used
  used-fits n b h = omega arith

  pub words_are : (n b : ℕ) → used_words kind n b ≡ record_words kind * records_used kind n b
  unfolding used_words
  words_are n b = refl

  -- the words of the records are at most 120
  pub used-words-le : (n b : ℕ) → used_words kind n b ≤ room_words
  used-words-le n b = omega (arith, words_are n b, mul-le-mul_left (record_words kind) (used_le n b), room-is kind)

  -- those of the blocks before b and of b itself are among those of the n
  pub words-fit : (n b : ℕ) → records_held kind * b < n → room_words * b + used_words kind n b ≤ record_words kind * n
  words-fit n b h = omega (arith, words_are n b, place_is b (records_used kind n b), mul-le-mul_left (record_words kind) (used-fits n b h))

  -- the words of a block that is full, and of the last; and where there is none
  pub full-words : (n b : ℕ) → suc b < blocks_for kind n → used_words kind n b ≡ room_words
  full-words n b h = words_are n b ∙ (ap (λ (u : ℕ). record_words kind * u) (full n b h) ∙ room-is kind)

  pub last-words : (n m : ℕ) → blocks_for kind n ≡ suc m → room_words * m + used_words kind n m ≡ record_words kind * n
  last-words n m e = omega (arith, words_are n m, place_is m (records_used kind n m), ap (λ (x : ℕ). record_words kind * x) (last_block n m e))

  pub no_words : (n : ℕ) → blocks_for kind n ≡ 0 → record_words kind * n ≡ 0
  no_words n e = ap (λ (x : ℕ). record_words kind * x) (no_blocks n e) ∙ mul-zero (record_words kind)
