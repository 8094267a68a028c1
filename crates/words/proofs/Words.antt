-- Words and their bytes. Assumes nothing.
use Prim.Native.Nat.{ℕ, zero, suc, ◌+◌, ◌-◌, ◌*◌, ◌/◌, ◌%◌, ◌≤◌, ◌<◌}
use native.Mathlib.Nat.{add-zero, add_assoc, le_antisymm, le_of_suc-le-suc, mod-add-div, zero-lt-suc}
use native.Mathlib.Numerals.{add-one}
use native.Mathlib.Omega.{arith}
use mathlib.Core.Path.{◌≡◌, refl, sym, ap, ◌∙◌, subst}
use mathlib.Core.List.{List, [], ◌∷◌, ◌++◌, flat_map, append_assoc, map}
use Rattle.std.proofs.lemmas.List.{take_more, take_more_set, take_all, take-take, length-take-le, replicate-append-replicate}
use Rattle.std.specs.List.{sum, range_with_len}
use Rattle.std.proofs.lemmas.List.FromFn.{sum_by-map-range_with_len_more}
use lib.ListN.{length, get_or, set, take, drop, replicate, get_or-append}
use lib.Seq.{sets, get_or-append-add, get_or-take, get_or-drop, ext_get_or}
use Rattle.lists.specs.Loops.{list_of}
use Rattle.lists.proofs.Loops.{length-list_of, get_or-list_of}
use Rattle.lists.specs.Parts.{sum_of, part}
use Rattle.words.specs.Words.{word_values, word_bytes, bytes_of, word_at, words_at, Fit}
use Rattle.lists.proofs.Parts.{sum-snoc, length_part}
use Rattle.words.proofs.Stores.{sets-join}

-- a word that was read, by its number
pub word-by : (bs : List ℕ) (k m r : ℕ) → r ≡ word_at bs k → k ≡ m → r ≡ word_at bs m
word-by bs k m r e h = e ∙ ap (word_at bs) h

-- how great a word can be
word-le : (bs : List ℕ) → ((i : ℕ) → get_or bs i 0 < 256) → (i : ℕ) → word_at bs i ≤ word_values - 1
unfolding word_at
word-le bs low i = omega (arith, low (4 * i), low (4 * i + 1), low (4 * i + 2), low (4 * i + 3))

-- the bytes of two lists of words
pub bytes-append : (l m : List ℕ) → bytes_of (l ++ m) ≡ bytes_of l ++ bytes_of m
unfolding bytes_of flat_map
bytes-append [] m = refl
bytes-append (w ∷ l) m = ap (λ (x : List ℕ). word_bytes w ++ x) (bytes-append l m) ∙ sym (append_assoc (word_bytes w) (bytes_of l) (bytes_of m))

-- the bytes of one word
pub bytes_one : (w : ℕ) → bytes_of (w ∷ []) ≡ word_bytes w
unfolding bytes_of flat_map word_bytes
bytes_one w = refl

-- four bytes a word
pub length-bytes : (ws : List ℕ) → length (bytes_of ws) ≡ 4 * length ws
unfolding bytes_of flat_map word_bytes
length-bytes [] = refl
length-bytes (w ∷ ws) = omega (arith, length-bytes ws)

-- one word more of those that are stored
pub store-more : (b u : List ℕ) (to i w : ℕ) (xs : List ℕ) → u ≡ sets b (4 * to) (bytes_of xs) → length xs ≡ i → sets u (4 * (to + i)) (word_bytes w) ≡ sets b (4 * to) (bytes_of (xs ++ (w ∷ [])))
store-more b u to i w xs e l =
    ap (λ (x : List ℕ). sets x (4 * (to + i)) (word_bytes w)) e
    ∙ (sets-join b (4 * to) (4 * (to + i)) (bytes_of xs) (word_bytes w) (omega (arith, length-bytes xs))
    ∙ ap (sets b (4 * to)) (ap (λ (x : List ℕ). bytes_of xs ++ x) (sym (bytes_one w)) ∙ sym (bytes-append xs (w ∷ []))))

-- words of a list that are stored from word `to` on: one more
pub put_more : (b u xs : List ℕ) (to i w : ℕ) → i < length xs → w ≡ get_or xs i 0 → u ≡ sets b (4 * to) (bytes_of (take i xs)) → sets u (4 * (to + i)) (word_bytes w) ≡ sets b (4 * to) (bytes_of (take (i + 1) xs))
put_more b u xs to i w h r e =
    store-more b u to i w (take i xs) e (length-take-le i xs (omega arith)) ∙ ap (λ (x : List ℕ). sets b (4 * to) (bytes_of x)) (ap (λ (k : ℕ). take i xs ++ (k ∷ [])) r ∙ sym (take_more xs i 0 h))

-- and their sum
pub take-sum : (xs : List ℕ) (i s w : ℕ) → i < length xs → w ≡ get_or xs i 0 → s ≡ sum_of (take i xs) → s + w ≡ sum_of (take (i + 1) xs)
take-sum xs i s w h r e = omega (arith, sum-snoc (take i xs) (get_or xs i 0), ap sum_of (take_more xs i 0 h))

-- a part of a list that is taken whole
pub part-taken : (p n m k : ℕ) (l : List ℕ) → n ≡ k → m ≡ k → take m (take n (drop p l)) ≡ part p k l
unfolding part
part-taken p n m k l e h = take-take m n (drop p l) (omega arith) ∙ ap (λ (i : ℕ). take i (drop p l)) h

-- zeros, as bytes
pub zeros_bytes : (n : ℕ) → bytes_of (replicate n 0) ≡ replicate (4 * n) 0
unfolding bytes_of flat_map word_bytes
zeros_bytes zero = refl
zeros_bytes (suc n) =
    ap (λ (x : List ℕ). 0 ∷ 0 ∷ 0 ∷ 0 ∷ x) (zeros_bytes n) ∙ (replicate-append-replicate 4 (4 * n) 0 ∙ ap (λ (k : ℕ). replicate k 0) four-more)
  where
    four-more : 4 + 4 * n ≡ 4 * suc n
    four-more = omega arith

module _ (bs : List ℕ) (from : ℕ) where
  pub words_more : (i : ℕ) → words_at bs from i ++ (word_at bs (from + i) ∷ []) ≡ words_at bs from (i + 1)
  unfolding words_at list_of
  words_more i = sym (ap (λ (k : ℕ). list_of k (λ j. word_at bs (from + j))) (add-one i))

  pub length-words : (n : ℕ) → length (words_at bs from n) ≡ n
  unfolding words_at
  length-words n = length-list_of n (λ k. word_at bs (from + k))

  pub word_of : (n i : ℕ) → i < n → get_or (words_at bs from n) i 0 ≡ word_at bs (from + i)
  unfolding words_at
  word_of n i h = get_or-list_of n (λ k. word_at bs (from + k)) 0 i h

  -- some of the words
  pub words-part : (i n m : ℕ) → i + n ≤ m → part i n (words_at bs from m) ≡ words_at bs (from + i) n
  unfolding part words_at
  words-part i n m h =
      ext_get_or 0 (take n (drop i (words_at bs from m))) (words_at bs (from + i) n) (length_part i n (words_at bs from m) (omega (arith, length-words m)) ∙ sym (length-list_of n (λ k. word_at bs (from + i + k))))
      (λ k l. at k (omega (arith, l, length_part i n (words_at bs from m) (omega (arith, length-words m)))))
    where
      at : (k : ℕ) → k < n → get_or (take n (drop i (words_at bs from m))) k 0 ≡ get_or (list_of n (λ k. word_at bs (from + i + k))) k 0
      at k l =
          get_or-take n (drop i (words_at bs from m)) k 0 l
          ∙ (get_or-drop i (words_at bs from m) k 0 ∙ (word_of m (i + k) (omega arith) ∙ (ap (word_at bs) (sym (add_assoc from i k)) ∙ sym (get_or-list_of n (λ k. word_at bs (from + i + k)) 0 k l))))

  pub words_take : (n m : ℕ) → n ≤ m → take n (words_at bs from m) ≡ words_at bs from n
  unfolding part
  words_take n m h = words-part 0 n m (omega arith) ∙ ap (λ (k : ℕ). words_at bs k n) (add-zero from)

  -- words that are stored over those of a list, one more and all
  pub get_more : (u : List ℕ) (i : ℕ) → i < length u → take i u ≡ words_at bs from i → take (i + 1) (set u i (word_at bs (from + i))) ≡ words_at bs from (i + 1)
  get_more u i h e = take_more_set u i (word_at bs (from + i)) h ∙ (ap (λ (x : List ℕ). x ++ (word_at bs (from + i) ∷ [])) e ∙ words_more i)

  pub get_all : (u : List ℕ) (i n : ℕ) → length u ≤ i → i ≡ n → take i u ≡ words_at bs from i → u ≡ words_at bs from n
  get_all u i n h e t = sym (take_all i u h) ∙ (t ∙ ap (words_at bs from) e)

  pub sums_none : 0 ≡ sum_of (words_at bs from 0)
  unfolding words_at list_of sum_of
  sums_none = refl

  pub sums-more : (s i : ℕ) → s ≡ sum_of (words_at bs from i) → s + word_at bs (from + i) ≡ sum_of (words_at bs from (i + 1))
  sums-more s i e = omega (arith, e, sum-snoc (words_at bs from i) (word_at bs (from + i)), ap sum_of (words_more i))

  -- the sum of a chain over their numbers, and how great it can be
  pub words_sum : (n : ℕ) → sum (map (λ i. word_at bs (from + i)) (range_with_len 0 n)) ≡ sum_of (words_at bs from n)
  words_sum zero = sums_none
  words_sum (suc n) =
      ap (λ (k : ℕ). sum (map (λ i. word_at bs (from + i)) (range_with_len 0 k))) (sym (add-one n))
      ∙ (sum_by-map-range_with_len_more (λ x. x) (λ i. word_at bs (from + i)) 0 n n (omega arith) ∙ (sums-more _ n (words_sum n) ∙ ap (λ (k : ℕ). sum_of (words_at bs from k)) (add-one n)))

  pub sum-le : ((i : ℕ) → get_or bs i 0 < 256) → (n : ℕ) → sum_of (words_at bs from n) ≤ (word_values - 1) * n
  sum-le low zero = omega (arith, sums_none)
  sum-le low (suc n) = omega (arith, sum-le low n, sums-more _ n refl, ap (λ (k : ℕ). sum_of (words_at bs from k)) (add-one n), one)
    where
      one : word_at bs (from + n) ≤ word_values - 1
      one = word-le bs low (from + n)

-- the bytes of a word are four
four : (w : ℕ) → length (word_bytes w) ≡ 4
unfolding word_bytes
four w = refl

-- a word is the same where its four bytes are
pub same_word : (bs cs : List ℕ) (i j : ℕ) → ((k : ℕ) → k < 4 → get_or bs (4 * i + k) 0 ≡ get_or cs (4 * j + k) 0) → word_at bs i ≡ word_at cs j
unfolding word_at
same_word bs cs i j h = λ z. first z + 256 * h 1 (omega arith) z + 65536 * h 2 (omega arith) z + 16777216 * h 3 (omega arith) z
  where
    first : get_or bs (4 * i) 0 ≡ get_or cs (4 * j) 0
    first = ap (λ (n : ℕ). get_or bs n 0) (sym (add-zero (4 * i))) ∙ (h 0 (omega arith) ∙ ap (λ (n : ℕ). get_or cs n 0) (add-zero (4 * j)))

-- each byte of a word of a list
byte_of : (ws : List ℕ) (i k : ℕ) → i < length ws → k < 4 → get_or (bytes_of ws) (4 * i + k) 0 ≡ get_or (word_bytes (get_or ws i 0)) k 0
unfolding bytes_of flat_map
byte_of [] i k h l = absurd (omega arith)
byte_of (w ∷ ws) zero k h l = ap (λ (n : ℕ). get_or (word_bytes w ++ bytes_of ws) n 0) start ∙ get_or-append (word_bytes w) (bytes_of ws) 0 k (omega (arith, four w))
  where
    start : 4 * 0 + k ≡ k
    start = omega arith
byte_of (w ∷ ws) (suc i) k h l =
    ap (λ (n : ℕ). get_or (word_bytes w ++ bytes_of ws) n 0) past ∙ (get_or-append-add (word_bytes w) (bytes_of ws) (4 * i + k) 0 ∙ byte_of ws i k (le_of_suc-le-suc h) l)
  where
    past : 4 * suc i + k ≡ length (word_bytes w) + (4 * i + k)
    past = omega (arith, four w)

-- a word below 2^32 is its four bytes
whole : (w : ℕ) → w < word_values → w % 256 + 256 * (w / 256 % 256) + 65536 * (w / 65536 % 256) + 16777216 * (w / 16777216 % 256) ≡ w
whole w h =
    parts w (w / 256) (w / 65536) (w / 16777216 % 256) (w % 256) (w / 256 % 256) (w / 65536 % 256) (mod-add-div w 256)
    (ap (λ (q : ℕ). w / 256 % 256 + 256 * q) twice ∙ mod-add-div (w / 256) 256) (ap (λ (q : ℕ). w / 65536 % 256 + 256 * q) (last ∙ thrice) ∙ mod-add-div (w / 65536) 256)
  where
    parts : (w q u v a b c : ℕ) → a + 256 * q ≡ w → b + 256 * u ≡ q → c + 256 * v ≡ u → a + 256 * b + 65536 * c + 16777216 * v ≡ w
    parts w q u v a b c e f g = omega arith

    twice : w / 65536 ≡ w / 256 / 256
    twice = le_antisymm (omega arith) (omega arith)

    thrice : w / 16777216 ≡ w / 65536 / 256
    thrice = le_antisymm (omega arith) (omega arith)

    last : w / 16777216 % 256 ≡ w / 16777216
    last = omega arith

-- word i of the bytes of words
word_back : (ws : List ℕ) (i : ℕ) → i < length ws → get_or ws i 0 < word_values → word_at (bytes_of ws) i ≡ get_or ws i 0
unfolding word_at word_bytes
word_back ws i h k =
    (λ z. first z + 256 * byte_of ws i 1 h (omega arith) z + 65536 * byte_of ws i 2 h (omega arith) z + 16777216 * byte_of ws i 3 h (omega arith) z) ∙ whole (get_or ws i 0) k
  where
    first : get_or (bytes_of ws) (4 * i) 0 ≡ get_or ws i 0 % 256
    first = ap (λ (n : ℕ). get_or (bytes_of ws) n 0) (sym (add-zero (4 * i))) ∙ byte_of ws i 0 h (omega arith)

-- words that stand as bytes in a list, from word p on, read back
pub words_back : (front ws rest : List ℕ) (p : ℕ) → length front ≡ 4 * p → Fit ws → words_at (front ++ (bytes_of ws ++ rest)) p (length ws) ≡ ws
words_back front ws rest p e h =
    ext_get_or 0 (words_at bs p (length ws)) ws (length-words bs p (length ws)) (λ i l. at i (subst (λ (n : ℕ). i < n) (length-words bs p (length ws)) l))
  where
    bs : List ℕ
    bs = front ++ (bytes_of ws ++ rest)

    -- a byte past the front
    past : (i k : ℕ) → i < length ws → k < 4 → get_or bs (4 * (p + i) + k) 0 ≡ get_or (bytes_of ws) (4 * i + k) 0
    past i k l m =
        ap (λ (n : ℕ). get_or bs n 0) there
        ∙ (get_or-append-add front (bytes_of ws ++ rest) (4 * i + k) 0 ∙ get_or-append (bytes_of ws) rest 0 (4 * i + k) (omega (arith, length-bytes ws)))
      where
        there : 4 * (p + i) + k ≡ length front + (4 * i + k)
        there = omega arith

    at : (i : ℕ) → i < length ws → get_or (words_at bs p (length ws)) i 0 ≡ get_or ws i 0
    at i l = word_of bs p (length ws) i l ∙ (same_word bs (bytes_of ws) (p + i) i (λ k m. past i k l m) ∙ word_back ws i l (h i l))

-- words of two lists, of a part, and zeros
pub fit_append : (l m : List ℕ) → Fit l → Fit m → Fit (l ++ m)
fit_append [] m f g i h = g i h
fit_append (x ∷ l) m f g zero h = f zero (zero-lt-suc (length l))
fit_append (x ∷ l) m f g (suc i) h = fit_append l m (λ j k. f (suc j) (omega (arith, k))) g i (le_of_suc-le-suc h)

pub fit-zeros : (n : ℕ) → Fit (replicate n 0)
fit-zeros zero i h = absurd (omega arith)
fit-zeros (suc n) zero h = omega arith
fit-zeros (suc n) (suc i) h = fit-zeros n i (le_of_suc-le-suc h)

pub fit-one : (w : ℕ) → w < word_values → Fit (w ∷ [])
fit-one w k zero h = k
fit-one w k (suc i) h = absurd (omega arith)

pub fit-part : (p n : ℕ) (l : List ℕ) → p + n ≤ length l → Fit l → Fit (part p n l)
unfolding part
fit-part p n l h f i k =
    let b : i < n = omega (arith, k, length_part p n l h) in
    subst (λ (x : ℕ). x < word_values) (sym (get_or-take n (drop p l) i 0 b ∙ get_or-drop p l i 0)) (f (p + i) (omega (arith, b, h)))
