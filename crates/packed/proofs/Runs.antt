-- Slots that are written one after another, and the first of them that fails a test. Assumes nothing.
use Prim.Native.Nat.{ℕ, zero, suc, ◌+◌, ◌-◌, ◌*◌, ◌≤◌, ◌<◌}
use native.Mathlib.Nat.{le_antisymm, eq-or-lt_of_le, zero-add, le_of_suc-le-suc, mul-le-mul_left}
use native.Mathlib.Numerals.{add-one}
use native.Mathlib.Omega.{arith}
use mathlib.Core.Path.{◌≡◌, refl, sym, ap, ◌∙◌}
use mathlib.Core.Bool.{Bool, true, false, cond, ◌&&◌}
use mathlib.Core.Logic.{⊎_elim}
use mathlib.Core.List.{List, [], ◌∷◌, ◌++◌, append_assoc, append-nil}
use Rattle.std.specs.List.{fold, range_with_len, AllWithin, HoldsAt}
use Rattle.std.specs.Option.{MatchOption}
use Rattle.std.proofs.Common.{Option, None, Some, subst}
use Rattle.std.proofs.lemmas.List.FromFn.{length-range_with_len, get_or-range_with_len}
use lib.ListN.{length, get_or, set, take, drop, length-set, length-drop, length-append, get_or-append}
use lib.Dec.{eqb}
use lib.Seq.{sets, take_all, get_or_at, drop_at, drop-append-le, take-append-le, length-sets}
use borrow.Author.Tests.{eq-eqb, ne_eqb, eqb-true, eqb-false}
use borrow.Rule.Slice.PartMut.{put_mid}
use Rattle.lists.specs.Loops.{list_of}
use Rattle.lists.specs.Parts.{joined, part, every_below}
use Rattle.lists.proofs.Parts.{length-joined, length_part, every-same}
use Rattle.lists.proofs.Written.{part-written, written-more, written-all}
use Rattle.words.proofs.Stores.{joined-none, joined-stored, sets-front}
use Rattle.packed.specs.Packer.{packed_words, has_frame, frame, frame_packed, packed_slot}
use Rattle.packed.specs.Reader.{read_words, all_nothing, frame_words, seven_read, read_seven, first_failing, found_failing, FirstFailing}

-- a packed slot is seven numbers
pub length-packed : (slot : List ℕ) → length (packed_slot slot) ≡ packed_words
unfolding packed_slot frame_packed frame list_of
length-packed slot = go (has_frame slot)
  where
    go : (t : Bool) → length (frame_packed t slot) ≡ packed_words
    go true = refl
    go false = refl

-- and what is read of it is eight words
pub length-read : (ns : List ℕ) → length (read_seven ns) ≡ read_words
unfolding read_seven seven_read frame_words list_of
length-read ns = go (all_nothing ns)
  where
    go : (t : Bool) → length (seven_read t ns) ≡ read_words
    go true = refl
    go false = refl

-- lists of k numbers each, stored one after another: i of n are stored
pub record Run (k n : ℕ) (f : ℕ → List ℕ) (l u : List ℕ) (i : ℕ) : Type 0 where
  pub some : i ≤ n
  pub is : u ≡ sets l 0 (joined i f)
  pub long : length u ≡ length l

-- none yet, one more, and all
module _ (k n : ℕ) (f : ℕ → List ℕ) (each : (i : ℕ) → length (f i) ≡ k) (l : List ℕ) where
  pub run_none : Run k n f l l 0
  run_none = record { some = omega arith; is = joined-none l 0 f; long = refl }

  pub run_more : (u v : List ℕ) (i : ℕ) → i < n → Run k n f l u i → v ≡ sets u (k * i) (f i) → length v ≡ length u → Run k n f l v (i + 1)
  run_more u v i h R e s =
      record { some = omega arith; is = e ∙ joined-stored l u 0 (k * i) f i (omega (arith, length-joined i k f (λ j _. each j))) R.is; long = s ∙ R.long }

  -- one more, stored where it is to stand
  pub stored_more : (u v ys : List ℕ) (i : ℕ) → i < n → Run k n f l u i → v ≡ sets u (k * i) ys → ys ≡ f i → Run k n f l v (i + 1)
  stored_more u v ys i h R e s = run_more u v i h R (e ∙ ap (sets u (k * i)) s) (ap length e ∙ length-sets u (k * i) ys)

  pub run-all : (u : List ℕ) (i : ℕ) → n ≤ i → k * n ≤ length l → Run k n f l u i → u ≡ joined n f ++ drop (k * n) l
  run-all u i g h R =
      R.is ∙ (ap (λ (j : ℕ). sets l 0 (joined j f)) (le_antisymm R.some g) ∙ sets-front l (joined n f) (k * n) (length-joined n k f (λ j _. each j)) h)

-- a test of all of a list, and of one more
every-last : (p : ℕ → Bool) (ys : List ℕ) (y : ℕ) → (every_below (length ys) (λ k. p (get_or ys k 0)) && p y) ≡ every_below (length (ys ++ (y ∷ []))) (λ k. p (get_or (ys ++ (y ∷ [])) k 0))
unfolding every_below
every-last p ys y =
    (λ i. every-same (length ys) (λ k. p (get_or ys k 0)) (λ k. p (get_or (ys ++ (y ∷ [])) k 0)) (λ k h. ap p (sym (get_or-append ys (y ∷ []) 0 k h))) i && p (sym (get_or_at ys y [] 0 (length ys) refl) i))
    ∙ ap (λ (n : ℕ). every_below n (λ k. p (get_or (ys ++ (y ∷ [])) k 0))) (sym (length-append ys (y ∷ []) ∙ add-one (length ys)))

-- so of all of a list, one after another
fold-from : (p : ℕ → Bool) (ys zs : List ℕ) → fold (λ b n. b && p n) (every_below (length ys) (λ k. p (get_or ys k 0))) zs ≡ every_below (length (ys ++ zs)) (λ k. p (get_or (ys ++ zs) k 0))
fold-from p ys [] = ap (λ (l : List ℕ). every_below (length l) (λ k. p (get_or l k 0))) (sym (append-nil ys))
fold-from p ys (z ∷ zs) =
    ap (λ (b : Bool). fold (λ b n. b && p n) b zs) (every-last p ys z)
    ∙ (fold-from p (ys ++ (z ∷ [])) zs ∙ ap (λ (l : List ℕ). every_below (length l) (λ k. p (get_or l k 0))) (append_assoc ys (z ∷ []) zs))

pub fold-every : (p : ℕ → Bool) (l : List ℕ) (n : ℕ) (r : Bool) → length l ≡ n → r ≡ fold (λ b n. b && p n) true l → r ≡ every_below n (λ k. p (get_or l k 0))
unfolding every_below
fold-every p l n r s e = e ∙ (fold-from p [] l ∙ ap (λ (n : ℕ). every_below n (λ k. p (get_or l k 0))) s)

-- the first i entries of xs are written to us, which is as long
abbrev pub WrittenTo : List ℕ → List ℕ → ℕ → Type 0
WrittenTo us xs i = (i ≤ length xs) × (take i us ≡ take i (drop 0 xs)) × (length us ≡ length xs)

module _ (us xs : List ℕ) where
  -- none yet, one more, and all, where us is a part of a list
  pub written_none : length us ≡ length xs → WrittenTo us xs 0
  written_none h = (omega arith, refl, h)

  pub written_next : (i x : ℕ) → WrittenTo us xs i → i < length xs → x ≡ get_or xs i 0 → WrittenTo (set us i x) xs (i + 1)
  written_next i x w h e =
      (omega arith, written-more xs us 0 i w.1 x 0 (omega (arith, w.2)) (omega arith) (e ∙ ap (λ k. get_or xs k 0) (sym (zero-add i))), length-set us i x ∙ w.2)

  pub written_whole : (l : List ℕ) (p k i : ℕ) → WrittenTo us xs i → length xs ≤ i → k ≡ length xs → p + k ≤ length l → put_mid p k l us ≡ sets l p xs
  written_whole l p k i w h e f =
      part-written l us xs p k (written-all xs us 0 i w.1 (length xs) (le_antisymm w.0 h) w.2 ∙ take_all (length xs) xs (omega arith)) (sym e) f

-- k numbers cut out of a list where the lists before them are of k numbers each
module _ (k s : ℕ) (l : List ℕ) where
  pub cut-is : take (k * s + k - k * s) (drop (k * s) l) ≡ part (k * s) k l
  unfolding part
  cut-is = ap (λ (n : ℕ). take n (drop (k * s) l)) width
    where
      width : k * s + k - k * s ≡ k
      width = omega arith

  pub cut-long : k * s + k ≤ length l → length (take (k * s + k - k * s) (drop (k * s) l)) ≡ k
  cut-long h = ap length cut-is ∙ length_part (k * s) k l h

-- the first that fails: none of none
pub failing-none : (p : ℕ → Bool) → first_failing 0 p ≡ 0
unfolding first_failing
failing-none p = refl

-- none of one more
failing-next : (n : ℕ) (p : ℕ → Bool) → first_failing n p ≡ n → p n ≡ true → first_failing (suc n) p ≡ suc n
unfolding first_failing
failing-next n p e h = simp (eq-eqb (first_failing n p) n e, h)

pub failing-more : (n : ℕ) (p : ℕ → Bool) → first_failing n p ≡ n → p n ≡ true → first_failing (n + 1) p ≡ n + 1
failing-more n p e h = ap (λ (k : ℕ). first_failing k p) (add-one n) ∙ (failing-next n p e h ∙ sym (add-one n))

-- the last of those looked at
failing-last : (n : ℕ) (p : ℕ → Bool) → first_failing n p ≡ n → p n ≡ false → first_failing (suc n) p ≡ n
unfolding first_failing
failing-last n p e h = simp (e, eq-eqb n n refl, h)

-- and so of all that come after
failing-before : (n i : ℕ) (p : ℕ → Bool) → first_failing n p ≡ i → i < n → first_failing (suc n) p ≡ i
unfolding first_failing
failing-before n i p s k = simp (ne_eqb (first_failing n p) n (λ r. omega (arith, s, r, k))) s

pub failing-here : (n i : ℕ) (p : ℕ → Bool) → i < n → first_failing i p ≡ i → p i ≡ false → first_failing n p ≡ i
unfolding first_failing
failing-here zero i p l e h = absurd (omega arith)
failing-here (suc n) i p l e h =
    ⊎_elim (λ s. ap (λ (k : ℕ). first_failing (suc k) p) (sym s) ∙ failing-last i p e h) (λ k. failing-before n i p (failing-here n i p k e h) k) (eq-or-lt_of_le (le_of_suc-le-suc l))

-- none of any, where all pass
pub failing-all : (n : ℕ) (p : ℕ → Bool) → ((i : ℕ) → i < n → p i ≡ true) → first_failing n p ≡ n
unfolding first_failing
failing-all zero p h = refl
failing-all (suc n) p h = λ z. cond (eq-eqb (first_failing n p) n (failing-all n p (λ i l. h i (omega arith))) z && h n (omega arith) z) (suc n) (first_failing n p)

-- what makes it the first that fails
pub failing-first : (n : ℕ) (p : ℕ → Bool) → FirstFailing n p (first_failing n p)
unfolding first_failing
failing-first zero p = record { at_most = omega arith; before = λ i l. absurd (omega arith); here = λ l. absurd (omega arith) }
failing-first (suc n) p = go (eqb k n) (p n) refl refl (failing-first n p)
  where
    k : ℕ
    k = first_failing n p

    go : (t u : Bool) → eqb k n ≡ t → p n ≡ u → FirstFailing n p k → FirstFailing (suc n) p (cond (t && u) (suc n) k)
    go true true e h F =
        record {
          at_most = omega arith;
          before = λ i l. ⊎_elim (λ s. ap p s ∙ h) (λ m. F.before i (omega (arith, m, eqb-true k n e))) (eq-or-lt_of_le (le_of_suc-le-suc l));
          here = λ l. absurd (omega arith);
        }
    go true false e h F = record { at_most = omega (arith, F.at_most); before = F.before; here = λ l. ap p (eqb-true k n e) ∙ h }
    go false u e h F = record { at_most = omega (arith, F.at_most); before = F.before; here = λ l. F.here (omega (arith, F.at_most, eqb-false k n e)) }

-- the numbers below n
number : (n i : ℕ) → i < n → get_or (range_with_len 0 n) i 0 ≡ i
number n i h = get_or-range_with_len 0 n i 0 h ∙ zero-add i

-- what a search for the first that fails answers
pub found-is : (n : ℕ) (p : ℕ → Bool) (r : Option ℕ) → MatchOption r (AllWithin (λ i. p i ≡ true) (range_with_len 0 n) 0 (length (range_with_len 0 n))) (λ i. (i < length (range_with_len 0 n)) × HoldsAt (λ k. p k ≡ false) (range_with_len 0 n) i × AllWithin (λ k. p k ≡ true) (range_with_len 0 n) 0 i) → r ≡ found_failing n p
unfolding found_failing
found-is n p None h = sym (ap (λ (b : Bool). cond b None (Some (first_failing n p))) (eq-eqb (first_failing n p) n (failing-all n p (λ i l. subst (λ (k : ℕ). p k ≡ true) (number n i l) (h i 0 (omega arith) (omega (arith, length-range_with_len 0 n)))))))
found-is n p (Some i) (l, here, before) =
    sym (ap (λ (b : Bool). cond b None (Some (first_failing n p))) (ne_eqb (first_failing n p) n (λ q. omega (arith, e, q, j))) ∙ ap (λ (k : ℕ). Some k) e)
  where
    j : i < n
    j = omega (arith, l, length-range_with_len 0 n)

    e : first_failing n p ≡ i
    e = failing-here n i p j (failing-all i p (λ k m. subst (λ (x : ℕ). p x ≡ true) (number n k (omega (arith, m, j))) (before k 0 (omega arith) m))) (subst (λ (x : ℕ). p x ≡ false) (number n i j) (here 0))

-- and what it says of the first that fails
pub found-some : (n : ℕ) (p : ℕ → Bool) (k : ℕ) → Some k ≡ found_failing n p → (k ≡ first_failing n p) × (first_failing n p ≡ n → ⊥)
unfolding found_failing
found-some n p k e = go (eqb (first_failing n p) n) refl e
  where
    go : (b : Bool) → eqb (first_failing n p) n ≡ b → Some k ≡ cond b None (Some (first_failing n p)) → (k ≡ first_failing n p) × (first_failing n p ≡ n → ⊥)
    go true h d = cc
    go false h d = ((cc), eqb-false (first_failing n p) n h)

pub found-none : (n : ℕ) (p : ℕ → Bool) → None ≡ found_failing n p → first_failing n p ≡ n
unfolding found_failing
found-none n p e = go (eqb (first_failing n p) n) refl e
  where
    go : (b : Bool) → eqb (first_failing n p) n ≡ b → None ≡ cond b None (Some (first_failing n p)) → first_failing n p ≡ n
    go true h d = eqb-true (first_failing n p) n h
    go false h d = cc

-- one of the lists that stand one after another
pub part-joined : (n k : ℕ) (f : ℕ → List ℕ) → ((i : ℕ) → length (f i) ≡ k) → (i : ℕ) → i < n → part (k * i) k (joined n f) ≡ f i
unfolding joined part
part-joined zero k f each i h = absurd (omega arith)
part-joined (suc n) k f each i h = ⊎_elim (λ e. at_last e) (λ l. before l (part-joined n k f each i l)) (eq-or-lt_of_le (le_of_suc-le-suc h))
  where
    long : length (joined n f) ≡ k * n
    long = length-joined n k f (λ i _. each i)

    at_last : i ≡ n → take k (drop (k * i) (joined n f ++ f n)) ≡ f i
    at_last e =
        ap (take k) (drop_at (joined n f) (f n) (k * i) (long ∙ ap (λ (j : ℕ). k * j) (sym e))) ∙ (take_all k (f n) (omega (arith, each n)) ∙ ap f (sym e))

    before : i < n → take k (drop (k * i) (joined n f)) ≡ f i → take k (drop (k * i) (joined n f ++ f n)) ≡ f i
    before l e =
        ap (take k) (drop-append-le (k * i) (joined n f) (f n) (omega (arith, long, room l))) ∙ (take-append-le k (drop (k * i) (joined n f)) (f n) (omega (arith, length-drop (k * i) (joined n f), long, room l)) ∙ e)
      where
        room : i < n → k * suc i ≤ k * n
        room l = mul-le-mul_left k l
