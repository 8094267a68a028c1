-- The numbers of a frame, and the words that are read of one, by their places. Assumes nothing.
use Prim.Native.Nat.{ℕ, zero, suc, ◌+◌, ◌-◌, ◌<◌}
use native.Mathlib.Omega.{arith}
use mathlib.Core.Path.{◌≡◌, refl, sym, ap, ◌∙◌}
use mathlib.Core.Bool.{Bool, true, false, cond}
use mathlib.Core.List.{List, [], ◌∷◌, ◌++◌}
use mir.Val.{bool_byte}
use lib.ListN.{get_or, get_or-append, get_or-replicate}
use Rattle.lists.specs.Loops.{list_of}
use Rattle.lists.proofs.Loops.{length-list_of, get_or-list_of}
use Rattle.packed.specs.Component.{component}
use Rattle.packed.specs.Packer.{packed_words, packed_facing, frame}
use Rattle.packed.specs.Reader.{read_words, wide, wide_nothing, absent_words, oriented, frame_words, seven_read}

-- one of six that are followed by one more
six-at : (f : ℕ → ℕ) (x i : ℕ) → i < 6 → get_or (list_of 6 f ++ x ∷ []) i 0 ≡ f i
six-at f x i l = get_or-append (list_of 6 f) (x ∷ []) 0 i (omega (arith, l, length-list_of 6 f)) ∙ get_or-list_of 6 f 0 i l

-- the numbers of a frame
pub frame_at : (slot : List ℕ) (i : ℕ) → i < 6 → get_or (frame slot) i 0 ≡ component (get_or slot (1 + i) 0)
unfolding frame
frame_at slot i l = six-at (λ i. component (get_or slot (1 + i) 0)) (packed_facing (get_or slot 9 0)) i l

pub frame-last : (slot : List ℕ) → get_or (frame slot) 6 0 ≡ packed_facing (get_or slot 9 0)
unfolding frame list_of
frame-last slot = refl

-- the words that are read of seven numbers
pub words-at : (ns : List ℕ) (i : ℕ) → i < 6 → get_or (frame_words ns) (1 + i) 0 ≡ wide (get_or ns i 0)
unfolding frame_words
words-at ns i l = ap (λ (k : ℕ). get_or (frame_words ns) k 0) next ∙ six-at (λ i. wide (get_or ns i 0)) (oriented (get_or ns 6 0)) i l
  where
    next : 1 + i ≡ suc i
    next = omega arith

pub words_last : (ns : List ℕ) → get_or (frame_words ns) 7 0 ≡ oriented (get_or ns 6 0)
unfolding frame_words list_of
words_last ns = refl

-- word i of what is read: of an absent slot; that there is a frame; the orientation; a component
absent-at : (i : ℕ) → 0 < i → i < read_words → wide_nothing ≡ get_or absent_words i 0
absent-at zero h k = absurd (omega arith)
absent-at (suc i) h k = sym (get_or-replicate packed_words i wide_nothing 0 (omega arith))

module _ (absent : Bool) (ns : List ℕ) (i : ℕ) where
  pub word-absent : absent ≡ true → i ≡ 0 → 0 ≡ get_or (seven_read absent ns) i 0
  unfolding seven_read
  word-absent e h = sym (λ z. get_or (seven_read (e z) ns) (h z) 0)

  pub word-nothing : absent ≡ true → 0 < i → i < read_words → wide_nothing ≡ get_or (seven_read absent ns) i 0
  unfolding seven_read
  word-nothing e h k = absent-at i h k ∙ sym (ap (λ (t : Bool). get_or (seven_read t ns) i 0) e)

  pub word-there : absent ≡ false → i ≡ 0 → 1 ≡ get_or (seven_read absent ns) i 0
  unfolding seven_read frame_words
  word-there e h = sym (λ z. get_or (seven_read (e z) ns) (h z) 0)

  pub word-last : (r : ℕ) → absent ≡ false → i ≡ 7 → r ≡ oriented (get_or ns 6 0) → r ≡ get_or (seven_read absent ns) i 0
  unfolding seven_read
  word-last r e h k = k ∙ (sym (words_last ns) ∙ sym (λ z. get_or (seven_read (e z) ns) (h z) 0))

  pub word-here : (r : ℕ) → absent ≡ false → 0 < i → i < 7 → r ≡ wide (get_or ns (i - 1) 0) → r ≡ get_or (seven_read absent ns) i 0
  unfolding seven_read
  word-here r e h l k = k ∙ (sym (words-at ns (i - 1) (omega arith)) ∙ sym (λ z. get_or (seven_read (e z) ns) (next z) 0))
    where
      next : i ≡ 1 + (i - 1)
      next = omega arith

-- a test as a number
pub bit-is : (b : Bool) → bool_byte b ≡ cond b 1 0
bit-is true = refl
bit-is false = refl
