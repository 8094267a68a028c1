-- What is packed of a slot, and what is read of that. Assumes nothing.
use Prim.Native.Nat.{ℕ, ◌+◌, ◌≤◌, ◌<◌}
use native.Mathlib.Omega.{arith}
use mathlib.Core.Path.{◌≡◌, refl, sym, ap, ◌∙◌, subst}
use mathlib.Core.Bool.{Bool, true, false, cond, not, ◌&&◌, ◌||◌, and-false, or-true, true≢false}
use mathlib.Core.Logic.{◌⊎◌, inl, inr}
use mathlib.Core.List.{List}
use lib.ListN.{get_or, replicate}
use lib.Dec.{eqb, leb}
use borrow.Author.Tests.{eqb-true, eqb-false, eq-eqb, ne_eqb, leb-true, leb-false, le-leb, lt-leb}
use Rattle.lists.specs.Loops.{list_of}
use Rattle.lists.specs.Parts.{every_below}
use Rattle.lists.proofs.Parts.{every-at, every-fails, every-all}
use Rattle.packed.specs.Component.{nothing, short_minus_one, within}
use Rattle.packed.specs.Packer.{packed_words, has_frame, packed_facing, frame, frame_packed, packed_slot}
use Rattle.packed.specs.Reader.{all_nothing, framed, is_packed, wide, absent_words, oriented, frame_words, seven_read, read_seven}
use Rattle.promises.specs.Packed.{Lacks, unmarked, turned, beyond, Holds, ReadsBack}
use Rattle.packed.proofs.Range.{component-not-nothing}
use Rattle.packed.proofs.Places.{frame_at, frame-last, words-at, words_last}
use Rattle.worth.proofs.Some.{every-failing}

-- a slot that lacks nothing
record Complete (slot : List ℕ) : Type 0 where
  first : get_or slot 0 0 ≡ 1
  last : get_or slot 9 0 ≤ 1
  six : (i : ℕ) → i < 6 → within (get_or slot (1 + i) 0) ≡ true

-- the test of component i of a slot
abbrev inside : List ℕ → ℕ → Bool
inside slot i = within (get_or slot (1 + i) 0)

-- a slot lacks something or nothing
decided : (slot : List ℕ) → Lacks slot ⊎ Complete slot
unfolding within
decided slot = go (eqb (get_or slot 0 0) 1) (leb (get_or slot 9 0) 1) (every_below 6 (inside slot)) refl refl refl
  where
    go : (a b c : Bool) → eqb (get_or slot 0 0) 1 ≡ a → leb (get_or slot 9 0) 1 ≡ b → every_below 6 (inside slot) ≡ c → Lacks slot ⊎ Complete slot
    go false b c x y z = inl (unmarked (eqb-false _ _ x))
    go true false c x y z = inl (turned (leb-false _ _ y))
    go true true false x y z = every-failing 6 (inside slot) z (λ i l h. inl (beyond i l (leb-false _ _ h)))
    go true true true x y z = inr (record { first = eqb-true _ _ x; last = leb-true _ _ y; six = λ i l. every-at 6 i (inside slot) z l })

-- and so it has no frame to pack, or one
lacks-present : (slot : List ℕ) → Lacks slot → has_frame slot ≡ false
unfolding has_frame within
lacks-present slot (unmarked h) = ap (λ (t : Bool). t && leb (get_or slot 9 0) 1 && every_below 6 (inside slot)) (ne_eqb _ _ h)
lacks-present slot (turned h) =
    ap (λ (t : Bool). eqb (get_or slot 0 0) 1 && t && every_below 6 (inside slot)) (lt-leb _ _ h) ∙ ap (λ (t : Bool). t && every_below 6 (inside slot)) (and-false (eqb (get_or slot 0 0) 1))
lacks-present slot (beyond i l h) =
    ap (λ (t : Bool). eqb (get_or slot 0 0) 1 && leb (get_or slot 9 0) 1 && t) (every-fails 6 i (inside slot) l (lt-leb _ _ h)) ∙ and-false (eqb (get_or slot 0 0) 1 && leb (get_or slot 9 0) 1)

complete-present : (slot : List ℕ) → Complete slot → has_frame slot ≡ true
unfolding has_frame
complete-present slot C = λ z. eq-eqb _ _ C.first z && le-leb _ _ C.last z && every-all 6 (inside slot) C.six z

complete-lacks : (slot : List ℕ) → Complete slot → Lacks slot → ⊥
complete-lacks slot C L = true≢false (sym (complete-present slot C) ∙ lacks-present slot L)

lacks-packed : (slot : List ℕ) → Lacks slot → packed_slot slot ≡ replicate packed_words nothing
unfolding packed_slot frame_packed
lacks-packed slot L = ap (λ (t : Bool). frame_packed t slot) (lacks-present slot L)

complete-packed : (slot : List ℕ) → Complete slot → packed_slot slot ≡ frame slot
unfolding packed_slot frame_packed
complete-packed slot C = ap (λ (t : Bool). frame_packed t slot) (complete-present slot C)

-- the orientation
facing-one : (o : ℕ) → o ≡ 1 → packed_facing o ≡ 1
unfolding packed_facing
facing-one o e = ap (λ (t : Bool). cond t 1 short_minus_one) (eq-eqb o 1 e)

facing-other : (o : ℕ) → (o ≡ 1 → ⊥) → packed_facing o ≡ short_minus_one
unfolding packed_facing
facing-other o e = ap (λ (t : Bool). cond t 1 short_minus_one) (ne_eqb o 1 e)

frame-something : (slot : List ℕ) (i : ℕ) → i < 6 → get_or (frame slot) i 0 ≡ nothing → ⊥
frame-something slot i l e = component-not-nothing (get_or slot (1 + i) 0) (sym (frame_at slot i l) ∙ e)

frame-holds : (slot : List ℕ) → Holds slot (frame slot)
unfolding frame list_of
frame-holds slot =
    record {
      seven = refl;
      numbers = frame_at slot;
      no_nothing = frame-something slot;
      one = λ e. frame-last slot ∙ facing-one (get_or slot 9 0) e;
      minus_one = λ e. frame-last slot ∙ facing-other (get_or slot 9 0) (λ k. omega arith);
    }

pub told : (slot : List ℕ) → (Lacks slot × (packed_slot slot ≡ replicate packed_words nothing)) ⊎ ((Lacks slot → ⊥) × Holds slot (packed_slot slot))
told slot = go (decided slot)
  where
    go : Lacks slot ⊎ Complete slot → (Lacks slot × (packed_slot slot ≡ replicate packed_words nothing)) ⊎ ((Lacks slot → ⊥) × Holds slot (packed_slot slot))
    go (inl L) = inl (L, lacks-packed slot L)
    go (inr C) = inr (complete-lacks slot C, subst (Holds slot) (sym (complete-packed slot C)) (frame-holds slot))

-- the reader takes what is packed
frame-framed : (slot : List ℕ) → framed (frame slot) ≡ true
unfolding framed
frame-framed slot =
    λ z. every-all 6 (λ i. not (eqb (get_or (frame slot) i 0) nothing)) (λ i l. ap not (ne_eqb _ _ (frame-something slot i l))) z && either z
  where
    o : ℕ
    o = get_or slot 9 0

    go : (t : Bool) → eqb o 1 ≡ t → (eqb (packed_facing o) 1 || eqb (packed_facing o) short_minus_one) ≡ true
    go true e = ap (λ (n : ℕ). eqb n 1 || eqb n short_minus_one) (facing-one o (eqb-true o 1 e))
    go false e = ap (λ (n : ℕ). eqb n 1 || eqb n short_minus_one) (facing-other o (eqb-false o 1 e))

    either : (eqb (get_or (frame slot) 6 0) 1 || eqb (get_or (frame slot) 6 0) short_minus_one) ≡ true
    either = ap (λ (n : ℕ). eqb n 1 || eqb n short_minus_one) (frame-last slot) ∙ go (eqb o 1) refl

frame-there : (slot : List ℕ) → all_nothing (frame slot) ≡ false
unfolding all_nothing
frame-there slot = every-fails packed_words 0 (λ i. eqb (get_or (frame slot) i 0) nothing) (omega arith) (ne_eqb _ _ (frame-something slot 0 (omega arith)))

nothing-missing : all_nothing (replicate packed_words nothing) ≡ true
unfolding all_nothing every_below
nothing-missing = refl

pub accepts : (slot : List ℕ) → is_packed (packed_slot slot) ≡ true
unfolding is_packed
accepts slot = go (decided slot)
  where
    go : Lacks slot ⊎ Complete slot → (all_nothing (packed_slot slot) || framed (packed_slot slot)) ≡ true
    go (inl L) = ap (λ (ns : List ℕ). all_nothing ns || framed ns) (lacks-packed slot L) ∙ ap (λ (t : Bool). t || framed (replicate packed_words nothing)) nothing-missing
    go (inr C) = ap (λ (ns : List ℕ). all_nothing ns || framed ns) (complete-packed slot C) ∙ (ap (λ (t : Bool). all_nothing (frame slot) || t) (frame-framed slot) ∙ or-true (all_nothing (frame slot)))

-- and reads it back
oriented-facing : (o : ℕ) → o ≤ 1 → oriented (packed_facing o) ≡ o
unfolding oriented
oriented-facing o h = go (eqb o 1) refl
  where
    go : (t : Bool) → eqb o 1 ≡ t → oriented (packed_facing o) ≡ o
    go true e = ap oriented (facing-one o (eqb-true o 1 e)) ∙ sym (eqb-true o 1 e)
    go false e = ap oriented (facing-other o (eqb-false o 1 e)) ∙ none
      where
        none : 0 ≡ o
        none = omega (arith, eqb-false o 1 e)

frame_back : (slot : List ℕ) → Complete slot → ReadsBack slot (frame_words (frame slot))
unfolding frame_words list_of
frame_back slot C =
    record {
      eight = refl;
      there = refl;
      numbers = λ i l. words-at (frame slot) i l ∙ ap wide (frame_at slot i l);
      orientation = words_last (frame slot) ∙ (ap oriented (frame-last slot) ∙ oriented-facing (get_or slot 9 0) C.last);
    }

lacks-read : (slot : List ℕ) → Lacks slot → read_seven (packed_slot slot) ≡ absent_words
unfolding read_seven seven_read
lacks-read slot L =
    ap (λ (ns : List ℕ). cond (all_nothing ns) absent_words (frame_words ns)) (lacks-packed slot L) ∙ ap (λ (t : Bool). cond t absent_words (frame_words (replicate packed_words nothing))) nothing-missing

complete-read : (slot : List ℕ) → Complete slot → read_seven (packed_slot slot) ≡ frame_words (frame slot)
unfolding read_seven seven_read
complete-read slot C =
    ap (λ (ns : List ℕ). cond (all_nothing ns) absent_words (frame_words ns)) (complete-packed slot C) ∙ ap (λ (t : Bool). cond t absent_words (frame_words (frame slot))) (frame-there slot)

pub back : (slot : List ℕ) → (Lacks slot × (read_seven (packed_slot slot) ≡ absent_words)) ⊎ ((Lacks slot → ⊥) × ReadsBack slot (read_seven (packed_slot slot)))
back slot = go (decided slot)
  where
    go : Lacks slot ⊎ Complete slot → (Lacks slot × (read_seven (packed_slot slot) ≡ absent_words)) ⊎ ((Lacks slot → ⊥) × ReadsBack slot (read_seven (packed_slot slot)))
    go (inl L) = inl (L, lacks-read slot L)
    go (inr C) = inr (complete-lacks slot C, subst (ReadsBack slot) (sym (complete-read slot C)) (frame_back slot C))
