-- What a call leaves behind, ground by ground. Assumes nothing.
use Prim.Native.Nat.{ℕ, ◌+◌, ◌/◌, ◌%◌, ◌≤◌, ◌<◌}
use native.Mathlib.Omega.{arith}
use mathlib.Core.Path.{◌≡◌, refl, ap, ◌∙◌}
use mathlib.Core.Bool.{Bool, true, false, cond}
use mathlib.Core.List.{List, ◌++◌}
use lib.ListN.{length, get_or, drop}
use lib.Dec.{eqb, leb}
use borrow.Author.Tests.{eq-eqb, ne_eqb, le-leb, lt-leb, eqb-true, leb-true}
use Rattle.tangent.specs.Slot.{slot_words}
use Rattle.packed.specs.Packer.{slot_at}
use Rattle.packed.specs.Reader.{first_failing}
use Rattle.worth.specs.Worth.{good_slot, worth, count_below}
use denote.Enum.Declared.{tag_of}
use Rattle.worth.specs.contracts.Worth.{the_type as worth_type}
use Rattle.worth.specs.contracts.Refusal.{the_type as refusal_type}
use Rattle.worth.specs.declared.Worth.{Worth}
use Rattle.worth.specs.declared.Worth.TheVariants.{Absent, Good, Lost, Blank, Long, Short}
use Rattle.worth.specs.declared.Refusal.{Refusal}
use Rattle.worth.specs.declared.Refusal.TheVariants.{Broken, TooShort}
use Rattle.worth.specs.Contract.{byte_of, number_of, most_slots, whole, countable, roomy, refusal, good_at, verdicts_of, not_judged, all_judged, judge_left}
use Rattle.worth.proofs.Filling.{filled_at}
use Rattle.worth.proofs.Counting.{count_same, failing-same}

-- the byte that a verdict is declared with
pub byte-is : (w : Worth) → tag_of worth_type w ≡ byte_of w
byte-is Absent = refl
byte-is Good = refl
byte-is Lost = refl
byte-is Blank = refl
byte-is Long = refl
byte-is Short = refl

-- the number that a refusal is declared with
pub number-is : (r : Refusal) → tag_of refusal_type r + 1 ≡ number_of r
number-is Broken = refl
number-is TooShort = refl

pub number-some : (r : Refusal) → number_of r ≡ 0 → ⊥
number-some Broken e = omega (arith, e)
number-some TooShort e = omega (arith, e)

-- the refusal: not whole slots; then too many; then too little room; then none
module _ (words room : ℕ) where
  pub is-broken : (words % slot_words ≡ 0 → ⊥) → 1 ≡ refusal words room
  unfolding refusal whole
  is-broken h = simp (ne_eqb _ _ h)

  pub is-endless : words % slot_words ≡ 0 → most_slots < words / slot_words → 1 ≡ refusal words room
  unfolding refusal whole countable
  is-endless e h = simp (eq-eqb _ _ e, lt-leb _ _ h)

  pub is-tight : words % slot_words ≡ 0 → words / slot_words ≤ most_slots → room < words / slot_words → 2 ≡ refusal words room
  unfolding refusal whole countable roomy
  is-tight e h k = simp (eq-eqb _ _ e, le-leb _ _ h, lt-leb _ _ k)

  pub is_none : words % slot_words ≡ 0 → words / slot_words ≤ most_slots → words / slot_words ≤ room → 0 ≡ refusal words room
  unfolding refusal whole countable roomy
  is_none e h k = simp (eq-eqb _ _ e, le-leb _ _ h, le-leb _ _ k)

-- what is not refused is whole slots, not too many, with room
pub record Fit (words room : ℕ) : Type 0 where
  pub in-slots : words % slot_words ≡ 0
  pub few : words / slot_words ≤ most_slots
  pub room_for : words / slot_words ≤ room

pub none-fit : (words room : ℕ) → refusal words room ≡ 0 → Fit words room
unfolding refusal whole countable roomy
none-fit words room = go (eqb (words % slot_words) 0) (leb (words / slot_words) most_slots) (leb (words / slot_words) room) refl refl refl
  where
    go : (x y z : Bool) → eqb (words % slot_words) 0 ≡ x → leb (words / slot_words) most_slots ≡ y → leb (words / slot_words) room ≡ z → ◌≡◌ {A = ℕ} (cond x (cond y (cond z 0 2) 1) 1) 0 → Fit words room
    go true true true a b c e = record { in-slots = eqb-true _ _ a; few = leb-true _ _ b; room_for = leb-true _ _ c }
    go true true false a b c e = absurd (omega (arith, e))
    go true false z a b c e = absurd (omega (arith, e))
    go false y z a b c e = absurd (omega (arith, e))

-- what the judge leaves: refused, or judged
module _ (l v : List ℕ) where
  pub judge-refused : (refusal (length l) (length v) ≡ 0 → ⊥) → not_judged (refusal (length l) (length v)) v ≡ judge_left l v
  unfolding judge_left
  judge-refused h = simp (ne_eqb _ _ h)

  pub judge-done : refusal (length l) (length v) ≡ 0 → all_judged l v ≡ judge_left l v
  unfolding judge_left
  judge-done e = simp (eq-eqb _ _ e)

  -- the verdict on a slot, in the list
  pub verdict-at : (n s : ℕ) → s < n → get_or (verdicts_of n l ++ drop n v) s 0 ≡ worth (slot_at l s)
  unfolding verdicts_of
  verdict-at n s h = filled_at n (λ s. worth (slot_at l s)) v s h

  -- and whether it is good
  pub good-there : (u : List ℕ) (n s : ℕ) → u ≡ verdicts_of n l ++ drop n v → s < n → eqb (get_or u s 0) good_slot ≡ good_at l s
  unfolding good_at
  good-there u n s e h = ap (λ (x : ℕ). eqb x good_slot) (ap (λ (w : List ℕ). get_or w s 0) e ∙ verdict-at n s h)

  -- so how many are good, and the first that is not
  pub count-there : (u : List ℕ) (n : ℕ) → u ≡ verdicts_of n l ++ drop n v → count_below n (λ s. eqb (get_or u s 0) good_slot) ≡ count_below n (good_at l)
  count-there u n e = count_same n (λ s. eqb (get_or u s 0) good_slot) (good_at l) (λ s h. good-there u n s e h)

  pub first-there : (u : List ℕ) (n : ℕ) → u ≡ verdicts_of n l ++ drop n v → first_failing n (λ s. eqb (get_or u s 0) good_slot) ≡ first_failing n (good_at l)
  first-there u n e = failing-same n (λ s. eqb (get_or u s 0) good_slot) (good_at l) (λ s h. good-there u n s e h)
