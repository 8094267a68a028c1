-- What a call says of a whole list. Assumes nothing.
use Prim.Native.Nat.{ℕ, zero, suc, ◌+◌, ◌<◌}
use native.Mathlib.Nat.{eq-or-lt_of_le, le_of_suc-le-suc}
use native.Mathlib.Omega.{arith}
use mathlib.Core.Path.{◌≡◌, refl, sym, ap, ◌∙◌, subst}
use mathlib.Core.Bool.{Bool, true, false, cond}
use mathlib.Core.Logic.{⊎_elim}
use mathlib.Core.List.{List}
use lib.ListN.{length, get_or, drop}
use lib.Seq.{drop_at}
use lib.Dec.{eqb}
use borrow.Author.Tests.{eq-eqb, eqb-true, eqb-false}
use Rattle.lists.proofs.Loops.{length-list_of}
use Rattle.packed.specs.Packer.{slot_at, slots_in}
use Rattle.packed.specs.Reader.{first_failing, FirstFailing}
use Rattle.packed.proofs.Runs.{failing-first, failing-all}
use Rattle.worth.specs.Worth.{good_slot, worth, count_below}
use Rattle.worth.specs.Contract.{refusal, good_at, verdicts_of, JudgeLeft, not_judged, all_judged, judge_left, after_judge, Judges}
use Rattle.worth.specs.declared.Judged.{Judged}
use Rattle.worth.proofs.Counting.{count-le, cond-le}
use Rattle.worth.proofs.Outcomes.{verdict-at}

-- all pass exactly if the count is all
pub count_all : (n : ℕ) (p : ℕ → Bool) → ((i : ℕ) → i < n → p i ≡ true) → count_below n p ≡ n
unfolding count_below
count_all zero p h = refl
count_all (suc n) p h = (λ z. count_all n p (λ i l. h i (omega arith)) z + cond (h n (omega arith) z) 1 0) ∙ omega arith

one_passes : (b : Bool) → ◌≡◌ {A = ℕ} (cond b 1 0) 1 → b ≡ true
one_passes true e = refl
one_passes false e = absurd (omega (arith, e))

pub all_count : (n : ℕ) (p : ℕ → Bool) → count_below n p ≡ n → (i : ℕ) → i < n → p i ≡ true
unfolding count_below
all_count zero p e i l = absurd (omega arith)
all_count (suc n) p e i l =
    ⊎_elim (λ s. ap p s ∙ one_passes (p n) (omega (arith, e, count-le n p, cond-le (p n)))) (λ k. all_count n p (omega (arith, e, count-le n p, cond-le (p n))) i k) (eq-or-lt_of_le (le_of_suc-le-suc l))

module _ (l v : List ℕ) where
  abbrev judging : Bool → JudgeLeft
  judging x = cond x (all_judged l v) (not_judged (refusal (length l) (length v)) v)

  -- what is said where nothing is refused
  done : (judge_left l v).number ≡ 0 → judge_left l v ≡ all_judged l v
  unfolding judge_left all_judged not_judged
  done = go (eqb (refusal (length l) (length v)) 0) refl
    where
      go : (x : Bool) → eqb (refusal (length l) (length v)) 0 ≡ x → (judging x).number ≡ 0 → judging x ≡ all_judged l v
      go true e h = refl
      go false e h = absurd (eqb-false _ _ e h)

  -- the lowest that is not good, and how many are
  pub first_is : (judge_left l v).number ≡ 0 → (judge_left l v).first ≡ first_failing (slots_in l) (good_at l)
  unfolding all_judged
  first_is e = ap (λ (w : JudgeLeft). w.first) (done e)

  pub count_is : (judge_left l v).number ≡ 0 → (judge_left l v).good ≡ count_below (slots_in l) (good_at l)
  unfolding all_judged
  count_is e = ap (λ (w : JudgeLeft). w.good) (done e)

  pub first-other : (judge_left l v).number ≡ 0 → FirstFailing (slots_in l) (good_at l) (judge_left l v).first
  first-other e = subst (FirstFailing (slots_in l) (good_at l)) (sym (first_is e)) (failing-first (slots_in l) (good_at l))

  -- the verdict on a slot
  pub verdict-is : (judge_left l v).number ≡ 0 → (s : ℕ) → s < slots_in l → get_or (judge_left l v).verdicts s 0 ≡ worth (slot_at l s)
  unfolding all_judged
  verdict-is e s h = ap (λ (w : JudgeLeft). get_or w.verdicts s 0) (done e) ∙ verdict-at l v (slots_in l) s h

  -- a refusal says 0 and 0 and alters nothing
  pub refused-is : ((judge_left l v).number ≡ 0 → ⊥) → judge_left l v ≡ not_judged (judge_left l v).number v
  unfolding judge_left all_judged not_judged
  refused-is = go (eqb (refusal (length l) (length v)) 0)
    where
      go : (x : Bool) → ((judging x).number ≡ 0 → ⊥) → judging x ≡ not_judged (judging x).number v
      go true h = absurd (h refl)
      go false h = refl

  -- nothing past the slots is altered
  pub past-kept : drop (slots_in l) (judge_left l v).verdicts ≡ drop (slots_in l) v
  unfolding judge_left all_judged not_judged verdicts_of
  past-kept = go (eqb (refusal (length l) (length v)) 0)
    where
      go : (x : Bool) → drop (slots_in l) (judging x).verdicts ≡ drop (slots_in l) v
      go true = drop_at (verdicts_of (slots_in l) l) (drop (slots_in l) v) (slots_in l) (length-list_of (slots_in l) (λ s. worth (slot_at l s)))
      go false = refl

  -- the number is the refusal's
  pub number_is : (judge_left l v).number ≡ refusal (length l) (length v)
  unfolding judge_left all_judged not_judged
  number_is = go (eqb (refusal (length l) (length v)) 0) refl
    where
      go : (x : Bool) → eqb (refusal (length l) (length v)) 0 ≡ x → (judging x).number ≡ refusal (length l) (length v)
      go true e = sym (eqb-true _ _ e)
      go false e = refl

  -- all are good exactly if the first that is not is the number of slots, and if so many are good
  pub all-good-first : (judge_left l v).number ≡ 0 → ((s : ℕ) → s < slots_in l → worth (slot_at l s) ≡ good_slot) → (judge_left l v).first ≡ slots_in l
  unfolding good_at
  all-good-first e h = first_is e ∙ failing-all (slots_in l) (good_at l) (λ s k. eq-eqb _ _ (h s k))

  pub first-all-good : (judge_left l v).number ≡ 0 → (judge_left l v).first ≡ slots_in l → (s : ℕ) → s < slots_in l → worth (slot_at l s) ≡ good_slot
  unfolding good_at
  first-all-good e h s k = eqb-true _ _ ((first-other e).before s (omega (arith, h, k)))

  pub all-good-count : (judge_left l v).number ≡ 0 → ((s : ℕ) → s < slots_in l → worth (slot_at l s) ≡ good_slot) → (judge_left l v).good ≡ slots_in l
  unfolding good_at
  all-good-count e h = count_is e ∙ count_all (slots_in l) (good_at l) (λ s k. eq-eqb _ _ (h s k))

  pub count-all-good : (judge_left l v).number ≡ 0 → (judge_left l v).good ≡ slots_in l → (s : ℕ) → s < slots_in l → worth (slot_at l s) ≡ good_slot
  unfolding good_at
  count-all-good e h s k = eqb-true _ _ (all_count (slots_in l) (good_at l) (sym (count_is e) ∙ h) s k)

-- the verdict goes by the slot's words alone
pub words_alone : (l m v u : List ℕ) (s t : ℕ) → (judge_left l v).number ≡ 0 → (judge_left m u).number ≡ 0 → s < slots_in l → t < slots_in m → slot_at l s ≡ slot_at m t → get_or (judge_left l v).verdicts s 0 ≡ get_or (judge_left m u).verdicts t 0
words_alone l m v u s t e f h k w = verdict-is l v e s h ∙ (ap worth w ∙ sym (verdict-is m u f t k))

-- two outcomes of one call
pub one_judging : (l v u t : List ℕ) (r s : Judged) → Judges l v r u → Judges l v s t → (r ≡ s) × (u ≡ t)
unfolding after_judge
one_judging l v u t r s e f = let g = e ∙ sym f in (λ i. record { number = (g i).number; good = (g i).good; first = (g i).first }, ap (λ (w : JudgeLeft). w.verdicts) g)
