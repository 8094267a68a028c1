-- The desk's verdict as the code has it: a number of 0 is no refusal. Assumes nothing.
use Prim.Native.Nat.{ℕ, ◌+◌, ◌*◌, ◌≤◌, min}
use native.Mathlib.Omega.{arith}
use mathlib.Core.Path.{◌≡◌, refl, sym, ap, ◌∙◌}
use mathlib.Core.List.{List, ◌++◌}
use mathlib.Core.Option.{Option, none, some}
use lib.ListN.{length, take, drop, replicate}
use lib.Seq.{take_all, drop-drop}
use lib.Ieee.{Float}
use Rattle.definition.specs.Limits.{face_limit, work_words}
use Rattle.definition.specs.Handed.{Handed, slot_count}
use Rattle.definition.specs.Desk.{Row, verdict, Shown, shown}
use Rattle.definition.specs.Outcome.{Result, answered}
use Rattle.table.specs.Columns.{columns, rows_of}
use Rattle.lists.specs.Every.{Each, each_none, each_some}
use Rattle.laws.proofs.Verdict.{verdict-numbered, InTable}
use Rattle.std.specs.Prelude.{Ok, Err}
use Rattle.desk.specs.declared.Refusal.{Refusal}
use Rattle.desk.specs.Verdict.{Verdict, as_verdict, told}
use Rattle.desk.proofs.Telling.{number-some}
use Rattle.mikktspace.specs.declared.Outcome.{Outcome}
use Rattle.mikktspace.specs.Contract.{left, outcome_of}

pub left-same : (r s : Outcome) (a w : List ℕ) → r ≡ s → left r a w ≡ left s a w
left-same r s a w e = ap (λ x. left x a w) e

-- a refusal: what the call leaves behind
pub refused : (o : Option Row) (r : Refusal) (z : Result) (a w : List ℕ) → told (Err r) ≡ as_verdict o → left (outcome_of (Err r)) a w ≡ answered o z a w
unfolding told as_verdict answered left outcome_of
refused none r z a w e = absurd (number-some r (ap (λ v. v.number) e))
refused (some x) r z a w e = λ i. record { number = (e i).number; place = (e i).place; slots = 0; answer = a; work = w }

-- what is said of lists of so many words is said of lists that are as long
pub as-long : (g : Handed) (t : Float) (k m a w : ℕ) (v : Verdict) → v ≡ as_verdict (verdict (shown g t k m)) → k ≡ a → m ≡ w → v ≡ as_verdict (verdict (shown g t a w))
as-long g t k m a w v e p q = e ∙ (λ i. as_verdict (verdict (shown g t (p i) (q i))))

-- no refusal is said where no row applies
pub no-refusal : (x : Shown) → told (Ok tt) ≡ as_verdict (verdict x) → verdict x ≡ none
unfolding as_verdict told
no-refusal x e = go (verdict x) (verdict-numbered x) (sym (ap (λ v. v.number) e))
  where
    go : (o : Option Row) → Each InTable o → (as_verdict o).number ≡ 0 → o ≡ none
    go none each_none e = refl
    go (some r) (each_some f) e = let g = f.known.0 in absurd (omega arith)

-- so few faces are all counted
pub all_slots : (sizes : List ℕ) (n : ℕ) → length sizes ≤ face_limit → n ≡ slot_count (take (min face_limit face_limit) sizes) → n ≡ slot_count sizes
all_slots sizes n h e = e ∙ ap slot_count (take_all face_limit sizes h)

-- a work list that is as it was past its columns, cleared so far as a face has words
pub cleared-past : (n : ℕ) (w z y : List ℕ) → drop (columns * rows_of n) z ≡ drop (columns * rows_of n) w → y ≡ replicate (work_words * n) 0 ++ drop (work_words * n) z → y ≡ replicate (work_words * n) 0 ++ drop (work_words * n) w
cleared-past n w z y past q =
    let k : columns * rows_of n + 2 * n ≡ work_words * n = omega arith in
    q ∙ ap (λ l. replicate (work_words * n) 0 ++ l) (sym (drop-drop (2 * n) (columns * rows_of n) z ∙ ap (λ x. drop x z) k) ∙ (ap (drop (2 * n)) past ∙ (drop-drop (2 * n) (columns * rows_of n) w ∙ ap (λ x. drop x w) k)))
