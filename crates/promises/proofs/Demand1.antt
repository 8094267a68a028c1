-- Demand 1 holds of whatever the definition allows: what holds in every edition, at the corrected one. Assumes nothing.
use Prim.Native.Nat.{◌≤◌}
use mathlib.Core.Path.{◌≡◌, sym, ◌∙◌, ap, subst}
use mathlib.Core.Bool.{true}
use mathlib.Core.Logic.{◌⊎◌, inl, inr}
use mathlib.Core.Option.{some}
use Rattle.lists.specs.Every.{Each, each_some}
use Rattle.definition.specs.Limits.{highest_refusal}
use Rattle.definition.specs.Handed.{Call}
use Rattle.definition.specs.Desk.{Row, at_desk}
use Rattle.definition.specs.Outcome.{Result}
use Rattle.definition.specs.Editions.{corrected, frames_in}
use Rattle.laws.proofs.Corrected.{verdict-corrected}
use Rattle.laws.proofs.Verdict.{InTable}
use Rattle.promises.specs.Calls.{reading_at}
use Rattle.promises.specs.Demand1.{Refused, Taken, Promised}
use Rattle.promises.specs.Editions.{reading_in, RefusedIn, TakenIn}
use Rattle.promises.proofs.Acceptance.{verdict_of, numbered as Numbers-of}
use Rattle.promises.proofs.Editions.{by-verdict, leaves-corrected}

-- the number of a row that is given is none above the highest
low-enough : (x : Call) (r : Row) → verdict_of x ≡ some r → r.number ≤ highest_refusal
low-enough x r e = go (subst (Each InTable) e (Numbers-of x))
  where
    go : Each InTable (some r) → r.number ≤ highest_refusal
    go (each_some h) = h.known.1

refused : (x : Call) (z : Result) → RefusedIn corrected x z → Refused x z
refused x z R =
    let row = sym (verdict-corrected (at_desk x)) ∙ R.row in
    record {
      row = row;
      low = R.low;
      high = low-enough x (record { number = z.number; applies = true; place = z.place }) row;
      no_slots = ap (λ (y : Result). y.slots) R.nothing_else;
      same_answer = ap (λ (y : Result). y.answer) R.nothing_else;
      same_work = ap (λ (y : Result). y.work) R.nothing_else;
    }

taken : (x : Call) (z : Result) → TakenIn corrected x z → Taken x z
unfolding reading_in reading_at frames_in
taken x z T =
    record {
      number_0 = T.number_0;
      place_0 = T.place_0;
      slots_s = T.slots_s;
      slot = T.slot;
      answer_past = T.answer_past;
      answer_length = T.answer_length;
      work_zero = T.work_zero;
      work_past = T.work_past;
      work_length = T.work_length;
    }

at-corrected : (x : Call) (z : Result) → RefusedIn corrected x z ⊎ TakenIn corrected x z → Refused x z ⊎ Taken x z
at-corrected x z (inl R) = inl (refused x z R)
at-corrected x z (inr T) = inr (taken x z T)

pub demand1 : Promised
unfolding Promised
demand1 x z e = at-corrected x z (subst (λ y. RefusedIn corrected x y ⊎ TakenIn corrected x y) (sym (e ∙ leaves-corrected x)) (by-verdict corrected x))
