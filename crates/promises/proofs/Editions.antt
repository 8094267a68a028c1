-- Demand 1 holds of whatever the definition allows, in every edition. Assumes nothing.
use Prim.Native.Nat.{ℕ, ◌*◌, ◌≤◌, ◌<◌}
use native.Mathlib.Omega.{arith}
use mathlib.Core.Path.{◌≡◌, refl, sym, ◌∙◌, ap, subst}
use mathlib.Core.Logic.{◌⊎◌, inl, inr}
use mathlib.Core.List.{List, ◌++◌}
use mathlib.Core.Option.{Option, none, some}
use lib.ListN.{length, take, drop, replicate, length-append, length-drop, length-replicate}
use lib.Seq.{take_at, drop_at}
use Rattle.tangent.specs.declared.Reading.{Reading}
use Rattle.tangent.specs.Slot.{slot_words, words}
use Rattle.tangent.proofs.Slots.{absent_alone}
use Rattle.lists.specs.Every.{Each, each_none, each_some}
use Rattle.definition.specs.Limits.{work_words}
use Rattle.definition.specs.Handed.{Call, mesh_of, slot_count}
use Rattle.definition.specs.Desk.{Row, at_desk}
use Rattle.definition.specs.Outcome.{Result, answer_words, accepted, answered}
use Rattle.definition.specs.Editions.{edition_refusal, frames_in, verdict_in, accepted_in, outcome_in}
use Rattle.laws.proofs.Corrected.{outcome-corrected, in-order-in, no_edition, none_in}
use Rattle.laws.proofs.Verdict.{fine}
use Rattle.laws.proofs.Bridge.{Reads, reads-length}
use Rattle.laws.proofs.Editions.{InTableIn, verdict-in-numbered, frames-in-read}
use Rattle.view.specs.Answer.{slot_number, HasSlot, at_slot}
use Rattle.view.proofs.Answer.{slot-words, reads-shown}
use Rattle.promises.specs.Calls.{leaves}
use Rattle.promises.specs.Demand1.{SlotTells}
use Rattle.promises.specs.Editions.{reading_in, RefusedIn, TakenIn, Promised}

-- what a call leaves behind, by the verdict
abbrev by : ℕ → Call → Option Row → Result
by e x o = answered o (accepted_in e x) x.answer x.work

leaves-is : (e : ℕ) (x : Call) (o : Option Row) → verdict_in e (at_desk x) ≡ o → outcome_in e x ≡ by e x o
unfolding outcome_in
leaves-is e x o h = ap (by e x) h

-- ---- a refusal
refused : (e : ℕ) (x : Call) (r : Row) → verdict_in e (at_desk x) ≡ some r → InTableIn r → RefusedIn e x (outcome_in e x)
unfolding answered
refused e x r v h =
    let is = leaves-is e x (some r) v in
    record {
      row = v ∙ (λ i. some (record { number = (sym is i).number; applies = h.passes i; place = (sym is i).place }));
      low = subst (λ (y : Result). 0 < y.number) (sym is) h.known.0;
      high = subst (λ (y : Result). y.number ≤ edition_refusal) (sym is) h.known.1;
      nothing_else = is ∙ (λ i. record { number = (sym is i).number; place = (sym is i).place; slots = 0; answer = x.answer; work = x.work });
    }

-- ---- acceptance

-- a list whose first n words were written
front : (n : ℕ) (new old : List ℕ) → length new ≡ n → n ≤ length old → (drop n (new ++ drop n old) ≡ drop n old) × (take n (new ++ drop n old) ≡ new) × (length (new ++ drop n old) ≡ length old)
front n new old e h =
    let a = length-append new (drop n old) in
    let b = length-drop n old in
    (drop_at new (drop n old) n e, take_at new (drop n old) n e, omega arith)

-- the words of any readings tell each of them
slot-tells : {sizes : List ℕ} {rs : List (List Reading)} → Reads sizes rs → (a₀ a : List ℕ) → a ≡ answer_words rs ++ drop (slot_words * slot_count sizes) a₀ → (f i : ℕ) → HasSlot sizes f i → SlotTells (take slot_words (drop (slot_words * slot_number sizes f i) a)) (at_slot rs f i)
unfolding words
slot-tells {sizes} {rs} t a₀ a e f i h =
    let w = slot-words sizes a₀ (at_slot rs) a f i h (e ∙ reads-shown t a₀) in
    record { words_are = w; absent_is = λ q. w ∙ ap words q; absent_alone = λ q. absent_alone (at_slot rs f i) (sym w ∙ q) }

taken : (e : ℕ) (x : Call) → verdict_in e (at_desk x) ≡ none → TakenIn e x (outcome_in e x)
unfolding answered accepted_in accepted reading_in
taken e x v =
    let is = leaves-is e x none v in
    let long = fine (at_desk x) (none_in e (at_desk x) v).1 in
    let sizes = x.mesh.sizes in
    let n = slot_words * slot_count sizes in
    let k = work_words * length sizes in
    let t = frames-in-read x.mesh.positions x.mesh.normals x.mesh.texture x.threshold sizes e in
    let a = front n (answer_words (frames_in e x.threshold (mesh_of x.mesh))) x.answer (reads-length t) long.answer-fits in
    let w = front k (replicate k 0) x.work (length-replicate k 0) long.work-fits in
    record {
      edition = (none_in e (at_desk x) v).0;
      number_0 = ap (λ (y : Result). y.number) is;
      place_0 = ap (λ (y : Result). y.place) is;
      slots_s = ap (λ (y : Result). y.slots) is;
      slot = slot-tells t x.answer (outcome_in e x).answer (ap (λ (y : Result). y.answer) is);
      answer_past = ap (λ (y : Result). drop n y.answer) is ∙ a.0;
      answer_length = ap (λ (y : Result). length y.answer) is ∙ a.2;
      work_zero = ap (λ (y : Result). take k y.work) is ∙ w.1;
      work_past = ap (λ (y : Result). drop k y.work) is ∙ w.0;
      work_length = ap (λ (y : Result). length y.work) is ∙ w.2;
    }

-- ---- the promise
pub by-verdict : (e : ℕ) (x : Call) → RefusedIn e x (outcome_in e x) ⊎ TakenIn e x (outcome_in e x)
by-verdict e x = go (verdict_in e (at_desk x)) refl (verdict-in-numbered e (at_desk x))
  where
    go : (o : Option Row) → verdict_in e (at_desk x) ≡ o → Each InTableIn o → RefusedIn e x (outcome_in e x) ⊎ TakenIn e x (outcome_in e x)
    go none v each_none = inr (taken e x v)
    go (some r) v (each_some h) = inl (refused e x r v h)

-- the corrected edition's call is the call
pub leaves-corrected : (x : Call) → leaves x ≡ outcome_in 1 x
unfolding leaves
leaves-corrected x = sym (outcome-corrected x)

pub editions : Promised
editions =
    record {
      demand_1 = λ e x z q. subst (λ (y : Result). RefusedIn e x y ⊎ TakenIn e x y) (sym q) (by-verdict e x);
      no_edition = λ e x z q h. q ∙ no_edition e x h;
      as_before = λ x z q. q ∙ sym (leaves-corrected x);
      order = in-order-in;
    }
