-- What is promised of a verdict on every slot holds. Assumes nothing.
use Prim.Native.Nat.{ℕ}
use native.Mathlib.Omega.{arith}
use mathlib.Core.Path.{◌≡◌, refl, sym, ◌∙◌, ap, subst}
use mathlib.Core.Bool.{Bool, true, false, cond}
use mathlib.Core.List.{List, []}
use lib.ListN.{length, get_or}
use Rattle.tangent.specs.declared.Evaluated.{Evaluated}
use Rattle.tangent.specs.declared.Reading.{Reading}
use Rattle.tangent.specs.declared.Reading.TheVariants.{Absent, Single, Combined, Copied, Filled}
use Rattle.tangent.specs.Slot.{single_origin, combined_origin, copied_origin, filled_origin, ten_words, present, words}
use Rattle.packed.specs.Component.{within}
use Rattle.worth.specs.Worth.{absent_slot, good_slot, lost_slot, blank_slot, long_slot, short_slot, shown, in_both, in_all, directed, present_worth, worth}
use Rattle.definition.specs.Handed.{Call, mesh_of}
use Rattle.definition.specs.Outcome.{Result}
use Rattle.definition.specs.Shuffle.{Shuffle, shares}
use Rattle.definition.proofs.Lengths.{mesh-length}
use Rattle.promises.specs.Calls.{Answers, reading_at}
use Rattle.promises.specs.Demand3.{left_at, right_at, Promised}
use Rattle.promises.proofs.Demand3.{left_is, right_is, demand3}
use Rattle.promises.proofs.Alike.{same_slots}
use Rattle.promises.proofs.Directions.{taken-slot}
use Rattle.worth.proofs.Outcomes.{is-broken, is-endless, is-tight, is_none}
use Rattle.worth.proofs.Meaning.{told, told-only, good_is, is_good}
use Rattle.worth.proofs.Packing.{packs-well, worth-alike}
use Rattle.worth.proofs.Floats.{finite_is, counts_is}
use Rattle.worth.proofs.Judging.{number_is, refused-is, past-kept, verdict-is, count_is, first-other, all-good-first, first-all-good, all-good-count, count-all-good, words_alone, one_judging}
use Rattle.promises.specs.Worth.{OneSlot, OneCall, AnswerWorth, SameWorth, WorthPromised}

one-slot : OneSlot
one-slot =
    record {
      told = told;
      only = told-only;
      good_is = good_is;
      is_good = is_good;
      packs = λ slot e. packs-well slot (good_is slot e);
      finite_is = finite_is;
      counts_is = counts_is;
      signs = worth-alike;
    }

one-call : (l v : List ℕ) → OneCall l v
one-call l v =
    record {
      broken = λ h. number_is l v ∙ sym (is-broken (length l) (length v) h);
      endless = λ e h. number_is l v ∙ sym (is-endless (length l) (length v) e h);
      tight = λ e h k. number_is l v ∙ sym (is-tight (length l) (length v) e h k);
      fits = λ e h k. number_is l v ∙ sym (is_none (length l) (length v) e h k);
      refused = refused-is l v;
      past = past-kept l v;
      verdict = verdict-is l v;
      count = count_is l v;
      first = first-other l v;
      all_first = all-good-first l v;
      first_all = first-all-good l v;
      all_count = all-good-count l v;
      count_all = count-all-good l v;
    }

-- ---- the slots of an answer

-- what is there is neither lost nor absent
kinds : (a b c : Bool) (k : ℕ) → cond a (cond b (cond c good_slot short_slot) long_slot) blank_slot ≡ k → (k ≡ lost_slot → ⊥) × (k ≡ absent_slot → ⊥)
kinds true true true k e = (λ p. omega (arith, e, p), λ p. omega (arith, e, p))
kinds true true false k e = (λ p. omega (arith, e, p), λ p. omega (arith, e, p))
kinds true false c k e = (λ p. omega (arith, e, p), λ p. omega (arith, e, p))
kinds false b c k e = (λ p. omega (arith, e, p), λ p. omega (arith, e, p))

present-kinds : (n : ℕ) (e : Evaluated) (o : Bool) → (worth (present n e o) ≡ lost_slot → ⊥) × (worth (present n e o) ≡ absent_slot → ⊥)
unfolding worth present ten_words present_worth
present-kinds n e o = let l = present n e o in kinds (directed l) (in_all within l) (in_both shown l) _ refl

there : (n : ℕ) (e : Evaluated) (o : Bool) (r : Reading) → (r ≡ Absent → ⊥) → AnswerWorth (present n e o) r
there n e o r h = let k = present-kinds n e o in record { not_lost = k.0; absent = λ p. absurd (h p); absent_only = λ p. absurd (k.1 p) }

-- a reading whose first word is 1 is not absent
pub not_absent : (r : Reading) → get_or (words r) 0 0 ≡ 1 → r ≡ Absent → ⊥
unfolding words
not_absent r e p = let z : ◌≡◌ {A = ℕ} 0 1 = sym (ap (λ (q : Reading). get_or (words q) 0 0) p) ∙ e in omega (arith, z)

words-worth : (r : Reading) → AnswerWorth (words r) r
unfolding words worth present ten_words
words-worth Absent = record { not_lost = λ p. omega (arith, p); absent = λ p. refl; absent_only = λ p. refl }
words-worth (Single e o) = there single_origin e o (Single e o) (not_absent (Single e o) refl)
words-worth (Combined e o) = there combined_origin e o (Combined e o) (not_absent (Combined e o) refl)
words-worth (Copied e o) = there copied_origin e o (Copied e o) (not_absent (Copied e o) refl)
words-worth (Filled e o) = there filled_origin e o (Filled e o) (not_absent (Filled e o) refl)

-- ---- demand 3

same-worth : (p : List Bool) (a b m : Call) (ra rb rm : Result) → Answers a ra → Answers b rb → Answers m rm → Shuffle p (mesh_of a.mesh) (mesh_of b.mesh) (mesh_of m.mesh) → shares (mesh_of a.mesh) (mesh_of b.mesh) ≡ false → a.threshold ≡ m.threshold → b.threshold ≡ m.threshold → ra.number ≡ 0 → rb.number ≡ 0 → rm.number ≡ 0 → SameWorth p a b m ra rb rm
unfolding Promised
same-worth p a b m ra rb rm qa qb qm s e ha hb ea eb em =
    let D = demand3 p a b m ra rb rm qa qb qm s e ha hb ea eb em in
    let la = mesh-length a.mesh.positions a.mesh.normals a.mesh.texture 0 a.mesh.sizes in
    let lb = mesh-length b.mesh.positions b.mesh.normals b.mesh.texture 0 b.mesh.sizes in
    let lm = mesh-length m.mesh.positions m.mesh.normals m.mesh.texture 0 m.mesh.sizes in
    record {
      first = λ n i h. let l = (left_is [] s n (omega (arith, h.face, la))).1 in ap worth (same_slots a m ra rm qa qm ea em n (left_at p n) (omega (arith, l, lm)) (D.first n h.face) i h);
      second = λ n i h. let l = (right_is [] s n (omega (arith, h.face, lb))).1 in ap worth (same_slots b m rb rm qb qm eb em n (right_at p n) (omega (arith, l, lm)) (D.second n h.face) i h);
    }

pub worth-promised : WorthPromised
worth-promised = record {
  shuffled = same-worth;
  slot = one-slot;
  call = one-call;
  words_alone = words_alone;
  one_judging = one_judging;
  answers = λ x z a n f i h. subst (λ (ws : List ℕ). AnswerWorth ws (reading_at x f i)) (sym (taken-slot x z a n f i h)) (words-worth (reading_at x f i));
}
