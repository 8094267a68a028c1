-- The desk's table: its numbers, its rows by their numbers, and what holds where no row applies. Assumes nothing.
use Prim.Native.Nat.{ℕ, ◌*◌, ◌≤◌, ◌<◌}
use mathlib.Core.Path.{◌≡◌, refl, sym, ap, ◌∙◌}
use mathlib.Core.Bool.{Bool, true, false, cond, not, ◌&&◌, true≢false}
use mathlib.Core.List.{List, [], ◌∷◌}
use mathlib.Core.Option.{Option, none, some, none-ne-some}
use lib.Dec.{ltb, leb}
use lib.ListN.{length}
use borrow.Author.Tests.{ltb-true, ltb-false, leb-true, le-ltb}
use Rattle.bits.specs.Word.{is_finite}
use Rattle.bits.proofs.Bools.{and_left, and_right, or_left, or_right}
use Rattle.tangent.specs.Slot.{slot_words}
use Rattle.lists.specs.Lists.{first, has}
use Rattle.lists.specs.Every.{Each, Every, every_nil, every_cons}
use Rattle.definition.specs.Limits.{face_limit, work_words, highest_refusal}
use Rattle.definition.specs.Handed.{slot_count}
use Rattle.definition.specs.Desk.{Row, Shown, not_finite, no_normal, is_there, or_zero, too_many, misfit, table, verdict, row_of}
use Rattle.laws.proofs.Part.{every_map}
use Rattle.laws.proofs.Closed.{Found, first_found}
use Rattle.laws.proofs.Weld.{found_at}

-- ---- the numbers

-- a number of the table is one of 1 to the highest
abbrev pub Numbered : Row → Type 0
Numbered r = (0 < r.number) × (r.number ≤ highest_refusal)

-- the same as a test
abbrev numbered : Row → Bool
numbered r = ltb 0 r.number && leb r.number highest_refusal

-- a row as it was found in the table
abbrev pub InTable : Row → Type 0
InTable = Found (λ r. r.applies) Numbered

all_pass : {X : Type 0} (p : X → Bool) (l : List X) → has (λ x. not (p x)) l ≡ false → Every (λ x. p x ≡ true) l
unfolding has
all_pass p [] e = every_nil
all_pass p (x ∷ l) e = every_cons (holds (p x) (or_left (not (p x)) _ e)) (all_pass p l (or_right (not (p x)) _ e))
  where
    holds : (b : Bool) → not b ≡ false → b ≡ true
    holds true h = refl
    holds false h = absurd (true≢false h)

numbers : (x : Shown) → Every Numbered (table x)
unfolding table has
numbers x = every_map (λ r e. (ltb-true 0 r.number (and_left (ltb 0 r.number) _ e), leb-true r.number highest_refusal (and_right (ltb 0 r.number) _ e))) (all_pass numbered (table x) refl)

-- the number of the row that is given
pub verdict-numbered : (x : Shown) → Each InTable (verdict x)
unfolding verdict
verdict-numbered x = first_found (λ r. r.applies) (numbers x)

-- ---- no row applies

none-applies : (l : List Row) → first (λ r. r.applies) l ≡ none → Every (λ r. r.applies ≡ false) l
unfolding first
none-applies [] e = every_nil
none-applies (r ∷ l) e = go r.applies refl e (none-applies l)
  where
    go : (b : Bool) → r.applies ≡ b → cond b (some r) (first (λ r. r.applies) l) ≡ none → (first (λ r. r.applies) l ≡ none → Every (λ r. r.applies ≡ false) l) → Every (λ r. r.applies ≡ false) (r ∷ l)
    go true h e rest = absurd (none-ne-some r (sym e))
    go false h e rest = every_cons h (rest e)

none_found : {l : List Row} → Every (λ r. r.applies ≡ false) l → first (λ r. r.applies) l ≡ none
unfolding first
none_found every_nil = refl
none_found (every_cons {x = r} {l} h t) = ap (λ b. cond b (some r) (first (λ r. r.applies) l)) h ∙ none_found t

-- then the row of a number does not
pub row-passed : (x : Shown) → verdict x ≡ none → (n : ℕ) (r : Row) → row_of n (table x) ≡ some r → r.applies ≡ false
unfolding verdict row_of
row-passed x e n r is = (found_at _ r (first_found _ (none-applies (table x) e)) is).known

not_there : (o : Option ℕ) → is_there o ≡ false → o ≡ none
unfolding is_there
not_there none e = refl
not_there (some i) e = absurd (true≢false e)

-- what holds of a call that the desk accepts, row by row
pub record Fine (x : Shown) : Type 0 where
  pub few : length x.mesh.sizes ≤ face_limit
  pub fits : misfit x.mesh ≡ false
  pub threshold : not (is_finite x.threshold) ≡ false
  pub good : not_finite x.mesh ≡ none
  pub normals : no_normal x.mesh ≡ none
  pub answer-fits : slot_words * slot_count x.mesh.sizes ≤ x.answer
  pub work-fits : work_words * length x.mesh.sizes ≤ x.work

pub fine : (x : Shown) → verdict x ≡ none → Fine x
unfolding table row_of first too_many
fine x e =
    let p = row-passed x e in
    record {
      few = ltb-false face_limit (length x.mesh.sizes) (p 1 (record { number = 1; applies = too_many x.mesh.sizes; place = 0 }) refl);
      fits = p 2 (record { number = 2; applies = misfit x.mesh; place = 0 }) refl;
      threshold = p 3 (record { number = 3; applies = not (is_finite x.threshold); place = 0 }) refl;
      good = not_there (not_finite x.mesh) (p 4 (record { number = 4; applies = is_there (not_finite x.mesh); place = or_zero (not_finite x.mesh) }) refl);
      normals = not_there (no_normal x.mesh) (p 7 (record { number = 7; applies = is_there (no_normal x.mesh); place = or_zero (no_normal x.mesh) }) refl);
      answer-fits = ltb-false x.answer (slot_words * slot_count x.mesh.sizes) (p 5 (record { number = 5; applies = ltb x.answer (slot_words * slot_count x.mesh.sizes); place = 0 }) refl);
      work-fits = ltb-false x.work (work_words * length x.mesh.sizes) (p 6 (record { number = 6; applies = ltb x.work (work_words * length x.mesh.sizes); place = 0 }) refl);
    }

-- and what holds of it is enough
pub is-fine : (x : Shown) → Fine x → verdict x ≡ none
unfolding verdict table too_many is_there
is-fine x F =
    none_found
    (every_cons (le-ltb face_limit (length x.mesh.sizes) F.few) (every_cons F.fits (every_cons F.threshold
    (every_cons (ap is_there F.good) (every_cons (ap is_there F.normals) (every_cons (le-ltb x.answer (slot_words * slot_count x.mesh.sizes) F.answer-fits)
    (every_cons (le-ltb x.work (work_words * length x.mesh.sizes) F.work-fits) every_nil)))))))
