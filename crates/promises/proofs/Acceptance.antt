-- A call is accepted exactly where no row of the table applies. Assumes nothing.
use Prim.Native.Nat.{ℕ}
use native.Mathlib.Omega.{arith}
use mathlib.Core.Path.{◌≡◌, refl, ap}
use mathlib.Core.Bool.{Bool, true, false, cond, ◌||◌, true≢false}
use mathlib.Core.List.{List, [], ◌∷◌}
use mathlib.Core.Option.{Option, none, some}
use Rattle.lists.specs.Lists.{first, has}
use Rattle.definition.specs.Desk.{at_desk, Row, verdict}
use Rattle.definition.specs.Outcome.{accepted, answered, outcome}
use Rattle.lists.specs.Every.{Each, each_none, each_some}
use Rattle.laws.proofs.Verdict.{verdict-numbered, InTable}
use Rattle.definition.specs.Handed.{Call}
use Rattle.promises.specs.Calls.{leaves, Accepted}
use Rattle.promises.specs.Impostors.{rows_of}

abbrev pub verdict_of : Call → Option Row
verdict_of x = verdict (at_desk x)

-- the number of a refusal is one of 1 to `highest_refusal`
pub numbered : (x : Call) → Each InTable (verdict_of x)
numbered x = verdict-numbered (at_desk x)

-- so a number of 0 is no refusal
pub no_row : (x : Call) → Accepted x → verdict_of x ≡ none
unfolding Accepted leaves outcome answered
no_row x e = go (verdict_of x) (numbered x) e
  where
    go : (o : Option Row) → Each InTable o → (answered o (accepted x) x.answer x.work).number ≡ 0 → o ≡ none
    go none each_none e = refl
    go (some r) (each_some h) e = let g = h.known.0 in absurd (omega arith)

-- ---- no row is found exactly where none applies
none_found : {A : Type 0} (p : A → Bool) (l : List A) → has p l ≡ false → first p l ≡ none
unfolding has first
none_found p [] e = refl
none_found p (x ∷ l) e = go (p x) e (none_found p l)
  where
    go : (b : Bool) → (b || has p l) ≡ false → (has p l ≡ false → first p l ≡ none) → cond b (some x) (first p l) ≡ none
    go true e f = absurd (true≢false e)
    go false e f = f e

found_none : {A : Type 0} (p : A → Bool) (l : List A) → first p l ≡ none → has p l ≡ false
unfolding has first
found_none p [] e = refl
found_none p (x ∷ l) e = go (p x) e (found_none p l)
  where
    go : (b : Bool) → cond b (some x) (first p l) ≡ none → (first p l ≡ none → has p l ≡ false) → (b || has p l) ≡ false
    go true e f = absurd (let z : ◌≡◌ {A = ℕ} 0 1 = cc in omega arith)
    go false e f = f e

pub accepted_where : (x : Call) → has (λ r. r.applies) (rows_of x) ≡ false → Accepted x
unfolding Accepted leaves outcome verdict answered accepted rows_of
accepted_where x e = ap (λ (o : Option Row). (answered o (accepted x) x.answer x.work).number) (none_found (λ r. r.applies) (rows_of x) e)

pub accepted_only : (x : Call) → Accepted x → has (λ r. r.applies) (rows_of x) ≡ false
unfolding verdict rows_of
accepted_only x e = found_none (λ r. r.applies) (rows_of x) (no_row x e)
