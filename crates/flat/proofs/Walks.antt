-- The whole flat walk from a corner: step after step, until nothing is left. Assumes nothing.
use Prim.Native.Nat.{ℕ, suc, ◌*◌, ◌≤◌, ◌<◌}
use native.Mathlib.Nat.{le_refl}
use native.Mathlib.Omega.{arith}
use mathlib.Core.Path.{◌≡◌, refl, sym, ap, ◌∙◌, subst}
use Rattle.std.specs.Prelude.{Option, Some, None, IfSome}
use mathlib.Core.List.{List}
use lib.ListN.{length}
use Rattle.table.specs.Columns.{columns}
use Rattle.view.proofs.Frame.{only_none, only-trans}
use Rattle.groups.specs.Walk.{Walk, walk, corner, ungrouped, Ready, Steps}
use Rattle.groups.proofs.Laws.{ungrouped-le}
use Rattle.flat.specs.declared.Going.{Going}
use Rattle.flat.specs.Places.{flat_columns, blank, stack, places, left, all, Stored, Goes}
use Rattle.flat.proofs.Blank.{blank-ungrouped, blank-ready}
use Rattle.flat.proofs.Fuel.{enough}

-- at first no side is stored
pub none-stored : (rows tris : ℕ) (w : List ℕ) → columns * rows ≤ length w → Stored rows tris 0 w
none-stored rows tris w long = record { inside = λ j h. absurd (omega arith); room = omega (arith, ungrouped-le rows w long) }

-- what is left to do
abbrev Todo : ℕ → (ℕ → Walk → ℕ → Walk) → List ℕ → Going → ℕ → Walk
Todo rows step w s m = all rows (step m) (walk (blank rows w) s.count) (places rows w s.next s.stored)

-- no step
pub goes_none : (rows tris g : ℕ) (w : List ℕ) (s : Going) (step : ℕ → Walk → ℕ → Walk) → Ready rows tris g s.count w → IfSome s.next (λ k. k < 3 * tris) → Stored rows tris s.stored w → Goes rows tris g (left s.next s.stored) w w s step (Todo rows step w s)
goes_none rows tris g w s step R n L = record { is = λ m l. refl; ready = R; next = n; kept = L; falls = le_refl _; fewer = le_refl _; only = only_none flat_columns rows w }

-- as many as are stored are left
stored-le : (o : Option ℕ) (n : ℕ) → n ≤ left o n
stored-le None n = omega arith
stored-le (Some k) n = omega arith

-- one step more
pub goes-trans : (rows tris g stored : ℕ) (w u z : List ℕ) (r x : Going) (step : ℕ → Walk → ℕ → Walk) (said : ℕ → Walk) → Goes rows tris g stored w u r step said → Goes rows tris g r.stored u z x step (Todo rows step u r) → Goes rows tris g stored w z x step said
goes-trans rows tris g stored w u z r x step said G H = record {
  is = λ m l. H.is m (omega (arith, G.fewer)) ∙ G.is m l;
  ready = H.ready;
  next = H.next;
  kept = H.kept;
  falls = omega (arith, G.falls, H.falls, stored-le r.next r.stored);
  fewer = omega (arith, G.fewer, H.fewer);
  only = only-trans flat_columns rows w u z G.only H.only;
}

-- nothing is left
done : (rows m : ℕ) (w : List ℕ) (step : Walk → ℕ → Walk) (s : Walk) (o : Option ℕ) → o ≡ None → all rows step s (places rows w o m) ≡ s
unfolding all places
done rows m w step s o e = ap (λ (p : Option ℕ). all rows step s (places rows w p m)) e

first : (rows : ℕ) (w : List ℕ) (step : Walk → ℕ → Walk) (s : Walk) → all rows step s (stack rows w 0) ≡ s
unfolding all stack
first rows w step s = refl

-- the walk is the corner step of `groups`, on the lists with no places
pub goes_end : (rows tris g v o t n : ℕ) (w u z : List ℕ) (r s : Going) → t < tris → Ready rows tris g n w
    → Goes rows tris g 0 w u r (corner rows g v o) (λ m. all rows (corner rows g v o m) (corner rows g v o m (walk (blank rows w) n) t) (stack rows w 0))
    → Goes rows tris g (left r.next r.stored) u z s (corner rows g v o) (Todo rows (corner rows g v o) u r)
    → s.next ≡ None
    → Steps rows (walk (blank rows w) n) (walk (blank rows z) s.count) (λ m. corner rows g v o m (walk (blank rows w) n) t)
goes_end rows tris g v o t n w u z r s h R G I l =
    let m = suc (ungrouped rows w) in
    let S = enough rows tris g v o m (blank rows w) n t h (blank-ready rows tris g n w R) (omega (arith, blank-ungrouped rows w)) in
    let e : walk (blank rows z) s.count ≡ corner rows g v o m (walk (blank rows w) n) t = sym (done rows s.stored z (corner rows g v o m) (walk (blank rows z) s.count) s.next l) ∙ I.is m (omega (arith, G.fewer)) ∙ G.is m (omega arith) ∙ first rows w (corner rows g v o m) (corner rows g v o m (walk (blank rows w) n) t) in
    subst (λ (y : Walk). Steps rows (walk (blank rows w) n) y (λ k. corner rows g v o k (walk (blank rows w) n) t)) (sym e) S
