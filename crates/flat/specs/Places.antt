-- The places to go of a flat walk, in a column of their own, and what a step of it ensures. Definitions only.
use Rattle.std.specs.Prelude.{ℕ, zero, suc, ◌+◌, ◌*◌, ◌-◌, ◌≤◌, ◌<◌, ◌≡◌, cond, List, [], ◌∷◌, eqb, Option, Some, None, IfSome}
use Rattle.table.specs.Table.{cell, filled_to}
use Rattle.table.specs.Columns.{spare_column}
use Rattle.view.specs.Frame.{Only}
use Rattle.groups.specs.Walk.{walk_columns, Walk, walk, side, ungrouped, Ready}
use Rattle.flat.specs.declared.Going.{Going}

-- the column of the places: the one that the sorts work in, before and after step 6
abbrev pub places_column : ℕ
places_column = spare_column

-- the columns that the flat walks write
abbrev pub flat_columns : List ℕ
flat_columns = places_column ∷ walk_columns

-- the list with zeros for places
unfoldable pub blank : ℕ → List ℕ → List ℕ
blank rows w = filled_to rows places_column (λ _. 0) w rows

-- the first n places stored, the last of them first
unfoldable pub stack : ℕ → List ℕ → ℕ → List ℕ
stack rows w zero = []
stack rows w (suc n) = cell rows places_column n w ∷ stack rows w n

-- the sides that are left: the one to cross next, if there is one, and the n stored
unfoldable pub places : ℕ → List ℕ → Option ℕ → ℕ → List ℕ
places rows w None n = []
places rows w (Some k) n = k ∷ stack rows w n

-- how many these are, at most
abbrev pub left : Option ℕ → ℕ → ℕ
left None n = n
left (Some k) n = n + 1

-- the pending side steps, one after the other
unfoldable pub all : ℕ → (Walk → ℕ → Walk) → Walk → List ℕ → Walk
all rows step s [] = s
all rows step s (k ∷ ks) = all rows step (side rows step s k) ks

-- nothing is left, or the side stored last is the next to cross
unfoldable pub back : ℕ → ℕ → ℕ → List ℕ → Going
back rows stored count w = cond (eqb stored 0) (record { next = None; stored = 0; count = count }) (record { next = Some (cell rows places_column (stored - 1) w); stored = stored - 1; count = count })

-- so many sides are stored, each a side of the triangles, and there is a row for one more wherever a corner is ungrouped
pub record Stored (rows tris stored : ℕ) (w : List ℕ) : Type 0 where
  pub inside : (j : ℕ) → j < stored → cell rows places_column j w < 3 * tris
  pub room : stored + ungrouped rows w ≤ rows

-- what a step of the walk from w to u ensures: what is left to do is what `said` gives, at any depth above the number of ungrouped corners
pub record Goes (rows tris g stored : ℕ) (w u : List ℕ) (r : Going) (step : ℕ → Walk → ℕ → Walk) (said : ℕ → Walk) : Type 0 where
  pub is : (n : ℕ) → ungrouped rows w < n → all rows (step n) (walk (blank rows u) r.count) (places rows u r.next r.stored) ≡ said n
  pub ready : Ready rows tris g r.count u
  pub next : IfSome r.next (λ k. k < 3 * tris)
  pub kept : Stored rows tris r.stored u
  pub falls : 2 * ungrouped rows u + left r.next r.stored ≤ 2 * ungrouped rows w + stored
  pub fewer : ungrouped rows u ≤ ungrouped rows w
  pub only : Only flat_columns rows w u
