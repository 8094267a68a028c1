-- Step 4 of the old edition in the columns of the work list: rows in order, the box of their positions, pieces of the order. Definitions only.
use Rattle.std.specs.Prelude.{◌≡◌, ℕ, suc, ◌+◌, ◌-◌, ◌*◌, ◌<◌, ◌≤◌, min, cond, List, [], ◌∷◌, take, nat_le, nat_lt, slice_index, slice_set, Float}
use Rattle.std.specs.Float.Ieee as Ieee
use Rattle.math.specs.declared.Vec3.{Vec3}
use Rattle.math.specs.Vector.{vec}
use Rattle.lists.specs.Lists.{first}
use Rattle.definition.specs.declared.Corner.{Corner}
use Rattle.definition.specs.Handed.{vector_at}
use Rattle.definition.specs.Mesh.{Third, one, two, three}
use Rattle.definition.specs.Step4Old.{Box, Merging, halved, Way, leave, weld, cut, side_of, same_values, or_row, merge, merge_runs, bucket_in, merged_rows}
use Rattle.definition.specs.Step5Old.{numbers_from}
use Rattle.definition.specs.Step5Sorted.{sorted_by}
use Rattle.table.specs.Table.{column}
use Rattle.table.specs.Columns.{corner_column, into_column, order_column, spare_column, lower_column, higher_column}
use Rattle.view.specs.Frame.{Only}
use Rattle.weld.specs.Welding.{corner_in}
use Rattle.std.specs.declared.option.Option.{Option}
use Rattle.std.specs.declared.option.Option.TheVariants.{None, Some}
use Rattle.merge.specs.declared.Axis.{Axis}
use Rattle.merge.specs.declared.Axis.TheVariants.{X, Y, Z}
use Rattle.merge.specs.declared.Extent.{Extent}
use Rattle.merge.specs.declared.Action.{Action}
use Rattle.merge.specs.declared.Action.TheVariants.{Leave, Merge, Part}
use Rattle.merge.specs.declared.Buckets.{Buckets}

-- ---- rows

-- the corner of row r
unfoldable pub corner_of_row : List Float → List Float → List Float → ℕ → List ℕ → ℕ → Corner
corner_of_row ps ns ts rows w = corner_in ps ns ts (column rows corner_column w)

-- its position
unfoldable pub place_of_row : List Float → ℕ → List ℕ → ℕ → Vec3
place_of_row ps rows w r = vector_at ps (slice_index (column rows corner_column w) r)

-- the first n rows in their order
abbrev pub order : ℕ → ℕ → List ℕ → List ℕ
order rows n w = take n (column rows order_column w)

-- the rows that the first n are merged with
abbrev pub into : ℕ → ℕ → List ℕ → List ℕ
into rows n w = take n (column rows into_column w)

-- both
abbrev pub standing : ℕ → ℕ → List ℕ → Merging
standing rows n w = record { rows = order rows n w; into = into rows n w }

-- ---- the box

-- the coordinate
abbrev pub third_of : Axis → Third
third_of X = one
third_of Y = two
third_of Z = three

-- the box of two vectors
abbrev pub box_in : Extent → Box
box_in b = record { low = b.low; high = b.high }

-- x where it is below m, else m
unfoldable pub smaller : Float → Float → Float
smaller m x = cond (Ieee.lt x m) x m

-- x where it is above m, else m
unfoldable pub larger : Float → Float → Float
larger m x = cond (Ieee.lt m x) x m

-- an extent that takes in one position more
unfoldable pub wider : Extent → Vec3 → Extent
wider b v =
    record {
      low = vec (smaller b.low.x v.x) (smaller b.low.y v.y) (smaller b.low.z v.z);
      high = vec (larger b.high.x v.x) (larger b.high.y v.y) (larger b.high.z v.z);
    }

-- the bucket of a row at position P
abbrev pub bucket_by : Buckets → (ℕ → Vec3) → ℕ → ℕ
bucket_by b P = bucket_in (box_in b.extent) (third_of b.axis) P

-- a number, at most 2,047
unfoldable pub within : ℕ → ℕ
within k = min 2047 k

-- what is done with rows
abbrev pub way_of : Action → Way
way_of Leave = leave
way_of Merge = weld
way_of (Part k) = cut (third_of k.axis) k.at

-- ---- columns

-- what an exchange alters
abbrev pub order_alone : List ℕ
order_alone = order_column ∷ []

-- what merging the rows of a leaf alters
abbrev pub into_alone : List ℕ
into_alone = into_column ∷ []

-- what a turn alters
abbrev pub turn_columns : List ℕ
turn_columns = into_column ∷ order_column ∷ []

-- what the merging of a piece alters
abbrev pub piece_columns : List ℕ
piece_columns = into_column ∷ order_column ∷ spare_column ∷ []

-- what sorting by bucket alters
abbrev pub sort_columns : List ℕ
sort_columns = order_column ∷ spare_column ∷ lower_column ∷ higher_column ∷ []

-- what all of it alters
abbrev pub merge_columns : List ℕ
merge_columns = into_column ∷ order_column ∷ spare_column ∷ lower_column ∷ higher_column ∷ []

-- ---- a leaf

-- one row of a leaf merged with the first of its rows l that is equal to it
abbrev pub merged_one : (ℕ → Corner) → List ℕ → List ℕ → ℕ → List ℕ
merged_one C l into r = slice_set into r (or_row r (first (λ q. same_values (C r) (C q)) l))

-- ---- two parts

-- a turn of the halving from the places s and e to t and d: what is left to part gives the same, with one turn less
pub record Exchanged (P : ℕ → Vec3) (c : Third) (x : Float) (rows n s e t d : ℕ) (w u : List ℕ) : Type 0 where
  pub same : (f : ℕ) → halved (suc f) (side_of P c x) (order rows n w) s e ≡ halved f (side_of P c x) (order rows n u) t d
  pub only : Only order_alone rows w u
  pub low : s ≤ t
  pub high : d ≤ e
  pub within : t ≤ e
  pub less : d - t < e - s

-- in the midst of it: w₀ was the list
pub record Halving (P : ℕ → Vec3) (c : Third) (x : Float) (rows n from to s e : ℕ) (w₀ w : List ℕ) : Type 0 where
  pub fuel : ℕ
  pub same : halved (to - from) (side_of P c x) (order rows n w₀) from to ≡ halved fuel (side_of P c x) (order rows n w) s e
  pub room : e - s ≤ fuel
  pub only : Only order_alone rows w₀ w
  pub low : from ≤ s
  pub within : s ≤ to
  pub high : e ≤ to

-- both parts, once made: the second begins at place m
pub record Halved (P : ℕ → Vec3) (c : Third) (x : Float) (rows n from to m : ℕ) (w u : List ℕ) : Type 0 where
  pub is : halved (to - from) (side_of P c x) (order rows n w) from to ≡ record { list = order rows n u; at = m }
  pub only : Only order_alone rows w u

-- ---- pieces

-- pieces of the order that follow each other, from place a on: their ends are given, and each is merged in its turn
unfoldable pub in_turn : (ℕ → Corner) → ℕ → List ℕ → Merging → Merging
in_turn C a [] m = m
in_turn C a (e ∷ es) m = in_turn C e es (merge (e - a) C a e m)

-- what a turn does with the rows at places from a up to e, which are two lists m before it and k after it: the piece is done, or it is in two parts, of which the second begins at place p
pub record Turned (C : ℕ → Corner) (a e : ℕ) (at : Option ℕ) (m k : Merging) : Type 0 where
  pub settled : at ≡ None → (es : List ℕ) → in_turn C a (e ∷ es) m ≡ in_turn C e es k
  pub parted : (p : ℕ) → at ≡ Some p → (es : List ℕ) → in_turn C a (e ∷ es) m ≡ in_turn C a (p ∷ e ∷ es) k
  pub low : (p : ℕ) → at ≡ Some p → a < p
  pub high : (p : ℕ) → at ≡ Some p → p < e

-- the ends of the pieces that follow place e up to place `to`, in a list l: the end of each stands at the place where it begins
pub data Kept (l : List ℕ) (to : ℕ) : ℕ → List ℕ → Type 0 where
  last : Kept l to to []
  next : (e : ℕ) (es : List ℕ) → e < slice_index l e → slice_index l e ≤ to → Kept l to (slice_index l e) es → Kept l to e (slice_index l e ∷ es)

-- in the midst of merging a piece: `whole` is what is left in the end, w₀ was the list; the rows from place a up to place e are next
pub record Going (C : ℕ → Corner) (rows n to : ℕ) (whole : Merging) (w₀ w : List ℕ) (a e : ℕ) : Type 0 where
  pub ends : List ℕ
  pub kept : Kept (column rows spare_column w) to e ends
  pub same : in_turn C a (e ∷ ends) (standing rows n w) ≡ whole
  pub low : a ≤ e
  pub apart : a < to → a < e
  pub high : e ≤ to
  pub only : Only piece_columns rows w₀ w

-- what falls with each turn: the places that are left, then those of the piece that is next
unfoldable pub weight : ℕ → ℕ → ℕ → ℕ
weight to a e = (to - a) * suc to + (e - a)

-- a turn and what is next, from the piece at places a and e to that at b and d
pub record Went (C : ℕ → Corner) (rows n to a e b d : ℕ) (w u : List ℕ) : Type 0 where
  pub goes : (whole : Merging) (w₀ : List ℕ) → Going C rows n to whole w₀ w a e → Going C rows n to whole w₀ u b d
  pub less : (whole : Merging) (w₀ : List ℕ) → Going C rows n to whole w₀ w a e → weight to b d < weight to a e
  pub only : Only piece_columns rows w u

-- what merging a piece ensures
pub record MergedPiece (C : ℕ → Corner) (rows n from to : ℕ) (w u : List ℕ) : Type 0 where
  pub is : standing rows n u ≡ merge (to - from) C from to (standing rows n w)
  pub only : Only piece_columns rows w u

-- in the midst of the runs of equal buckets B: `whole` is what is left in the end, w₀ was the list; the run at place i is next
pub record Running (B : ℕ → ℕ) (C : ℕ → Corner) (rows n : ℕ) (whole : Merging) (w₀ w : List ℕ) (i : ℕ) : Type 0 where
  pub fuel : ℕ
  pub room : n - i ≤ fuel
  pub same : cond (nat_lt i n) (merge_runs fuel B C n (standing rows n w) i) (standing rows n w) ≡ whole
  pub high : i ≤ n
  pub only : Only piece_columns rows w₀ w

-- what merging the runs ensures
pub record MergedRuns (B : ℕ → ℕ) (C : ℕ → Corner) (rows n : ℕ) (w u : List ℕ) : Type 0 where
  pub is : standing rows n u ≡ merge_runs n B C n (standing rows n w) 0
  pub only : Only piece_columns rows w u

-- what sorting by bucket ensures
pub record SortedRows (B : ℕ → ℕ) (rows n : ℕ) (w u : List ℕ) : Type 0 where
  pub is : order rows n u ≡ sorted_by (λ x y. nat_le (B x) (B y)) (numbers_from 0 n)
  pub only : Only sort_columns rows w u

-- what `merge_rows` ensures
pub record Merged (rows n : ℕ) (ps ns ts : List Float) (w u : List ℕ) : Type 0 where
  pub is : into rows n u ≡ merged_rows (corner_in ps ns ts (column rows corner_column w)) n
  pub only : Only merge_columns rows w u
