-- The examination of the three lists where the triangles stand in the columns. rows of the columns, n sound triangles, w the work list, L, G, O the words handed in. Definitions only.
use Rattle.std.specs.Prelude.{ℕ, ◌≡◌, List, ◌++◌}
use Rattle.neighbors.specs.Sides.{step_columns}
use Rattle.asked.specs.Lowest.{Verdict, Stage}
use Rattle.asked.specs.Links.{Equal}
use Rattle.asked.specs.Groups.{Connected}
use Rattle.asked.specs.Objections.{Applies}
use Rattle.fellows.specs.Fellows.{applies_here, group_columns}

-- number and place are those of objection 1, or 0 where it does not apply
pub record OnLengths (n : ℕ) (L G O : List ℕ) (number place : ℕ) : Type 0 where
  pub stage : (vertex any way : ℕ → ℕ) → Stage (Applies n (Equal vertex) any way L G O) 13 1 2 number place

-- the verdict; and where it is 0 every group is connected
pub record Overall (rows n : ℕ) (w L G O : List ℕ) (number place : ℕ) : Type 0 where
  pub verdict : Verdict (applies_here rows n w L G O) 13 number place
  pub connected : number ≡ 0 → Connected n L G

-- the columns that are written
abbrev pub all_columns : List ℕ
all_columns = step_columns ++ group_columns
