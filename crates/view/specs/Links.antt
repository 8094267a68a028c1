-- The column of links: step 5. Definitions only.
use Rattle.std.specs.Prelude.{ℕ, suc, ◌<◌, List, ◌++◌, length}
use Rattle.std.proofs.Math.Option.{Option, none, some}
use Rattle.table.specs.Table.{cell}
use Rattle.table.specs.Columns.{link_column}
use Rattle.definition.specs.Handed.{Handed}
use Rattle.definition.specs.declared.Triangle.{Triangle}
use Rattle.definition.specs.Mesh.{Third, Spot}
use Rattle.definition.specs.Step4Order.{sound, broken}
use Rattle.definition.specs.Step5Links.{Link, beyond, links}
use Rattle.definition.specs.Names.{Names}
use Rattle.view.specs.Rows.{row, spot_at}
use Rattle.view.specs.Records.{Held}
use Rattle.view.specs.Weld.{Vertices, Sharp}

-- the word of an optional side: 0 where there is none, else its row and one
pub data LinkWord (ss : List Triangle) (d : Triangle) : Option Spot → ℕ → Type 0 where
  nowhere : LinkWord ss d none 0
  towards : (u : ℕ) (j : Third) → u < length ss → LinkWord ss d (some (spot_at ss d u j)) (suc (row u j))

-- the column stands for the links ls: at the row of each side of the triangles stands the side beyond it
abbrev pub Linked : ℕ → List Triangle → Triangle → List Link → List ℕ → Type 0
Linked rows ss d ls w = (t : ℕ) (i : Third) → t < length ss → LinkWord ss d (beyond ls (spot_at ss d t i)) (cell rows link_column (row t i) w)

-- what steps 1 to 5 leave of the triangles xs of all faces, for the lists handed in: sound ones first, then degenerate ones; their vertices; the links of the sound ones
pub record Five (rows : ℕ) (mesh : Handed) (xs : List Triangle) (d : Triangle) (w : List ℕ) : Type 0 where
  pub held : Held rows mesh (sound xs ++ broken xs) d w
  pub vertices : Vertices rows (sound xs ++ broken xs) d w
  pub names : Names (sound xs)
  pub sharp : Sharp (sound xs) d
  pub linked : Linked rows (sound xs) d (links (sound xs)) w
