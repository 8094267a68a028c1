-- What the columns stand for once rows are merged: the definition's merging of the corners of the triangles that they hold. Assumes nothing.
use Rattle.std.proofs.Common.{◌≡◌, ℕ, zero, suc, ◌*◌, ◌/◌, ◌%◌, ◌<◌, ◌≤◌, List, [], ◌∷◌, map, length, get_or, sym, refl, ap, ◌∙◌, arith}
use lib.Ieee.{Float}
use Rattle.table.specs.Table.{column}
use Rattle.table.specs.Columns.{corner_column}
use Rattle.table.proofs.Laws.{get_or-column}
use Rattle.definition.specs.declared.Corner.{Corner}
use Rattle.definition.specs.declared.Triangle.{Triangle}
use Rattle.definition.specs.Mesh.{Spot, corner_of}
use Rattle.definition.specs.Handed.{handed, corner_at}
use Rattle.definition.specs.Step4Order.{spots}
use Rattle.definition.specs.Step4Old.{merged_rows}
use Rattle.view.specs.Rows.{third, spot_row}
use Rattle.view.specs.Records.{Held}
use Rattle.view.proofs.Rows.{row_is, tri-lt, spots-at, spots-length}
use Rattle.view.proofs.Records.{corner-is}
use Rattle.weld.specs.Welding.{corner_in, corner_row}
use Rattle.merge.specs.Rows.{into, Merged}
use Rattle.merge.proofs.Agree.{merged-agree}

-- the corner at a place of a list of corners of triangles
pub corner-at : (l : List Spot) (k : ℕ) (z : Corner) (e : Spot) → k < length l → get_or (map corner_of l) k z ≡ corner_of (get_or l k e)
corner-at [] k z e h = absurd (omega arith)
corner-at (s ∷ l) zero z e h = refl
corner-at (s ∷ l) (suc k) z e h = corner-at l k z e (omega arith)

module _ (rows n : ℕ) (ps ns ts : List Float) (sizes : List ℕ) (xs : List Triangle) (d : Triangle) (w u : List ℕ) (nr : n ≤ rows) (e : 3 * length xs ≡ n) (H : Held rows (handed sizes ps ns ts) xs d w) where
  -- the corner of a row is that of the triangle
  corner-held : (k : ℕ) → k < n → corner_in ps ns ts (column rows corner_column w) k ≡ corner_of (spot_row xs d k)
  corner-held k h =
      ap (corner_at ps ns ts) (get_or-column rows w corner_column k (omega arith))
      ∙ ap (corner_row ps ns ts rows w) (sym (row_is k))
      ∙ corner-is rows (handed sizes ps ns ts) xs d w H (omega (arith, e, nr)) (k / 3) (third (k % 3)) (tri-lt k (length xs) (omega (arith, e, h)))

  -- whatever stands past the last of them
  pub merged-means : (z : Corner) → Merged rows n ps ns ts w u → into rows n u ≡ merged_rows (λ r. get_or (map corner_of (spots xs)) r z) n
  merged-means z M =
      M.is
      ∙ merged-agree n (corner_in ps ns ts (column rows corner_column w)) (λ r. get_or (map corner_of (spots xs)) r z)
      (λ r h. corner-held r h ∙ sym (corner-at (spots xs) r z (spot_row xs d r) (let y = spots-length xs in omega (arith, y, e, h)) ∙ ap corner_of (spots-at xs d (spot_row xs d r) r (omega (arith, e, h)))))
