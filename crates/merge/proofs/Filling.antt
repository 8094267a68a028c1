-- A column that is filled leaves the rows' positions. Assumes nothing.
use Rattle.std.proofs.Common.{◌≡◌, ℕ, ◌<◌, ◌≤◌, false, List, arith}
use Rattle.lists.specs.Loops.{list_of}
use Rattle.lists.proofs.Loops.{length-list_of}
use Rattle.table.specs.Table.{filled_to}
use Rattle.table.specs.Columns.{columns}
use Rattle.view.specs.Frame.{Only, outside}
use Rattle.view.proofs.Frame.{only-run}

-- it alters that column alone
pub fill-only : (ks : List ℕ) (rows j : ℕ) (h : ℕ → ℕ) (w u : List ℕ) (k : ℕ) → outside ks j ≡ false → j < columns → k ≤ rows → u ≡ filled_to rows j h w k → Only ks rows w u
fill-only ks rows j h w u k out below le e = only-run ks rows j 0 w u (list_of k h) out below (let z = length-list_of k h in omega (arith, z)) e
