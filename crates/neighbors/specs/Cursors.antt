-- Two cursors in the order of the sides, and what is known of the places between them. Definitions only.
use Rattle.std.specs.Prelude.{ℕ, ◌+◌, ◌≤◌, ◌<◌, ◌≡◌, true, List, [], ◌∷◌}
use Rattle.lists.specs.Loops.{up_to}
use Rattle.table.specs.Table.{cell}
use Rattle.table.specs.Columns.{vertex_column, link_column}
use Rattle.view.specs.Frame.{Only}
use Rattle.neighbors.specs.Links.{side_at, same_ends, turn, Ready}

-- the sides at two places have the same ends and, where both are unlinked, start at the same vertex
pub record Like (rows : ℕ) (w : List ℕ) (a b : ℕ) : Type 0 where
  pub ends : same_ends rows (side_at rows w a) (side_at rows w b) w ≡ true
  pub start : cell rows link_column (side_at rows w a) w ≡ 0 → cell rows link_column (side_at rows w b) w ≡ 0 → cell rows vertex_column (side_at rows w a) w ≡ cell rows vertex_column (side_at rows w b) w

-- where the cursors may stand: the places from near on, up to far, are like each other
pub record Stands (rows n near far : ℕ) (w : List ℕ) : Type 0 where
  pub ready : Ready rows n w
  pub first : near ≤ n
  pub second : far ≤ n
  pub likes : (a b : ℕ) → near ≤ a → a < b → b < far → Like rows w a b

-- a step of the cursors, from the list w to u: where w has the turns of all places below near, u has those of all below nearer; they stand as they may, their sum grows, and nothing but links is stored
pub record Moves (rows n near far nearer farther : ℕ) (w u : List ℕ) : Type 0 where
  pub turns : (v : List ℕ) → w ≡ up_to near (turn rows n) v → u ≡ up_to nearer (turn rows n) v
  pub stands : Stands rows n nearer farther u
  pub less : near + far < nearer + farther
  pub only : Only (link_column ∷ []) rows w u
