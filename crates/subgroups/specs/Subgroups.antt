-- A member's subgroup and its sum, by the words of the columns. Definitions only.
use Rattle.std.specs.Prelude.{ℕ, ◌+◌, ◌*◌, ◌/◌, ◌<◌, ◌≡◌, Bool, cond, ◌&&◌, ◌||◌, List, eqb, Float}
use Rattle.std.proofs.lemmas.List.Edits.{sets}
use Rattle.std.specs.Float.Ieee as Ieee
use Rattle.bits.specs.Word.{number}
use Rattle.math.specs.Vector.{dot}
use Rattle.tangent.specs.declared.RawTangentSpace.{RawTangentSpace}
use Rattle.tangent.specs.declared.Evaluated.{Evaluated}
use Rattle.tangent.specs.Slot.{flag}
use Rattle.lists.specs.Loops.{up_to, list_of}
use Rattle.table.specs.Table.{cell}
use Rattle.table.specs.Columns.{name_column, magnitude_column, any_column, met_column, order_column, opening_column, joined_column}
use Rattle.definition.specs.declared.Sum.{Sum}
use Rattle.definition.specs.Step7Sums.{empty_sum, finish}
use Rattle.sums.specs.Sums.{weighed_by}
use Rattle.view.specs.Contributions.{s_at, t_at}
use Rattle.subgroups.specs.declared.Peer.{Peer}

-- what the test of a pair asks of the corner at row r
unfoldable pub peer_at : ℕ → ℕ → List ℕ → Peer
peer_at rows r w = record { any = eqb (cell rows any_column (r / 3) w) 1; face = cell rows name_column (3 * (r / 3)) w; s = s_at rows r w; t = t_at rows r w }

-- 'either `group_with_any`, the same face, or both projected cosines strictly above the threshold', with directions that are projected already
unfoldable pub joins_by : Float → Peer → Peer → Bool
joins_by h a b = a.any || b.any || eqb a.face b.face || Ieee.lt h (dot a.s b.s) && Ieee.lt h (dot a.t b.t)

-- whether the p-th in triangle order joins the member m
unfoldable pub joins_at : ℕ → Float → Peer → ℕ → List ℕ → Bool
joins_at rows h m p w = joins_by h m (peer_at rows (cell rows order_column p w) w)

-- its mark
unfoldable pub mark_of : ℕ → Float → Peer → ℕ → List ℕ → ℕ
mark_of rows h m p w = flag (joins_at rows h m p w)

-- the first `to` members, as met and in triangle order, are rows
pub record Ranged (rows to : ℕ) (w : List ℕ) : Type 0 where
  pub met : (p : ℕ) → p < to → cell rows met_column p w < rows
  pub order : (p : ℕ) → p < to → cell rows order_column p w < rows

-- n marks stand from a place on
abbrev pub Marked : ℕ → Float → Peer → ℕ → ℕ → List ℕ → List ℕ → Type 0
Marked rows h m from n w u = u ≡ sets w (joined_column * rows + from) (list_of n (λ k. mark_of rows h m (from + k) w))

-- the tangent space that the corner at row r brings: projected directions, its triangle's magnitudes
unfoldable pub space_at : ℕ → List ℕ → ℕ → RawTangentSpace
space_at rows w r = record { s = s_at rows r w; t = t_at rows r w; s_magnitude = number (cell rows magnitude_column (3 * (r / 3)) w); t_magnitude = number (cell rows magnitude_column (3 * (r / 3) + 1) w) }

-- its contribution; none of a `group_with_any` triangle
unfoldable pub add_row : ℕ → List ℕ → ℕ → Sum → Sum
add_row rows w r z = cond (eqb (cell rows any_column (r / 3) w) 1) z (weighed_by z (number (cell rows opening_column r w)) (space_at rows w r))

-- the contribution of the p-th in triangle order, if it is marked
unfoldable pub add_marked : ℕ → List ℕ → ℕ → Sum → Sum
add_marked rows w p z = cond (eqb (cell rows joined_column p w) 1) (add_row rows w (cell rows order_column p w) z) z

-- the p-th in triangle order is taken: where all are, or where it is marked
unfoldable pub taken_at : ℕ → Bool → List ℕ → ℕ → Bool
taken_at rows all w p = all || eqb (cell rows joined_column p w) 1

-- its contribution then
unfoldable pub add_taken : ℕ → Bool → List ℕ → ℕ → Sum → Sum
add_taken rows all w p z = cond (taken_at rows all w p) (add_row rows w (cell rows order_column p w) z) z

-- the sum of all n from a place on, or of the marked ones, made a tangent space, and how many added to it
unfoldable pub taken_sum : ℕ → Bool → ℕ → ℕ → List ℕ → Evaluated
taken_sum rows all from n w = finish (up_to n (λ k. add_taken rows all w (from + k)) empty_sum)

-- the sum of the marked ones among n from a place on, made a tangent space, and how many added to it
unfoldable pub evaluated : ℕ → ℕ → ℕ → List ℕ → Evaluated
evaluated rows from n w = finish (up_to n (λ k. add_marked rows w (from + k)) empty_sum)

-- the contribution of the p-th in triangle order, if it joins the member m
unfoldable pub add_joined : ℕ → Float → Peer → List ℕ → ℕ → Sum → Sum
add_joined rows h m w p z = cond (joins_at rows h m p w) (add_row rows w (cell rows order_column p w) z) z

-- what the member at row r brings: the sum of those among n from a place on that join it
unfoldable pub value_of : ℕ → Float → ℕ → ℕ → ℕ → List ℕ → Evaluated
value_of rows h r from n w = finish (up_to n (λ k. add_joined rows h (peer_at rows r w) w (from + k)) empty_sum)
