-- Request E8: the flat walk of step 6 meets the same members in the same order as the old one, whose steps call each other, on every mesh. Definitions only.
use Rattle.std.specs.Prelude.{ℕ, ◌*◌, ◌≤◌, ◌<◌, ◌≡◌, List, length}
use Rattle.std.proofs.Math.Option.{none}
use Rattle.table.specs.Table.{cell}
use Rattle.table.specs.Columns.{rows_of, columns, link_column, met_column}
use Rattle.lists.specs.Loops.{up_to}
use Rattle.definition.specs.declared.Triangle.{Triangle}
use Rattle.definition.specs.Handed.{Handed}
use Rattle.definition.specs.Desk.{not_finite}
use Rattle.definition.specs.Step5Links.{Link}
use Rattle.laws.proofs.Closed.{Between}
use Rattle.definition.specs.Names.{Names}
use Rattle.view.specs.Weld.{Sharp}
use Rattle.grouped.specs.Links.{LeftByFive}
use Rattle.groups.specs.Marks.{Asked, Walked}
use Rattle.groups.specs.Walk.{State, turn, cleared}
use Rattle.flat.specs.Places.{blank}

-- what the contract of either walk says of what it leaves (`grouped` of `groups::build_4_rule_groups` and of `flat::build_4_rule_groups`): from the list w to u, of n sound triangles, so many groups and members
abbrev pub Walks : ℕ → ℕ → List ℕ → List ℕ → ℕ → ℕ → Type 0
Walks rows n w u groups members = (ss : List Triangle) (d : Triangle) (ls : List Link) → Between ss ls → length ss ≡ n → Names ss → Sharp ss d → Asked rows ss d ls w → Walked rows ss d ls w u groups members

-- as many members stand in u as in v, the same ones in the same order
pub record SameMembers (rows : ℕ) (u v : List ℕ) (members others : ℕ) : Type 0 where
  pub count : members ≡ others
  pub member : (j : ℕ) → j < members → cell rows met_column j u ≡ cell rows met_column j v

-- the promise: on every mesh that refusal 4 does not catch, over the list l that steps 1 to 5 leave (the contract of `grouped::link_mesh`), whatever one walk leaves and whatever the other
unfoldable pub Promised : Type 0
Promised = (mesh : Handed) (n m : ℕ) (w l : List ℕ) → LeftByFive mesh n m w l → not_finite mesh ≡ none
    → (u v : List ℕ) (groups members groups' members' : ℕ) → Walks (rows_of (length mesh.sizes)) n l u groups members → Walks (rows_of (length mesh.sizes)) n l v groups' members' → SameMembers (rows_of (length mesh.sizes)) u v members members'

-- a state of step 6 with zeros for the places of the flat walk
abbrev pub without_places : ℕ → State → State
without_places rows s = record { work = blank rows s.work; groups = s.groups; members = s.members }

-- step 6 over a list: the groups are cleared, then each corner has its turn
abbrev pub stepped : ℕ → ℕ → List ℕ → State
stepped rows tris w = up_to (3 * tris) (turn rows) (record { work = w; groups = 0; members = 0 })

-- besides, of every list whatever that has room and whose links are in range, a mesh's or not: what the flat walk leaves without its places (`is` of `flat::walk_all`) is what the old one leaves (`is` of `groups::walk_all`) without them, word for word, and so are both counts
unfoldable pub SameWords : Type 0
SameWords = (rows tris : ℕ) (w : List ℕ) (old flat : State) → 3 * tris ≤ rows → columns * rows ≤ length w → rows < 4294967295 → ((k : ℕ) → k < 3 * tris → cell rows link_column k w ≤ 3 * tris)
    → old ≡ stepped rows tris (cleared rows w)
    → flat ≡ stepped rows tris (blank rows (cleared rows w))
    → flat ≡ without_places rows old
