-- A triangle in the columns: 20 words, in the three rows of its number or in the one. Definitions only.
use Rattle.std.specs.Prelude.{ℕ, ◌+◌, ◌*◌, ◌<◌, ◌≡◌, Bool, List, [], ◌∷◌, length, get_or, take, drop, Float}
use Rattle.bits.specs.Word.{word, number as number_of}
use Rattle.math.specs.declared.Vec3.{Vec3}
use Rattle.tangent.specs.declared.RawTangentSpace.{RawTangentSpace}
use Rattle.tangent.specs.Slot.{flag, vector_of}
use Rattle.tangent.specs.Held.{HeldSpace}
use Rattle.table.specs.Table.{cell, column}
use Rattle.table.specs.Columns.{corner_column, slot_column, name_column, s_column, t_column, magnitude_column, orientation_column, any_column}
use Rattle.definition.specs.declared.Triangle.{Triangle}
use Rattle.definition.specs.Mesh.{Third, kept}
use Rattle.definition.specs.Handed.{Handed, vector_at, corner_at, corner_count, slot_count}
use Rattle.view.specs.Rows.{row}

-- the three words of triangle t in column k
unfoldable pub three_words : ℕ → ℕ → ℕ → List ℕ → List ℕ
three_words rows k t w = take 3 (drop (3 * t) (column rows k w))

-- the numbers of its corners, or of their slots, where those of its face start at number `base`
abbrev pub numbers : ℕ → Triangle → List ℕ
numbers base x = (base + x.a.which) ∷ (base + x.b.which) ∷ (base + x.c.which) ∷ []

-- its face, whether it is the second of it, the corner it misses
abbrev pub names : Triangle → List ℕ
names x = x.face ∷ flag x.second ∷ x.missing ∷ []

-- a vector's three numbers
abbrev pub three_of : Vec3 → List ℕ
three_of v = word v.x ∷ word v.y ∷ word v.z ∷ []

-- the two magnitudes, and whether the quad is marked
abbrev pub lengths : RawTangentSpace → Bool → List ℕ
lengths g m = word g.s_magnitude ∷ word g.t_magnitude ∷ flag m ∷ []

-- the triangle's corners are those of the lists, from number `base` on
pub record From (ps ns ts : List Float) (base : ℕ) (x : Triangle) : Type 0 where
  pub small : (i : Third) → (kept x i).which < 4
  pub corner : (i : Third) → (kept x i).corner ≡ corner_at ps ns ts (base + (kept x i).which)

-- the columns hold x as triangle number t, for the lists handed in
pub record Stored (rows : ℕ) (mesh : Handed) (w : List ℕ) (t : ℕ) (x : Triangle) : Type 0 where
  pub corner : three_words rows corner_column t w ≡ numbers (corner_count (take x.face mesh.sizes)) x
  pub slot : three_words rows slot_column t w ≡ numbers (slot_count (take x.face mesh.sizes)) x
  pub name : three_words rows name_column t w ≡ names x
  pub along : three_words rows s_column t w ≡ three_of x.tangent.s
  pub up : three_words rows t_column t w ≡ three_of x.tangent.t
  pub long : three_words rows magnitude_column t w ≡ lengths x.tangent x.marked
  pub way : cell rows orientation_column t w ≡ flag x.orientation
  pub loose : cell rows any_column t w ≡ flag x.any
  pub from : From mesh.positions mesh.normals mesh.texture (corner_count (take x.face mesh.sizes)) x
  pub held : HeldSpace x.tangent

-- the columns hold the triangles xs, in their order; d is any triangle
abbrev pub Held : ℕ → Handed → List Triangle → Triangle → List ℕ → Type 0
Held rows mesh xs d w = (t : ℕ) → t < length xs → Stored rows mesh w t (get_or xs t d)

-- the columns of a triangle
abbrev pub record_columns : List ℕ
record_columns = corner_column ∷ slot_column ∷ name_column ∷ s_column ∷ t_column ∷ magnitude_column ∷ orientation_column ∷ any_column ∷ []

-- What the columns tell of x as triangle number t, for the lists handed in: all that steps 7 to 9 read of it but its corners. Its orientation, which step 6 alters, is not among it.
pub record Told (rows : ℕ) (mesh : Handed) (w : List ℕ) (t : ℕ) (x : Triangle) : Type 0 where
  pub number : (i : Third) → cell rows corner_column (row t i) w ≡ corner_count (take x.face mesh.sizes) + (kept x i).which
  pub slot : (i : Third) → cell rows slot_column (row t i) w ≡ slot_count (take x.face mesh.sizes) + (kept x i).which
  pub face : cell rows name_column (3 * t) w ≡ x.face
  pub missing : cell rows name_column (3 * t + 2) w ≡ x.missing
  pub along : vector_of (cell rows s_column (3 * t) w) (cell rows s_column (3 * t + 1) w) (cell rows s_column (3 * t + 2) w) ≡ x.tangent.s
  pub up : vector_of (cell rows t_column (3 * t) w) (cell rows t_column (3 * t + 1) w) (cell rows t_column (3 * t + 2) w) ≡ x.tangent.t
  pub s_long : number_of (cell rows magnitude_column (3 * t) w) ≡ x.tangent.s_magnitude
  pub t_long : number_of (cell rows magnitude_column (3 * t + 1) w) ≡ x.tangent.t_magnitude
  pub marked : cell rows magnitude_column (3 * t + 2) w ≡ flag x.marked
  pub loose : cell rows any_column t w ≡ flag x.any

-- of the triangles xs, in their order
abbrev pub Tells : ℕ → Handed → List Triangle → Triangle → List ℕ → Type 0
Tells rows mesh xs d w = (t : ℕ) → t < length xs → Told rows mesh w t (get_or xs t d)

-- its corners are those of the lists, by the numbers in their column
abbrev pub Cornered : ℕ → Handed → List ℕ → ℕ → Triangle → Type 0
Cornered rows mesh w t x = (i : Third) → (kept x i).corner ≡ corner_at mesh.positions mesh.normals mesh.texture (cell rows corner_column (row t i) w)

-- of the triangles xs, in their order
abbrev pub Corners : ℕ → Handed → List Triangle → Triangle → List ℕ → Type 0
Corners rows mesh xs d w = (t : ℕ) → t < length xs → Cornered rows mesh w t (get_or xs t d)

-- What step 7 reads of x as triangle number t: its directions, and the positions and normals of its corners by the numbers in column k.
pub record Reads (rows k : ℕ) (ps ns : List Float) (w : List ℕ) (t : ℕ) (x : Triangle) : Type 0 where
  pub place : (i : Third) → (kept x i).corner.place ≡ vector_at ps (cell rows k (row t i) w)
  pub normal : (i : Third) → (kept x i).corner.normal ≡ vector_at ns (cell rows k (row t i) w)
  pub along : vector_of (cell rows s_column (3 * t) w) (cell rows s_column (3 * t + 1) w) (cell rows s_column (3 * t + 2) w) ≡ x.tangent.s
  pub up : vector_of (cell rows t_column (3 * t) w) (cell rows t_column (3 * t + 1) w) (cell rows t_column (3 * t + 2) w) ≡ x.tangent.t

-- the columns of a triangle but for its orientation
abbrev pub told_columns : List ℕ
told_columns = corner_column ∷ slot_column ∷ name_column ∷ s_column ∷ t_column ∷ magnitude_column ∷ any_column ∷ []
