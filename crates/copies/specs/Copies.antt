-- Step 9 by the words of the work list and the answer list, and what it stands for. Definitions only.
use Rattle.std.specs.Prelude.{ℕ, ◌+◌, ◌*◌, ◌-◌, ◌<◌, ◌≡◌, true, false, cond, List, ◌++◌, eqb, ltb, length, get_or, take, Float}
use Rattle.math.specs.declared.Vec3.{Vec3}
use Rattle.math.specs.Vector.{equals}
use Rattle.tangent.specs.Held.{HeldReading}
use Rattle.lists.specs.Loops.{up_to}
use Rattle.table.specs.Table.{cell}
use Rattle.table.specs.Columns.{corner_column, slot_column, name_column, vertex_column}
use Rattle.definition.specs.declared.Kept.{Kept}
use Rattle.definition.specs.declared.Triangle.{Triangle}
use Rattle.definition.specs.Handed.{Handed, mesh_of, handed, vector_at, corner_at, corner_count}
use Rattle.definition.specs.Mesh.{Third, kept}
use Rattle.definition.specs.Triangles.{nook}
use Rattle.definition.specs.Frames.{triangles_of}
use Rattle.definition.specs.Step4Order.{sound, broken}
use Rattle.definition.specs.Step7Sums.{Brought}
use Rattle.definition.specs.Step8Slots.{reading}
use Rattle.records.specs.Fields.{marked_at}
use Rattle.slots.specs.Slots.{copied_at, cleared_at}
use Rattle.view.specs.Records.{Tells, Corners}
use Rattle.view.specs.Weld.{Vertices}
use Rattle.view.specs.Answer.{Shows, final_seen}

-- ---- degenerate triangles

-- the corner at row r has copied the first corner welded to it, where that is one of the first n triangles; else it is absent
unfoldable pub corner_copied : ℕ → ℕ → List ℕ → ℕ → List ℕ → List ℕ
corner_copied rows n w r a =
    let v = cell rows vertex_column r w in
    let to = cell rows slot_column r w in
    cond (ltb v (3 * n)) (copied_at false (cell rows slot_column v w) to a) (cleared_at to a)

-- the three corners of triangle t have, unless it is marked
unfoldable pub triangle_copied : ℕ → ℕ → List ℕ → ℕ → List ℕ → List ℕ
triangle_copied rows n w t a =
    let u = corner_copied rows n w (3 * t + 2) (corner_copied rows n w (3 * t + 1) (corner_copied rows n w (3 * t) a)) in
    cond (marked_at rows w t) a u

-- the triangles from number n on have, to the one before number t
unfoldable pub broken_copied : ℕ → ℕ → List ℕ → ℕ → List ℕ → List ℕ
broken_copied rows n w t a = up_to (t - n) (λ k. triangle_copied rows n w (n + k)) a

-- ---- marked quads

-- the number of the corner (or slot) that a triangle misses, from that of its first corner
unfoldable pub missed : ℕ → ℕ → ℕ
missed first missing = cond (eqb missing 0) (first - 1) (first + missing)

-- of triangle t: of its corners' numbers in column k
abbrev pub missed_at : ℕ → ℕ → List ℕ → ℕ → ℕ
missed_at rows k w t = missed (cell rows k (3 * t) w) (cell rows name_column (3 * t + 2) w)

-- the row of the first corner of triangle t at a position; its last where it is neither of the others
unfoldable pub kept_at : ℕ → List Float → List ℕ → ℕ → Vec3 → ℕ
kept_at rows ps w t v =
    cond (equals (vector_at ps (cell rows corner_column (3 * t) w)) v) (3 * t)
    (cond (equals (vector_at ps (cell rows corner_column (3 * t + 1) w)) v) (3 * t + 1)
    (3 * t + 2))

-- that of the corner at the position of the one it misses
abbrev pub equal_at : ℕ → List Float → List ℕ → ℕ → ℕ
equal_at rows ps w t = kept_at rows ps w t (vector_at ps (missed_at rows corner_column w t))

-- the missing corner of the quad of triangle t has copied that corner, if the quad is marked
unfoldable pub missing_copied : ℕ → List Float → List ℕ → ℕ → List ℕ → List ℕ
missing_copied rows ps w t a =
    let u = copied_at true (cell rows slot_column (equal_at rows ps w t) w) (missed_at rows slot_column w t) a in
    cond (marked_at rows w t) u a

-- those of the triangles before number t have
unfoldable pub missings_copied : ℕ → List Float → List ℕ → ℕ → List ℕ → List ℕ
missings_copied rows ps w t a = up_to t (missing_copied rows ps w) a

-- ---- the step

-- first the degenerate triangles, then the quads of the first n triangles
unfoldable pub frames_copied : ℕ → ℕ → ℕ → List Float → List ℕ → List ℕ → List ℕ
frames_copied rows n all ps w a = missings_copied rows ps w n (broken_copied rows n w all a)

-- What step 9 asks of step 4: the sound triangles us and the degenerate ones vs as step 4 left them, in the places of the mesh's own, and what each corner of a face is seen as
pub record Left (mesh : Handed) (d : Triangle) (us vs : List Triangle) (see : ℕ → Kept → Kept) : Type 0 where
  pub sound_count : length us ≡ length (sound (triangles_of mesh))
  pub broken_count : length vs ≡ length (broken (triangles_of mesh))
  -- the same faces, and the same corners of them
  pub face : (t : ℕ) → t < length (us ++ vs) → (get_or (us ++ vs) t d).face ≡ (get_or (sound (triangles_of mesh) ++ broken (triangles_of mesh)) t d).face
  pub which : (t : ℕ) (i : Third) → t < length (us ++ vs) → (kept (get_or (us ++ vs) t d) i).which ≡ (kept (get_or (sound (triangles_of mesh) ++ broken (triangles_of mesh)) t d) i).which
  -- a corner is seen as the triangle's of which it is one
  pub seen : (t : ℕ) (i : Third) → t < length (us ++ vs) → let x = get_or (sound (triangles_of mesh) ++ broken (triangles_of mesh)) t d in (see x.face (kept x i)).corner ≡ (kept (get_or (us ++ vs) t d) i).corner
  -- with its own number, and, where it is a corner of the lists, at an equal position
  pub same : (f : ℕ) (k : Kept) → (see f k).which ≡ k.which
  pub place : (f j : ℕ) (p : Vec3) → let k = nook j (corner_at mesh.positions mesh.normals mesh.texture (corner_count (take f mesh.sizes) + j)) in equals p (see f k).corner.place ≡ equals p k.corner.place

-- What is left in the answer list, where the columns hold the triangles of a mesh, the n sound ones first, and the answer list shows what was brought to each slot, in numbers of single precision: it shows the final readings.
pub record Copied (rows n all : ℕ) (ps : List Float) (w a u : List ℕ) : Type 0 where
  pub final : (sizes : List ℕ) (ns ts : List Float) (bs : List Brought) (d : Triangle) (a₀ : List ℕ) (us vs : List Triangle) (see : ℕ → Kept → Kept)
      → let mesh = handed sizes ps ns ts in
      let xs = triangles_of mesh in
      length (sound xs) ≡ n
      → length (sound xs ++ broken xs) ≡ all
      → Tells rows mesh (sound xs ++ broken xs) d w
      → Corners rows mesh (sound xs ++ broken xs) d w
      → Left mesh d us vs see
      → Vertices rows (us ++ vs) d w
      → ((f i : ℕ) → HeldReading (reading bs f i))
      → Shows sizes (reading bs) a₀ a
      → Shows sizes (final_seen see bs us (mesh_of mesh)) a₀ u
