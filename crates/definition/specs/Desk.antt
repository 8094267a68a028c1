-- Document 01, 'When the desk says no', as requests E4, E7 and E8 amend it: the table of refusals. Definitions only.
use Rattle.std.specs.Prelude.{ℕ, suc, ◌+◌, ◌*◌, Bool, true, false, cond, not, ◌&&◌, ◌||◌, List, [], ◌∷◌, eqb, ltb, length, Float}
use Rattle.std.proofs.Math.Option.{Option, none, some}
use Rattle.bits.specs.Word.{is_finite}
use Rattle.math.specs.declared.Vec3.{Vec3}
use Rattle.math.specs.Vector.{counts}
use Rattle.tangent.specs.Slot.{slot_words}
use Rattle.definition.specs.declared.Corner.{Corner}
use Rattle.definition.specs.Limits.{face_limit, work_words}
use Rattle.lists.specs.Lists.{first}
use Rattle.definition.specs.Handed.{Handed, Call, mesh_of, used, corner_count, slot_count}

-- a vector of three finite numbers
unfoldable pub finite_vector : Vec3 → Bool
finite_vector v = is_finite v.x && is_finite v.y && is_finite v.z

-- a corner of eight finite numbers
unfoldable pub finite_corner : Corner → Bool
finite_corner c = finite_vector c.place && finite_vector c.normal && is_finite c.u && is_finite c.v

-- the lowest of the corners, counted from i, that fails a test
unfoldable pub bad_in : (Corner → Bool) → ℕ → List Corner → Option ℕ
bad_in fine i [] = none
bad_in fine i (c ∷ l) = let r = bad_in fine (suc i) l in cond (fine c) r (some i)

-- the first of the two, if there is one
unfoldable pub or_else : Option ℕ → Option ℕ → Option ℕ
or_else none o = o
or_else (some i) o = some i

-- 'lowest such corner, counted from 0 over all C', among the faces of 3 or 4; i counts the corners passed
unfoldable pub bad_corner : (Corner → Bool) → ℕ → List (List Corner) → Option ℕ
bad_corner fine i [] = none
bad_corner fine i (f ∷ m) = let r = bad_corner fine (i + length f) m in or_else (cond (used (length f)) (bad_in fine i f) none) r

-- 4: the lowest corner of a mesh that 'holds a NaN or infinity'
abbrev pub not_finite : Handed → Option ℕ
not_finite mesh = bad_corner finite_corner 0 (mesh_of mesh)

-- a corner with a normal: one of its components counts (sample 6: its absolute value is strictly above bits 00800000)
unfoldable pub has_normal : Corner → Bool
has_normal c = counts c.normal.x || counts c.normal.y || counts c.normal.z

-- 7, request E4: the lowest corner of a mesh 'whose three normal components all count as zero'
abbrev pub no_normal : Handed → Option ℕ
no_normal mesh = bad_corner has_normal 0 (mesh_of mesh)

-- whether there is one
unfoldable pub is_there : Option ℕ → Bool
is_there none = false
is_there (some i) = true

-- which one it is, and 0 where there is none
unfoldable pub or_zero : Option ℕ → ℕ
or_zero none = 0
or_zero (some i) = i

-- 1: 'F is above 65,536'
unfoldable pub too_many : List ℕ → Bool
too_many sizes = ltb face_limit (length sizes)

-- 2: 'positions or normals aren't 3C long, or texture coordinates 2C', for C and the lengths of the three lists
unfoldable pub unfit : ℕ → ℕ → ℕ → ℕ → Bool
unfit corners positions normals texture = not (eqb positions (3 * corners) && eqb normals (3 * corners) && eqb texture (2 * corners))

-- the same of a mesh
unfoldable pub misfit : Handed → Bool
misfit mesh = unfit (corner_count mesh.sizes) (length mesh.positions) (length mesh.normals) (length mesh.texture)

-- a row of the table: its number, whether it applies, its place
pub record Row : Type 0 where
  pub number : ℕ
  pub applies : Bool
  pub place : ℕ

-- what a call shows at the desk: its mesh, its threshold, and how long the two lists are that it lends
pub record Shown : Type 0 where
  pub mesh : Handed
  pub threshold : Float
  pub answer : ℕ
  pub work : ℕ

-- shown are these
abbrev pub shown : Handed → Float → ℕ → ℕ → Shown
shown mesh h answer work = record { mesh = mesh; threshold = h; answer = answer; work = work }

-- what a call shows
abbrev pub at_desk : Call → Shown
at_desk x = shown x.mesh x.threshold (length x.answer) (length x.work)

-- the rows in the table's order; 7 is 'checked right after 4', and by E7 'refusal 5 .. speak[s] of 12S'
unfoldable pub table : Shown → List Row
table x =
    record { number = 1; applies = too_many x.mesh.sizes; place = 0 }
    ∷ record { number = 2; applies = misfit x.mesh; place = 0 }
    ∷ record { number = 3; applies = not (is_finite x.threshold); place = 0 }
    ∷ record { number = 4; applies = is_there (not_finite x.mesh); place = or_zero (not_finite x.mesh) }
    ∷ record { number = 7; applies = is_there (no_normal x.mesh); place = or_zero (no_normal x.mesh) }
    ∷ record { number = 5; applies = ltb x.answer (slot_words * slot_count x.mesh.sizes); place = 0 }
    ∷ record { number = 6; applies = ltb x.work (work_words * length x.mesh.sizes); place = 0 }
    ∷ []

-- 'Checked in this order; the first that applies is given, and none is given otherwise'
unfoldable pub verdict : Shown → Option Row
verdict x = first (λ r. r.applies) (table x)

-- the row of a table that has a number, if one has
unfoldable pub row_of : ℕ → List Row → Option Row
row_of n l = first (λ r. eqb r.number n) l
