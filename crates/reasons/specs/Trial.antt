-- A trial: what step 9 leaves where every slot has a frame before it. Definitions only.
use Rattle.std.specs.Prelude.{ℕ, false}
use mathlib.Core.List.{List, map, flat_map}
use Rattle.tangent.specs.declared.Evaluated.{Evaluated}
use Rattle.tangent.specs.declared.Reading.{Reading}
use Rattle.tangent.specs.declared.Reading.TheVariants.{Single}
use Rattle.tangent.specs.Space.{zero_tangent}
use Rattle.tangent.specs.Slot.{words}
use Rattle.definition.specs.declared.Corner.{Corner}
use Rattle.definition.specs.declared.Kept.{Kept}
use Rattle.definition.specs.Mesh.{Face}
use Rattle.definition.specs.Triangles.{usable, triangles}
use Rattle.definition.specs.Step4Order.{sound}
use Rattle.definition.specs.Step7Sums.{Brought}
use Rattle.definition.specs.Step9Copies.{nooks}
use Rattle.definition.specs.Frames.{numbered, frames_from}

-- what is brought: the zero tangent, which no triangle stands behind
abbrev pub nobodys : Evaluated
nobodys = record { space = zero_tangent; behind = 0 }

-- the reading of a slot that it was brought to, once
abbrev pub tried_reading : Reading
tried_reading = Single nobodys false

-- its words
abbrev pub tried_words : List ℕ
tried_words = words tried_reading

-- it is brought to a corner of face f
unfoldable pub bring_to : ℕ → Kept → Brought
bring_to f k = record { face = f; slot = k.which; value = nobodys; orientation = false }

-- to every slot of a face
unfoldable pub tried_in : Face → List Brought
tried_in f = map (bring_to f.number) (nooks 0 (usable f.corners))

-- to every slot of all faces
unfoldable pub tried : List Face → List Brought
tried fs = flat_map tried_in fs

-- the readings of all slots after step 9, where that was brought
unfoldable pub trial : List (List Corner) → List (List Reading)
trial m = let fs = numbered 0 m in frames_from fs (sound (triangles fs)) (tried fs)
