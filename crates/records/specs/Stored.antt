-- What is stored of a triangle. Definitions only.
use Rattle.std.specs.Prelude.{ℕ, ◌+◌, ◌*◌, ◌<◌, Bool, List, [], ◌∷◌, T, Float}
use Rattle.std.specs.Float.{binary32}
use Rattle.std.specs.Float.Ieee.{fits}
use Rattle.tangent.specs.declared.RawTangentSpace.{RawTangentSpace}
use Rattle.tangent.specs.Slot.{flag}
use Rattle.table.specs.Columns.{corner_column, slot_column, name_column, s_column, t_column, magnitude_column, orientation_column, any_column}
use Rattle.definition.specs.declared.Triangle.{Triangle}
use Rattle.view.specs.Stores.{Entry, storing}
use Rattle.view.specs.Records.{numbers, names, three_of, lengths}

-- what is stored of triangle number t: the numbers of its corners and slots, its names
abbrev pub place_entries : ℕ → ℕ → ℕ → Triangle → List Entry
place_entries t base slot x =
    record { column = corner_column; row = 3 * t; words = numbers base x }
    ∷ record { column = slot_column; row = 3 * t; words = numbers slot x }
    ∷ record { column = name_column; row = 3 * t; words = names x }
    ∷ []

-- its tangent and its mark
abbrev pub tangent_entries : ℕ → RawTangentSpace → Bool → List Entry
tangent_entries t g m =
    record { column = s_column; row = 3 * t; words = three_of g.s }
    ∷ record { column = t_column; row = 3 * t; words = three_of g.t }
    ∷ record { column = magnitude_column; row = 3 * t; words = lengths g m }
    ∷ []

-- its orientation and `group_with_any`
abbrev pub flag_entries : ℕ → Bool → Bool → List Entry
flag_entries t way any =
    record { column = orientation_column; row = t; words = flag way ∷ [] }
    ∷ record { column = any_column; row = t; words = flag any ∷ [] }
    ∷ []

-- the work list with triangle number t stored, whose face's corners start at number base and slots at number slot
unfoldable pub stored : ℕ → ℕ → ℕ → ℕ → Triangle → List ℕ → List ℕ
stored rows t base slot x w = storing rows (flag_entries t x.orientation x.any) (storing rows (tangent_entries t x.tangent x.marked) (storing rows (place_entries t base slot x) w))

-- a number that single precision holds
abbrev pub Fits : Float → Type 0
Fits x = T (fits binary32 x)

-- the numbers of the corners, from base on, are words
pub record Small (base : ℕ) (x : Triangle) : Type 0 where
  pub a : base + x.a.which < 4294967296
  pub b : base + x.b.which < 4294967296
  pub c : base + x.c.which < 4294967296
