-- Names of triangles: a face's number, first or second. Definitions only.
use Rattle.std.specs.Prelude.{◌≡◌, false, List, [], ◌∷◌}
use Rattle.lists.specs.Every.{Every}
use Rattle.definition.specs.declared.Triangle.{Triangle}
use Rattle.definition.specs.Mesh.{same_triangle}

-- no two triangles of the list have one name
pub data Names : List Triangle → Type 0 where
  names_nil : Names []
  names_cons : {t : Triangle} {ts : List Triangle} → Every (λ k. same_triangle t k ≡ false) ts → Names ts → Names (t ∷ ts)
