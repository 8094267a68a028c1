-- The rows of the desk's table stand in the order of their numbers, but for 7, which is checked right after 4 (request E4). Assumes nothing.
use mathlib.Core.Path.{◌≡◌, refl}
use mathlib.Core.List.{[], ◌∷◌, map}
use Rattle.definition.specs.Desk.{Shown, table}

pub in_order : (x : Shown) → map (λ r. r.number) (table x) ≡ 1 ∷ 2 ∷ 3 ∷ 4 ∷ 7 ∷ 5 ∷ 6 ∷ []
unfolding table map
in_order x = refl
