-- A property of every element of a list, and of an optional value. Definitions only.
use Rattle.std.specs.Prelude.{List, [], ◌∷◌}
use Rattle.std.proofs.Math.Option.{Option, none, some}

-- every element
pub data Every {X : Type 0} (P : X → Type 0) : List X → Type 0 where
  every_nil : Every P []
  every_cons : {x : X} {l : List X} → P x → Every P l → Every P (x ∷ l)

-- the value, if there is one
pub data Each {X : Type 0} (P : X → Type 0) : Option X → Type 0 where
  each_none : Each P none
  each_some : {x : X} → P x → Each P (some x)
