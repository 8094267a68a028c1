-- Request E10: 'Being accepted doesn't mean being equal to ours, because where three sides meet several pairings may be sound.' An example. Definitions only.
use Rattle.std.specs.Prelude.{ℕ, List, [], ◌∷◌, map, replicate}
use Rattle.bits.specs.Word.{number}
use Rattle.definition.specs.declared.Triangle.{Triangle}
use Rattle.definition.specs.Handed.{Handed}
use Rattle.promises.specs.Small.{one, up}
use Rattle.promises.specs.Examiner.{Asking, Sound}

-- three triangles on the side from (0,0,0) to (1,0,0), which runs so in the first (row 0) and the second (row 3) and back in the third (row 6); the texture is one point, so that all are `group_with_any`
unfoldable pub three_sides : Handed
three_sides =
    record {
      sizes = 3 ∷ 3 ∷ 3 ∷ [];
      positions = map number (0 ∷ 0 ∷ 0 ∷ one ∷ 0 ∷ 0 ∷ 0 ∷ one ∷ 0 ∷ 0 ∷ 0 ∷ 0 ∷ one ∷ 0 ∷ 0 ∷ 0 ∷ 0 ∷ one ∷ one ∷ 0 ∷ 0 ∷ 0 ∷ 0 ∷ 0 ∷ one ∷ one ∷ one ∷ []);
      normals = map number (up 9);
      texture = map number (replicate 18 0);
    }

-- no corner is in a group, and the links are these
unfoldable pub linked_by : List ℕ → Asking
linked_by links = record { mesh = three_sides; links = links; groups = replicate 9 0; ways = replicate 3 0; work = replicate 384 0 }

-- the third with the first, as ours are; and with the second
abbrev pub with_first : List ℕ
with_first = 7 ∷ 0 ∷ 0 ∷ 0 ∷ 0 ∷ 0 ∷ 1 ∷ 0 ∷ 0 ∷ []

abbrev pub with_second : List ℕ
with_second = 0 ∷ 0 ∷ 0 ∷ 7 ∷ 0 ∷ 0 ∷ 4 ∷ 0 ∷ 0 ∷ []

-- both are as request E10 asks, so that the examiner accepts both
unfoldable pub Promised : Type 0
Promised = (d : Triangle) → Sound (linked_by with_first) d × Sound (linked_by with_second) d
