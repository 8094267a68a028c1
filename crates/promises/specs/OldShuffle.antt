-- Demand 3 is promised of the corrected edition alone (request E13): 'Demand 3 .. [isn't] claimed for the old edition, because a badly sorted list may miss neighbours.' Three small shuffles show it. Definitions only.
use Rattle.std.specs.Prelude.{ℕ, ◌<◌, ◌≡◌, Bool, true, false, List, [], ◌∷◌, ◌++◌, length, get_or}
use Rattle.lists.specs.Lists.{has}
use Rattle.definition.specs.declared.Corner.{Corner}
use Rattle.definition.specs.Handed.{Call, mesh_of}
use Rattle.definition.specs.Outcome.{Result}
use Rattle.definition.specs.Shuffle.{Shuffle, corners_of, shares}
use Rattle.definition.specs.Step4Old.{same_values}
use Rattle.definition.specs.Editions.{corrected, old, outcome_in}
use Rattle.promises.specs.Calls.{face_answer}
use Rattle.promises.specs.Demand3.{left_at, Demand3}
use Rattle.promises.specs.Editions.{AnswersIn}
use Rattle.promises.specs.Small.{one, minus_one, lying, fan_first}

-- demand 3 as it would be of an edition, for meshes that share nothing by a test
unfoldable pub Claimed : ℕ → (List (List Corner) → List (List Corner) → Bool) → Type 0
Claimed e sharing =
    (p : List Bool) (a b m : Call) (ra rb rm : Result) → AnswersIn e a ra → AnswersIn e b rb → AnswersIn e m rm → Shuffle p (mesh_of a.mesh) (mesh_of b.mesh) (mesh_of m.mesh) → sharing (mesh_of a.mesh) (mesh_of b.mesh) ≡ false
    → a.threshold ≡ m.threshold → b.threshold ≡ m.threshold → ra.number ≡ 0 → rb.number ≡ 0 → rm.number ≡ 0 → Demand3 p a b m ra rb rm

-- whether two meshes share a corner by float comparison, which is how the old edition merges: then -0.0 is 0.0
unfoldable pub shares_equal : List (List Corner) → List (List Corner) → Bool
shares_equal a b = has (λ c. has (same_values c) (corners_of b)) (corners_of a)

-- a shuffle of meshes that share nothing by a test, all three accepted: word w of face n of the first mesh is `alone` by itself and `among` in the shuffle, and these differ
pub record Differs (e : ℕ) (sharing : List (List Corner) → List (List Corner) → Bool) (p : List Bool) (a b m : Call) (n w alone among : ℕ) : Type 0 where
  pub shuffle : Shuffle p (mesh_of a.mesh) (mesh_of b.mesh) (mesh_of m.mesh)
  pub apart : sharing (mesh_of a.mesh) (mesh_of b.mesh) ≡ false
  pub thresholds : (a.threshold ≡ m.threshold) × (b.threshold ≡ m.threshold)
  pub accepted : ((outcome_in e a).number ≡ 0) × ((outcome_in e b).number ≡ 0) × ((outcome_in e m).number ≡ 0)
  pub face : n < length a.mesh.sizes
  pub word_alone : get_or (face_answer a.mesh.sizes (outcome_in e a).answer n) w 0 ≡ alone
  pub word_among : get_or (face_answer m.mesh.sizes (outcome_in e m).answer (left_at p n)) w 0 ≡ among
  pub other : alone ≡ among → ⊥

-- two triangles beside each other, in the planes z = 0.0 and z = -0.0: no corner has the same bits, and the old edition merges two pairs. The positions of the second
unfoldable pub below : List ℕ
below = 0 ∷ 0 ∷ 0x8000_0000 ∷ 0 ∷ minus_one ∷ 0x8000_0000 ∷ one ∷ 0 ∷ 0x8000_0000 ∷ []

-- and its texture
unfoldable pub below_texture : List ℕ
below_texture = 0 ∷ 0 ∷ 0 ∷ 0xc000_0000 ∷ one ∷ 0 ∷ []

-- the second alone
unfoldable pub signs_second : Call
signs_second = lying (3 ∷ []) below below_texture

-- both, the first as in `fan_first`
unfoldable pub signs : Call
signs = lying (3 ∷ 3 ∷ []) ((0 ∷ 0 ∷ 0 ∷ one ∷ 0 ∷ 0 ∷ 0 ∷ one ∷ 0 ∷ []) ++ below) ((0 ∷ 0 ∷ one ∷ 0 ∷ 0 ∷ 0x4040_0000 ∷ []) ++ below_texture)

-- two triangles that share a side, in the plane z = 2^127
unfoldable pub high : List ℕ
high = 0 ∷ 0 ∷ 0x7f00_0000 ∷ one ∷ 0 ∷ 0x7f00_0000 ∷ 0 ∷ one ∷ 0x7f00_0000 ∷ 0 ∷ 0 ∷ 0x7f00_0000 ∷ 0 ∷ minus_one ∷ 0x7f00_0000 ∷ one ∷ 0 ∷ 0x7f00_0000 ∷ []

-- and their texture
unfoldable pub high_texture : List ℕ
high_texture = 0 ∷ 0 ∷ one ∷ 0 ∷ 0 ∷ 0x4040_0000 ∷ 0 ∷ 0 ∷ 0 ∷ 0xc000_0000 ∷ one ∷ 0 ∷ []

-- one that reaches from below -2^127 to above 2^127: no bucket parts it from them, and where its z and theirs have a sum that overflows, step 4 merges nothing
unfoldable pub wide : List ℕ
wide = 0 ∷ 0 ∷ 0xff40_0000 ∷ one ∷ 0 ∷ 0x7f40_0000 ∷ 0 ∷ one ∷ 0x7f40_0000 ∷ []

-- the texture of a triangle by itself
unfoldable pub plain : List ℕ
plain = 0 ∷ 0 ∷ one ∷ 0 ∷ 0 ∷ one ∷ []

-- the two
unfoldable pub far_first : Call
far_first = lying (3 ∷ 3 ∷ []) high high_texture

-- the one
unfoldable pub far_second : Call
far_second = lying (3 ∷ []) wide plain

-- all three
unfoldable pub far : Call
far = lying (3 ∷ 3 ∷ 3 ∷ []) (high ++ wide) (high_texture ++ plain)

-- a quad and a triangle over three of its corners, of small whole numbers: the sides that stand last are left unsorted, and two of them miss each other
unfoldable pub folded : List ℕ
folded = one ∷ 0x4000_0000 ∷ 0 ∷ one ∷ one ∷ 0 ∷ 0x4000_0000 ∷ one ∷ 0 ∷ 0 ∷ 0x4000_0000 ∷ 0 ∷ 0x4000_0000 ∷ one ∷ 0 ∷ 0 ∷ 0x4000_0000 ∷ 0 ∷ one ∷ one ∷ 0 ∷ []

-- and their texture
unfoldable pub folded_texture : List ℕ
folded_texture = 0x4040_0000 ∷ 0x4000_0000 ∷ 0x4000_0000 ∷ one ∷ one ∷ one ∷ one ∷ 0x4000_0000 ∷ one ∷ one ∷ one ∷ 0x4000_0000 ∷ 0x4000_0000 ∷ one ∷ []

-- a triangle that shares no corner with them; behind them, its sides stand last
unfoldable pub beside : List ℕ
beside = 0x40a0_0000 ∷ 0 ∷ 0 ∷ 0x40c0_0000 ∷ 0 ∷ 0 ∷ 0x40a0_0000 ∷ one ∷ 0 ∷ []

-- the quad and the triangle
unfoldable pub unsorted_first : Call
unsorted_first = lying (4 ∷ 3 ∷ []) folded folded_texture

-- the other triangle
unfoldable pub unsorted_second : Call
unsorted_second = lying (3 ∷ []) beside plain

-- all three
unfoldable pub unsorted : Call
unsorted = lying (4 ∷ 3 ∷ 3 ∷ []) (folded ++ beside) (folded_texture ++ plain)

pub record Promised : Type 0 where
  -- of the corrected edition demand 3 holds
  pub holds : Claimed corrected shares
  -- one triangle and one, the fewest there can be; but corners of the two are equal by comparison
  pub by_signs : Differs old shares (true ∷ false ∷ []) fan_first signs_second signs 0 8 0x3eaa_aaab 0x3ed5_5555
  -- two triangles and one, and no corner of the first mesh is equal to one of the second
  pub by_far : Differs old shares_equal (true ∷ true ∷ false ∷ []) far_first far_second far 0 8 0x3ed5_5555 0x3eaa_aaab
  -- the same of small whole numbers: a quad, a triangle and a triangle
  pub by_unsorted : Differs old shares_equal (true ∷ true ∷ false ∷ []) unsorted_first unsorted_second unsorted 0 13 0 0xbf80_0000
  -- so demand 3 is not of the old edition, whichever way corners are compared
  pub not_by_bits : Claimed old shares → ⊥
  pub not_by_values : Claimed old shares_equal → ⊥
