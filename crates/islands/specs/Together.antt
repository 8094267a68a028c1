-- Request E9: the frames of a mesh, put together from its islands. Definitions only.
use Rattle.std.specs.Prelude.{ℕ, zero, suc, ◌≡◌, Bool, true, cond, List, [], ◌∷◌, eqb, length, get_or, Float}
use Rattle.tangent.specs.declared.Reading.{Reading}
use Rattle.definition.specs.declared.Corner.{Corner}
use Rattle.definition.specs.Frames.{frames}
use Rattle.lists.specs.Loops.{list_of}
use Rattle.islands.specs.Islands.{touches, counted, island_of}

-- those of a list whose numbers, from n on, pass a test, in order
unfoldable pub picked : {X : Type 0} → (ℕ → Bool) → ℕ → List X → List X
picked p n [] = []
picked p n (x ∷ l) = let r = picked p (suc n) l in cond (p n) (x ∷ r) r

-- how many of the numbers n, .. n + k - 1 pass
unfoldable pub rank : (ℕ → Bool) → ℕ → ℕ → ℕ
rank p n zero = 0
rank p n (suc k) = let r = rank p (suc n) k in cond (p n) (suc r) r

-- a test of face numbers that faces which touch pass together: one island, or several
unfoldable pub Closed : (ℕ → Bool) → List (List Corner) → Type 0
Closed q m = (f g : ℕ) → touches m f g ≡ true → q f ≡ q g

-- whether face f is in island i
unfoldable pub in_island : List (List Corner) → ℕ → ℕ → Bool
in_island m i f = eqb (island_of m f) i

-- the island as a mesh of its own: its faces, in order
unfoldable pub island : List (List Corner) → ℕ → List (List Corner)
island m i = picked (in_island m i) 0 m

-- the readings of face f: those that it gets in its island, where it is the face after those of the island before it; none of a face that is not of 3 or 4 corners
unfoldable pub apart_frames : Float → List (List Corner) → ℕ → List Reading
apart_frames h m f =
    let i = island_of m f in
    cond (counted m f) (get_or (frames h (island m i)) (rank (in_island m i) 0 f) []) []

-- 'hands one island at a time through the base and puts each frame in its place'
unfoldable pub together : Float → List (List Corner) → List (List Reading)
together h m = list_of (length m) (apart_frames h m)
