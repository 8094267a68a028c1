-- Step 9 in a mesh: the final reading of each slot, by the triangles of the mesh. Assumes nothing.
use Prim.Native.Nat.{ℕ, zero, suc, ◌+◌, ◌≤◌, ◌<◌}
use native.Mathlib.Omega.{arith}
use mathlib.Core.Path.{◌≡◌, refl, sym, ◌∙◌, ap, subst}
use mathlib.Core.Bool.{Bool, true, false, cond}
use mathlib.Core.List.{List, [], ◌∷◌, ◌++◌, map}
use lib.ListN.{length, get_or, take}
use lib.Ieee.{Float}
use Rattle.tangent.specs.declared.Reading.TheVariants.{Absent}
use Rattle.definition.specs.declared.Corner.{Corner}
use Rattle.definition.specs.declared.Kept.{Kept}
use Rattle.definition.specs.declared.Triangle.{Triangle}
use Rattle.definition.specs.Handed.{corner_at, corners_from, mesh_from, used, slots_of, corner_count}
use Rattle.definition.specs.Triangles.{nook, usable, pieces, triangles}
use Rattle.definition.specs.Frames.{numbered}
use Rattle.definition.specs.Step7Sums.{Brought}
use Rattle.definition.specs.Step9Copies.{final_of, nooks}
use Rattle.lists.specs.Every.{Every, every_nil, every_cons}
use Rattle.laws.proofs.Part.{every_map, every_append, every-pair}
use Rattle.laws.proofs.Bridge.{face-slots}
use Rattle.laws.proofs.Numbers.{pieces-face}
use Rattle.view.specs.Answer.{HasSlot, final_seen}
use Rattle.copies.proofs.Faces.{Ends, ends, Own, own, Misses, misses}

-- ---- the triangles of a mesh are those of its faces

module _ (P : Triangle → Type 0) where
  -- what holds of the triangles of each face, numbered from n on, holds of all
  every-face : (n : ℕ) (m : List (List Corner)) → ((k f : ℕ) → k ≡ n + f → f < length m → Every P (pieces k (get_or m f []))) → Every P (triangles (numbered n m))
  unfolding triangles numbered
  every-face n [] h = every_nil
  every-face n (c ∷ m) h = every_append (h n 0 (omega arith) (omega arith)) (every-face (suc n) m (λ k f e l. h k (suc f) (omega arith) (omega arith)))

  -- what holds of two lists joined holds of the first
  pub every_front : (l k : List Triangle) → Every P (l ++ k) → Every P l
  every_front [] k h = every_nil
  every_front (x ∷ l) k (every_cons p h) = every_cons p (every_front l k h)

  -- and of the second
  pub every_back : (l k : List Triangle) → Every P (l ++ k) → Every P k
  every_back [] k h = h
  every_back (x ∷ l) k (every_cons p h) = every_back l k h

  -- what holds of all triangles holds of those of each face
  pub every-piece : (n : ℕ) (m : List (List Corner)) → Every P (triangles (numbered n m)) → (k f : ℕ) → k ≡ n + f → f < length m → Every P (pieces k (get_or m f []))
  unfolding triangles numbered
  every-piece n [] h k f e l = absurd (omega arith)
  every-piece n (c ∷ m) h k zero e l = subst (λ (j : ℕ). Every P (pieces j c)) same (every_front (pieces n c) (triangles (numbered (suc n) m)) h)
    where
      same : n ≡ k
      same = omega arith
  every-piece n (c ∷ m) h k (suc f) e l = every-piece (suc n) m (every_back (pieces n c) (triangles (numbered (suc n) m)) h) k f (omega arith) (omega arith)

-- ---- the corners of a face

-- the corner of a number, of a list of corners numbered from j on
at-nooks : {B : Type 0} (g : Kept → B) (e : B) (d : Corner) (j : ℕ) (l : List Corner) (k i : ℕ) → j + i ≡ k → i < length l → get_or (map g (nooks j l)) i e ≡ g (nook k (get_or l i d))
unfolding nooks
at-nooks g e d j [] k i q h = absurd (omega arith)
at-nooks g e d j (c ∷ l) k zero q h = ap (λ (n : ℕ). g (nook n c)) same
  where
    same : j ≡ k
    same = omega arith
at-nooks g e d j (c ∷ l) k (suc i) q h = at-nooks g e d (suc j) l k i (omega arith) (omega arith)

module _ (ps ns ts : List Float) where
  -- the corner of a number, of those from number i on
  corner-in : (d : Corner) (i n k j : ℕ) → i + j ≡ k → j < n → get_or (corners_from ps ns ts i n) j d ≡ corner_at ps ns ts k
  unfolding corners_from
  corner-in d i zero k j q h = absurd (omega arith)
  corner-in d i (suc n) k zero q h = ap (corner_at ps ns ts) same
    where
      same : i ≡ k
      same = omega arith
  corner-in d i (suc n) k (suc j) q h = corner-in d (suc i) n k j (omega arith) (omega arith)

  -- the corners of face f
  face-at : (i : ℕ) (sizes : List ℕ) (k f : ℕ) → i + corner_count (take f sizes) ≡ k → f < length sizes → get_or (mesh_from ps ns ts i sizes) f [] ≡ corners_from ps ns ts k (get_or sizes f 0)
  unfolding mesh_from corner_count
  face-at i [] k f e h = absurd (omega arith)
  face-at i (n ∷ sizes) k zero e h = ap (λ (b : ℕ). corners_from ps ns ts b n) same
    where
      same : i ≡ k
      same = omega arith
  face-at i (n ∷ sizes) k (suc f) e h = face-at (i + n) sizes k f (omega arith) (omega arith)

-- a face that has a slot has one for each corner
usable-is : (cs : List Corner) (i : ℕ) → i < length (usable cs) → usable cs ≡ cs
unfolding usable
usable-is [] i h = absurd (omega arith)
usable-is (c0 ∷ []) i h = absurd (omega arith)
usable-is (c0 ∷ c1 ∷ []) i h = absurd (omega arith)
usable-is (c0 ∷ c1 ∷ c2 ∷ []) i h = refl
usable-is (c0 ∷ c1 ∷ c2 ∷ c3 ∷ []) i h = refl
usable-is (c0 ∷ c1 ∷ c2 ∷ c3 ∷ c4 ∷ l) i h = absurd (omega arith)

-- a face has no more slots than corners
slots-few : (n : ℕ) → slots_of n ≤ n
unfolding slots_of
slots-few n = go (used n)
  where
    go : (b : Bool) → cond b n 0 ≤ n
    go true = omega arith
    go false = omega arith

-- ---- a mesh's triangle and its face

-- of a triangle x of face f, whose corners are cs: what step 9 says of its slots
pub record Piece (bs : List Brought) (ss : List Triangle) (f : ℕ) (cs : List Corner) (x : Triangle) : Type 0 where
  pub ends : Ends bs ss f (pieces f cs) x
  pub own : Own bs ss f (pieces f cs) x
  pub misses : Misses cs x

module _ (bs : List Brought) (ss : List Triangle) (m : List (List Corner)) where
  -- of a triangle of the mesh m
  abbrev pub Placed : Triangle → Type 0
  Placed x = Piece bs ss x.face (get_or m x.face []) x

  -- by its face
  face-placed : (f : ℕ) → Every Placed (pieces f (get_or m f []))
  face-placed f =
      let cs = get_or m f [] in
      every_map (λ x h. subst (λ (g : ℕ). Piece bs ss g (get_or m g []) x) (sym h.0.0.0.name) (record { ends = h.0.0.1; own = h.0.1; misses = h.1 }))
      (every-pair (every-pair (every-pair (pieces-face f cs) (ends bs ss f cs)) (own bs ss f cs)) (misses f cs))

  -- so every triangle
  pub all_placed : Every Placed (triangles (numbered 0 m))
  all_placed = every-face Placed 0 m (λ k f e l. subst (λ (g : ℕ). Every Placed (pieces k (get_or m g []))) (same k f e) (face-placed k))
    where
      same : (k f : ℕ) → k ≡ 0 + f → k ≡ f
      same k f e = omega arith

-- ---- the mesh of the lists handed in

module _ (ps ns ts : List Float) (sizes : List ℕ) where
  -- the mesh
  abbrev mesh : List (List Corner)
  mesh = mesh_from ps ns ts 0 sizes

  -- corner number i of face f
  abbrev corner : ℕ → ℕ → Corner
  corner f i = corner_at ps ns ts (corner_count (take f sizes) + i)

  -- the corners of face f
  face-is : (f : ℕ) → f < length sizes → get_or mesh f [] ≡ corners_from ps ns ts (corner_count (take f sizes)) (get_or sizes f 0)
  face-is f h = face-at ps ns ts 0 sizes (corner_count (take f sizes)) f (omega arith) h

  -- it has as many slots as its size says
  slots-are : (f : ℕ) → f < length sizes → length (usable (get_or mesh f [])) ≡ slots_of (get_or sizes f 0)
  unfolding slots_of
  slots-are f h = ap (λ (l : List Corner). length (usable l)) (face-is f h) ∙ face-slots ps ns ts (corner_count (take f sizes)) (get_or sizes f 0)

  -- a slot is that of one of the face's corners
  pub slot-below : (f i : ℕ) → HasSlot sizes f i → i < length (usable (get_or mesh f []))
  slot-below f i h = omega (arith, slots-are f h.face, h.slot)

  -- the corner of a slot, by its number in the lists
  pub corner-is : (d : Corner) (f i : ℕ) → HasSlot sizes f i → get_or (get_or mesh f []) i d ≡ corner f i
  corner-is d f i h =
      ap (λ (l : List Corner). get_or l i d) (face-is f h.face) ∙ corner-in ps ns ts d (corner_count (take f sizes)) (get_or sizes f 0) _ i refl (omega (arith, h.slot, slots-few (get_or sizes f 0)))

  -- the final reading of a slot
  pub final-is : (see : ℕ → Kept → Kept) (bs : List Brought) (ss : List Triangle) (f i : ℕ) → HasSlot sizes f i → final_seen see bs ss mesh f i ≡ final_of bs ss f (pieces f (get_or mesh f [])) (see f (nook i (corner f i)))
  unfolding final_seen
  final-is see bs ss f i h =
      let cs = get_or mesh f [] in
      let d = corner f i in
      at-nooks (λ k. final_of bs ss f (pieces f cs) (see f k)) Absent d 0 (usable cs) i i (omega arith) (slot-below f i h)
      ∙ ap (λ (c : Corner). final_of bs ss f (pieces f cs) (see f (nook i c))) (ap (λ (l : List Corner). get_or l i d) (usable-is cs i (slot-below f i h)) ∙ corner-is d f i h)

  -- slot j of a face that has four
  pub four-slots : (f j : ℕ) → f < length sizes → length (usable (get_or mesh f [])) ≡ 4 → j < 4 → HasSlot sizes f j
  four-slots f j h n l = record { face = h; slot = omega (arith, slots-are f h, n, l) }
