-- The vertices that `name_rows` leaves are those of the triangles with their corners merged and tagged. Assumes nothing.
use Rattle.std.proofs.Common.{◌≡◌, ℕ, zero, suc, ◌+◌, ◌*◌, ◌/◌, ◌%◌, ◌<◌, ◌≤◌, Bool, true, false, ◌&&◌, eqb, List, [], ◌∷◌, ◌++◌, map, length, get_or, take, sym, refl, ap, ◌∙◌, subst, arith, drop-cons, get_or-take, eq-eqb, eqb-true}
use mathlib.Core.Bool.{and-false}
use lib.ListN.{length-map, get_or-map}
use lib.Ieee.{Float}
use Rattle.table.specs.Table.{cell, column}
use Rattle.table.specs.Columns.{into_column, name_column, tag_column, vertex_column}
use Rattle.table.proofs.Laws.{get_or-column}
use Rattle.definition.specs.declared.Corner.{Corner}
use Rattle.definition.specs.declared.Triangle.{Triangle}
use Rattle.definition.specs.Mesh.{Third, one, two, three, Spot, kept, corner_of, slot_of}
use Rattle.definition.specs.Handed.{handed, corner_at, corner_count}
use Rattle.definition.specs.Step4Order.{spots, same_numbers, welded}
use Rattle.definition.specs.Step4Old.{tag_of, tagged, merged_with, recornered}
use Rattle.laws.proofs.Weld.{welded-refl}
use Rattle.view.specs.Rows.{num, row, third, spot_at, spot_row}
use Rattle.view.specs.Records.{From, Held}
use Rattle.view.specs.Weld.{First, Vertices}
use Rattle.view.proofs.Rows.{row_is, row_lt, tri-lt, spot_is, spots-at, spots-length}
use Rattle.view.proofs.Records.{told-stored}
use Rattle.view.proofs.Weld.{first-low}
use Rattle.weld.proofs.Whole.{first-kept}
use Rattle.merge.specs.Rows.{into}
use Rattle.merge.specs.Names.{tag_in, tag_at, tags, Named}
use Rattle.merge.proofs.Tags.{Follows, tag-means}

-- ---- lists

-- a corner with its tag
abbrev pub marked : Spot → Corner
marked s = tagged (tag_of s) (corner_of s)

-- the corners that rows are merged with, one by one
with_each : (sp : List Spot) (e : Spot) (l : List ℕ) → ((k : ℕ) → k < length l → get_or l k 0 < length sp) → merged_with sp l ≡ map (λ r. marked (get_or sp r e)) l
unfolding merged_with
with_each sp e [] f = refl
with_each sp e (r ∷ l) f = λ i. map marked (take 1 (drop-cons sp r e (f 0 (omega arith)) i)) ++ with_each sp e l (λ k h. f (suc k) (omega arith)) i

pub recornered-long : (ts : List Triangle) (cs : List Corner) → length cs ≡ 3 * length ts → length (recornered ts cs) ≡ length ts
unfolding recornered
recornered-long [] cs h = refl
recornered-long (t ∷ ts) [] h = absurd (omega (arith, h))
recornered-long (t ∷ ts) (a ∷ []) h = absurd (omega (arith, h))
recornered-long (t ∷ ts) (a ∷ b ∷ []) h = absurd (omega (arith, h))
recornered-long (t ∷ ts) (a ∷ b ∷ c ∷ cs) h = ap suc (recornered-long ts cs (omega (arith, h)))

recornered-at : (ts : List Triangle) (cs : List Corner) (d : Triangle) (z : Corner) → length cs ≡ 3 * length ts → (t : ℕ) (i : Third) → t < length ts → corner_of (spot_at (recornered ts cs) d t i) ≡ get_or cs (row t i) z
unfolding recornered corner_of kept num
recornered-at [] cs d z h t i k = absurd (omega arith)
recornered-at (x ∷ ts) [] d z h t i k = absurd (omega (arith, h))
recornered-at (x ∷ ts) (a ∷ []) d z h t i k = absurd (omega (arith, h))
recornered-at (x ∷ ts) (a ∷ b ∷ []) d z h t i k = absurd (omega (arith, h))
recornered-at (x ∷ ts) (a ∷ b ∷ c ∷ cs) d z h zero one k = refl
recornered-at (x ∷ ts) (a ∷ b ∷ c ∷ cs) d z h zero two k = refl
recornered-at (x ∷ ts) (a ∷ b ∷ c ∷ cs) d z h zero three k = refl
recornered-at (x ∷ ts) (a ∷ b ∷ c ∷ cs) d z h (suc t) i k =
    let p : suc (suc (suc (3 * t + num i))) ≡ 3 * suc t + num i = omega arith in
    recornered-at ts cs d z (omega (arith, h)) t i (omega arith) ∙ ap (λ (j : ℕ). get_or (a ∷ b ∷ c ∷ cs) j z) p

-- as many corners as rows
pub with-long : (xs : List Triangle) (d : Triangle) (l : List ℕ) → ((k : ℕ) → k < length l → get_or l k 0 < 3 * length xs) → length (merged_with (spots xs) l) ≡ length l
with-long xs d l f =
    ap length (with_each (spots xs) (spot_row xs d 0) l (λ k h. let y = spots-length xs in omega (arith, y, f k h)))
    ∙ length-map l (λ r. marked (get_or (spots xs) r (spot_row xs d 0)))

-- the corner of row k is that of the row that it is merged with
pub row-cornered : (xs : List Triangle) (d d' : Triangle) (l : List ℕ) → length l ≡ 3 * length xs → ((k : ℕ) → k < length l → get_or l k 0 < 3 * length xs) → (k : ℕ) → k < length l → corner_of (spot_row (recornered xs (merged_with (spots xs) l)) d' k) ≡ marked (spot_row xs d (get_or l k 0))
row-cornered xs d d' l e f k h =
    ap (λ (cs : List Corner). corner_of (spot_row (recornered xs cs) d' k)) (with_each (spots xs) (spot_row xs d 0) l (λ j i. let y = spots-length xs in omega (arith, y, f j i)))
    ∙ recornered-at xs (map g l) d' (g 0) (length-map l g ∙ e) (k / 3) (third (k % 3)) (tri-lt k (length xs) (omega (arith, e, h)))
    ∙ ap (λ (j : ℕ). get_or (map g l) j (g 0)) (row_is k)
    ∙ get_or-map g l k 0
    ∙ ap marked (spots-at xs d (spot_row xs d 0) (get_or l k 0) (f k h))
  where
    g : ℕ → Corner
    g r = marked (get_or (spots xs) r (spot_row xs d 0))

-- ---- tags tell corners

-- corners with their tags are welded where the tags are the same, if those have one corner
pub tags-weld : (a b : ℕ) (c e : Corner) → (a ≡ b → c ≡ e) → welded (tagged a c) (tagged b e) ≡ eqb a b
tags-weld a b c e f = go (eqb a b) refl
  where
    other : (t : Bool) → eqb a b ≡ t → t ≡ false → welded (tagged a c) (tagged b e) ≡ false
    other t q z = unfold welded tagged in (ap (λ (x : Bool). same_numbers (tagged a c) (tagged b e) && x) (q ∙ z) ∙ and-false (same_numbers (tagged a c) (tagged b e)))

    go : (t : Bool) → eqb a b ≡ t → welded (tagged a c) (tagged b e) ≡ t
    go true q = let p = eqb-true a b q in (λ i. welded (tagged a c) (tagged (sym p i) (sym (f p) i))) ∙ welded-refl (tagged a c)
    go false q = other false q refl

-- one tag, one corner, where the triangles are those of a mesh
pub one_corner : (ps ns ts : List Float) (sizes : List ℕ) (xs : List Triangle) (d : Triangle) → ((t : ℕ) → t < length xs → From ps ns ts (corner_count (take (get_or xs t d).face sizes)) (get_or xs t d)) → (p q : ℕ) → p < 3 * length xs → q < 3 * length xs → tag_of (spot_row xs d p) ≡ tag_of (spot_row xs d q) → corner_of (spot_row xs d p) ≡ corner_of (spot_row xs d q)
unfolding tag_of slot_of corner_of
one_corner ps ns ts sizes xs d F p q h k z =
    let A = F (p / 3) (tri-lt p (length xs) h) in
    let B = F (q / 3) (tri-lt q (length xs) k) in
    let i = third (p % 3) in
    let j = third (q % 3) in
    let a = A.small i in
    let b = B.small j in
    let f : (get_or xs (p / 3) d).face ≡ (get_or xs (q / 3) d).face = omega (arith, a, b, z) in
    let g : (kept (get_or xs (p / 3) d) i).which ≡ (kept (get_or xs (q / 3) d) j).which = omega (arith, a, b, z) in
    A.corner i ∙ (λ y. corner_at ps ns ts (corner_count (take (f y) sizes) + g y)) ∙ sym (B.corner j)

module _ (rows n : ℕ) (ps ns ts : List Float) (sizes : List ℕ) (xs : List Triangle) (d : Triangle) (w u : List ℕ) (nr : n ≤ rows) (e : 3 * length xs ≡ n) (H : Held rows (handed sizes ps ns ts) xs d w)
    (F : (t : ℕ) → t < length xs → Follows (get_or xs t d)) (N : Named rows n w u) (size : length (into rows n w) ≡ n) (inside : (k : ℕ) → k < n → get_or (into rows n w) k 0 < n) where
  -- the row that row k is merged with, and its corner of a triangle
  abbrev Q : ℕ → ℕ
  Q k = get_or (into rows n w) k 0

  abbrev S : ℕ → Spot
  S k = spot_row xs d (Q k)

  -- the tag of a row
  pub tag_is : (k : ℕ) → k < n → tags rows u k ≡ tag_of (S k)
  unfolding tag_at
  tag_is k h =
      get_or-column rows u tag_column k (omega arith) ∙ N.tag k h
      ∙ ap (tag_in (column rows name_column w)) (sym (get_or-take n (column rows into_column w) k 0 h))
      ∙ tag-means rows (handed sizes ps ns ts) xs d w (omega (arith, e, nr)) (λ t l. told-stored rows (handed sizes ps ns ts) w t (get_or xs t d) (omega (arith, e, nr, l)) (H t l)) F (Q k) (omega (arith, e, inside k h))

  -- the triangles with their corners merged
  abbrev merged : List Triangle
  merged = recornered xs (merged_with (spots xs) (into rows n w))

  cornered : (d' : Triangle) (k : ℕ) → k < n → corner_of (spot_row merged d' k) ≡ marked (S k)
  cornered d' k h = row-cornered xs d d' (into rows n w) (size ∙ sym e) (λ j l. omega (arith, e, inside j (omega (arith, size, l)))) k (omega (arith, size, h))

  pub names-vertices : (d' : Triangle) → Vertices rows merged d' u
  names-vertices d' t i h =
      subst (λ s. First (λ k. welded (corner_of s) (corner_of (spot_row merged d' k))) (cell rows vertex_column (row t i) u)) (spot_is merged d' t i)
      (first-kept (λ k. eqb (tags rows u r) (tags rows u k)) (λ k. welded (corner_of (spot_row merged d' r)) (corner_of (spot_row merged d' k))) _ n same (omega (arith, first-low (λ k. eqb (tags rows u r) (tags rows u k)) _ r V₀ (eq-eqb (tags rows u r) (tags rows u r) refl), at)) V₀)
    where
      r : ℕ
      r = row t i

      long : length merged ≡ length xs
      long = recornered-long xs (merged_with (spots xs) (into rows n w)) (with-long xs d (into rows n w) (λ j l. omega (arith, e, inside j (omega (arith, size, l)))) ∙ (size ∙ sym e))

      at : row t i < n
      at = let z = row_lt t (length xs) i (omega (arith, h, long)) in omega (arith, z, e)

      V₀ : First (λ k. eqb (tags rows u r) (tags rows u k)) (cell rows vertex_column r u)
      V₀ = N.vertex r at

      same : (k : ℕ) → k < n → eqb (tags rows u r) (tags rows u k) ≡ welded (corner_of (spot_row merged d' r)) (corner_of (spot_row merged d' k))
      same k l =
          (λ y. eqb (tag_is r at y) (tag_is k l y))
          ∙ sym (tags-weld (tag_of (S r)) (tag_of (S k)) (corner_of (S r)) (corner_of (S k)) (one_corner ps ns ts sizes xs d (λ t g. (H t g).from) (Q r) (Q k) (omega (arith, e, inside r at)) (omega (arith, e, inside k l))))
          ∙ sym (λ y. welded (cornered d' r at y) (cornered d' k l y))
