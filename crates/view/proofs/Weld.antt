-- Step 4: what the column of vertices says. Assumes nothing.
use Prim.Native.Nat.{ℕ, ◌*◌, ◌≤◌, ◌<◌}
use native.Mathlib.Omega.{arith}
use mathlib.Core.Path.{◌≡◌, refl, sym, ◌∙◌, ap, subst}
use mathlib.Core.Bool.{Bool, true, false, true≢false}
use mathlib.Core.List.{List, [], ◌∷◌, ◌++◌}
use mathlib.Core.Option.{none, some}
use lib.Dec.{T, eqb, ltb}
use lib.ListN.{length, get_or, length-append, get_or-append}
use lib.Ieee.{Float, nan, binary32, fits}
use borrow.Author.Tests.{eq-eqb, eqb-true, ltb-true, ltb-false}
use Rattle.table.specs.Table.{cell}
use Rattle.table.specs.Columns.{vertex_column}
use Rattle.definition.specs.declared.Corner.{Corner}
use Rattle.definition.specs.declared.Triangle.{Triangle}
use Rattle.lists.specs.Lists.{first}
use Rattle.definition.specs.Mesh.{Third, one, two, three, Spot, after, corner_of}
use Rattle.definition.specs.Step4Order.{sound, broken, spots, ordered, welded, welded_to}
use Rattle.definition.specs.Handed.{mesh_from}
use Rattle.definition.specs.Desk.{finite_corner, bad_corner}
use Rattle.definition.specs.Triangles.{triangles}
use Rattle.definition.specs.Frames.{numbered}
use Rattle.laws.proofs.Sharp.{sharp-ends, accepted-real, mesh-sharp as every-sharp}
use Rattle.laws.proofs.World.{welded-sym}
use Rattle.laws.proofs.Weld.{welded-refl, welded-as}
use Rattle.view.specs.Frame.{outside, Only}
use Rattle.view.specs.Rows.{row, spot_at, spot_row}
use Rattle.view.specs.Weld.{First, Vertices, Welds, Sharp}
use Rattle.view.proofs.Lists.{bool_iff, first-at, every-index}
use Rattle.view.proofs.Frame.{cell-kept}
use Rattle.view.proofs.Rows.{row_lt, spot_is, spots-length, spots-at}

-- there is one first number that passes
pub first_one : (p q : ℕ → Bool) → ((k : ℕ) → p k ≡ q k) → (u v : ℕ) → First p u → First q v → u ≡ v
first_one p q e u v F G = step (ltb u v) refl (ltb v u) refl
  where
    step : (a : Bool) → ltb u v ≡ a → (b : Bool) → ltb v u ≡ b → u ≡ v
    step true h b k = absurd (true≢false (sym F.passes ∙ (e u ∙ G.least u (ltb-true u v h))))
    step false h true k = absurd (true≢false (sym G.passes ∙ (sym (e v) ∙ F.least v (ltb-true v u k))))
    step false h false k = let a = ltb-false u v h in let b = ltb-false v u k in omega arith

-- the first that passes is no later than one that passes
pub first-low : (p : ℕ → Bool) (u v : ℕ) → First p u → p v ≡ true → u ≤ v
first-low p u v F e = step (ltb v u) refl
  where
    step : (a : Bool) → ltb v u ≡ a → u ≤ v
    step true h = absurd (true≢false (sym e ∙ F.least v (ltb-true v u h)))
    step false h = ltb-false v u h

-- c r is the corner of row r, and v r the first row that is welded to it: equal words, welded corners
weld-words : (c : ℕ → Corner) (r s v₁ v₂ : ℕ) → First (λ k. welded (c r) (c k)) v₁ → First (λ k. welded (c s) (c k)) v₂ → eqb v₁ v₂ ≡ welded (c r) (c s)
weld-words c r s v₁ v₂ F G =
    bool_iff (eqb v₁ v₂) (welded (c r) (c s))
    (λ e.
    let b : welded (c s) (c v₁) ≡ true = ap (λ x. welded (c s) (c x)) (eqb-true v₁ v₂ e) ∙ G.passes in
    welded-as (c r) (c v₁) (c s) F.passes ∙ (welded-sym (c v₁) (c s) ∙ b))
    (λ e. eq-eqb v₁ v₂ (first_one (λ x. welded (c r) (c x)) (λ x. welded (c s) (c x)) (λ x. welded-as (c r) (c s) (c x) e) v₁ v₂ F G))

module _ (rows : ℕ) (xs : List Triangle) (d : Triangle) (w : List ℕ) (W : Vertices rows xs d w) where
  abbrev vertex : ℕ → Third → ℕ
  vertex t i = cell rows vertex_column (row t i) w

  by_row : (t : ℕ) (i : Third) → t < length xs → First (λ k. welded (corner_of (spot_row xs d (row t i))) (corner_of (spot_row xs d k))) (vertex t i)
  by_row t i h = subst (λ s. First (λ k. welded (corner_of s) (corner_of (spot_row xs d k))) (vertex t i)) (sym (spot_is xs d t i)) (W t i h)

  -- two words are equal exactly where the corners are welded
  pub welds : Welds rows xs d w
  welds t u i j h k =
      weld-words (λ r. corner_of (spot_row xs d r)) (row t i) (row u j) (vertex t i) (vertex u j) (by_row t i h) (by_row u j k)
      ∙ (λ z. welded (corner_of (spot_is xs d t i z)) (corner_of (spot_is xs d u j z)))

  -- a word is no later than the row at which it stands
  pub vertex-low : (t : ℕ) (i : Third) → t < length xs → vertex t i ≤ row t i
  vertex-low t i h = first-low (λ k. welded (corner_of (spot_at xs d t i)) (corner_of (spot_row xs d k))) (vertex t i) (row t i) (W t i h) (ap (λ s. welded (corner_of (spot_at xs d t i)) (corner_of s)) (spot_is xs d t i) ∙ welded-refl (corner_of (spot_at xs d t i)))

  -- 'Corners are welded to the first in that list': the word is the row of that corner
  pub welded-first : (t : ℕ) (i : Third) → t < length xs → first (λ s. welded (corner_of (spot_at xs d t i)) (corner_of s)) (spots xs) ≡ some (spot_row xs d (vertex t i))
  welded-first t i h =
      first-at (λ s. welded (corner_of (spot_at xs d t i)) (corner_of s)) (spots xs) (spot_row xs d 0) (vertex t i) (omega (arith, short, spots-length xs))
      (λ k g. ap says (spots-at xs d (spot_row xs d 0) k (omega (arith, g, short))) ∙ (W t i h).least k g)
      (ap says (spots-at xs d (spot_row xs d 0) (vertex t i) short) ∙ (W t i h).passes)
      ∙ ap some (spots-at xs d (spot_row xs d 0) (vertex t i) short)
    where
      says : Spot → Bool
      says s = welded (corner_of (spot_at xs d t i)) (corner_of s)

      short : vertex t i < 3 * length xs
      short = omega (arith, vertex-low t i h, row_lt t (length xs) i h)

  -- no corner of a sharp triangle has the word of another of it
  pub three-vertices : Sharp xs d → (t : ℕ) (i : Third) → t < length xs → eqb (vertex t i) (vertex t (after i)) ≡ false
  three-vertices S t i h = welds t t i (after i) h h ∙ S.apart t i h

-- ---- sound triangles first, then degenerate ones

pub spots-append : (xs ys : List Triangle) → spots (xs ++ ys) ≡ spots xs ++ spots ys
unfolding spots
spots-append [] ys = refl
spots-append (x ∷ xs) ys = ap (λ l. record { tri = x; at = one } ∷ record { tri = x; at = two } ∷ record { tri = x; at = three } ∷ l) (spots-append xs ys)

-- the corner that the definition welds to, of all triangles ts
pub weld-is : (rows : ℕ) (ts : List Triangle) (d : Triangle) (w : List ℕ) → Vertices rows (sound ts ++ broken ts) d w → (t : ℕ) (i : Third) → t < length (sound ts ++ broken ts) → welded_to ts (corner_of (spot_at (sound ts ++ broken ts) d t i)) ≡ some (spot_row (sound ts ++ broken ts) d (cell rows vertex_column (row t i) w))
unfolding welded_to ordered
weld-is rows ts d w W t i h = ap (first (λ s. welded (corner_of (spot_at (sound ts ++ broken ts) d t i)) (corner_of s))) (sym (spots-append (sound ts) (broken ts))) ∙ welded-first rows (sound ts ++ broken ts) d w W t i h

-- what the steps above ask, of the sound triangles alone
pub sound-welds : (rows : ℕ) (ss bs : List Triangle) (d : Triangle) (w : List ℕ) → Welds rows (ss ++ bs) d w → Welds rows ss d w
sound-welds rows ss bs d w W t u i j h k =
    let n = length-append ss bs in
    W t u i j (omega arith) (omega arith)
    ∙ (λ z. welded (corner_of (record { tri = get_or-append ss bs d t h z; at = i })) (corner_of (record { tri = get_or-append ss bs d u k z; at = j })))

-- the sound triangles of an accepted mesh are sharp
pub mesh-sharp : (ps ns ts : List Float) (sizes : List ℕ) (d : Triangle) → ((i : ℕ) → T (fits binary32 (get_or ps i nan))) → bad_corner finite_corner 0 (mesh_from ps ns ts 0 sizes) ≡ none → Sharp (sound (triangles (numbered 0 (mesh_from ps ns ts 0 sizes)))) d
mesh-sharp ps ns ts sizes d held none-bad = record {
  apart = λ t i h. sharp-ends _ (every-index (every-sharp (mesh_from ps ns ts 0 sizes) (accepted-real ps ns ts held 0 sizes none-bad)) t d h) i;
}

-- the column of vertices stands where another is stored in
pub vertices-kept : (ks : List ℕ) (rows : ℕ) (l : List Triangle) (d : Triangle) (w u : List ℕ) → outside ks vertex_column ≡ true → 3 * length l ≤ rows → Only ks rows w u → Vertices rows l d w → Vertices rows l d u
vertices-kept ks rows l d w u c f O F t i h =
    subst (First (λ k. welded (corner_of (spot_at l d t i)) (corner_of (spot_row l d k)))) (sym (cell-kept ks rows w u O vertex_column (row t i) c (omega (arith, row_lt t (length l) i h)))) (F t i h)
