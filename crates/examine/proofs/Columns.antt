-- From what the columns hold to the triangles themselves, and the work list in the end. Assumes nothing.
use Prim.Native.Nat.{ℕ, ◌+◌, ◌*◌, ◌/◌, ◌%◌, ◌≤◌, ◌<◌}
use native.Mathlib.Omega.{arith}
use mathlib.Core.Path.{◌≡◌, sym, ap, subst, ◌∙◌}
use mathlib.Core.Bool.{true≢false}
use mathlib.Core.List.{List, ◌++◌}
use mathlib.Core.Option.{none}
use lib.ListN.{length, drop, replicate, length-append, get_or-append}
use lib.Seq.{drop-drop}
use borrow.Author.Tests.{eq-eqb, eqb-true}
use Rattle.definition.specs.Frames.{triangles_of}
use Rattle.tangent.specs.Slot.{flag}
use Rattle.table.specs.Table.{cell}
use Rattle.table.specs.Columns.{columns, rows_of, orientation_column, any_column, vertex_column}
use Rattle.definition.specs.Handed.{Handed}
use Rattle.definition.specs.declared.Triangle.{Triangle}
use Rattle.definition.specs.Limits.{work_words}
use Rattle.definition.specs.Desk.{not_finite}
use Rattle.definition.specs.Mesh.{after}
use Rattle.definition.specs.Step4Order.{sound, broken}
use Rattle.neighbors.specs.Sides.{end_row}
use Rattle.neighbors.proofs.Sided.{end_is}
use Rattle.view.specs.Rows.{row, third}
use Rattle.view.specs.Weld.{Welds}
use Rattle.view.specs.Links.{Five}
use Rattle.view.proofs.Rows.{row_is, tri-lt}
use Rattle.view.proofs.Weld.{welds, sound-welds}
use Rattle.grouped.specs.Links.{LeftByFive}
use Rattle.grouped.specs.declared.MeshCounts.{MeshCounts}
use Rattle.grouped.specs.Grouped as grouped
use Rattle.asked.specs.Lowest.{Verdict}
use Rattle.asked.specs.Links.{Equal}
use Rattle.asked.specs.Groups.{Connected}
use Rattle.asked.specs.Meaning.{Same, any_of, way_of, Examines}
use Rattle.asked.proofs.Likes.{applies-like}
use Rattle.asked.proofs.Stages.{verdict-like}
use Rattle.fellows.specs.Fellows.{applies_here}
use Rattle.examine.specs.Deciding.{Overall}
use Rattle.examine.specs.Contract.{sound_of, cleared_for, Decides}

-- the work list is as it was past what is cleared
pub cleared : (sizes w z y : List ℕ) → drop (columns * rows_of (length sizes)) z ≡ drop (columns * rows_of (length sizes)) w → y ≡ cleared_for sizes z → y ≡ cleared_for sizes w
cleared sizes w z y past e =
    let f = length sizes in
    let n : columns * rows_of f + 2 * f ≡ work_words * f = omega arith in
    let at : (l : List ℕ) → drop (2 * f) (drop (columns * rows_of f) l) ≡ drop (work_words * f) l = λ l. drop-drop (2 * f) (columns * rows_of f) l ∙ ap (λ (k : ℕ). drop k l) n in
    e ∙ ap (λ (l : List ℕ). replicate (work_words * f) 0 ++ l) (sym (at z) ∙ (ap (drop (2 * f)) past ∙ at w))

-- the sound triangles' corners have rows, for the counts of steps 1 to 5 and of steps 1 to 6
sound-fit : (xs : List Triangle) (n rows : ℕ) → n ≡ length (sound xs) → 3 * length (sound xs ++ broken xs) ≤ rows → 3 * n ≤ rows
sound-fit xs n rows e h = omega (arith, length-append (sound xs) (broken xs))

pub linked-fit : (mesh : Handed) (n m : ℕ) (w u : List ℕ) → LeftByFive mesh n m w u → 3 * n ≤ rows_of (length mesh.sizes)
linked-fit mesh n m w u K = sound-fit (triangles_of mesh) n (rows_of (length mesh.sizes)) K.sound_count K.fits

pub grouped-fit : (mesh : Handed) (c : MeshCounts) (w u : List ℕ) → grouped.LeftBySix mesh c w u → 3 * c.sound ≤ rows_of (length mesh.sizes)
grouped-fit mesh c w u K = sound-fit (triangles_of mesh) c.sound (rows_of (length mesh.sizes)) K.sound_count K.fits

-- ---- the triangles in the columns

-- equal words exactly where corners are welded
module _ (rows : ℕ) (ss : List Triangle) (d : Triangle) (u : List ℕ) (W : Welds rows ss d u) where
  pub to_same : (r q : ℕ) → r < 3 * length ss → q < 3 * length ss → cell rows vertex_column r u ≡ cell rows vertex_column q u → Same ss d r q
  to_same r q h k e =
      sym (W (r / 3) (q / 3) (third (r % 3)) (third (q % 3)) (tri-lt r (length ss) h) (tri-lt q (length ss) k)) ∙ eq-eqb _ _ (ap (λ (x : ℕ). cell rows vertex_column x u) (row_is r) ∙ (e ∙ ap (λ (x : ℕ). cell rows vertex_column x u) (sym (row_is q))))

  pub from-same : (r q : ℕ) → r < 3 * length ss → q < 3 * length ss → Same ss d r q → cell rows vertex_column r u ≡ cell rows vertex_column q u
  from-same r q h k s =
      ap (λ (x : ℕ). cell rows vertex_column x u) (sym (row_is r))
      ∙ (eqb-true _ _ (W (r / 3) (q / 3) (third (r % 3)) (third (q % 3)) (tri-lt r (length ss) h) (tri-lt q (length ss) k) ∙ s) ∙ ap (λ (x : ℕ). cell rows vertex_column x u) (row_is q))

module _ (rows : ℕ) (mesh : Handed) (xs : List Triangle) (d : Triangle) (u : List ℕ) (five : Five rows mesh xs d u) where
  abbrev ss : List Triangle
  ss = sound xs

  abbrev vertex : ℕ → ℕ
  vertex r = cell rows vertex_column r u

  words : Welds rows ss d u
  words = sound-welds rows ss (broken xs) d u (welds rows (ss ++ broken xs) d u five.vertices)

  few : length ss ≤ length (ss ++ broken xs)
  few = omega (arith, length-append ss (broken xs))

  pub any-is : (t : ℕ) → t < length ss → cell rows any_column t u ≡ any_of ss d t
  any-is t h = (five.held t (omega (arith, few))).loose ∙ ap (λ (x : Triangle). flag x.any) (get_or-append ss (broken xs) d t h)

  pub way-is : (t : ℕ) → t < length ss → cell rows orientation_column t u ≡ way_of ss d t
  way-is t h = (five.held t (omega (arith, few))).way ∙ ap (λ (x : Triangle). flag x.orientation) (get_or-append ss (broken xs) d t h)

  -- no side has one vertex at both ends
  pub sharp-rows : (r : ℕ) → r < 3 * length ss → vertex r ≡ vertex (end_row r) → ⊥
  sharp-rows r h e =
      let t = tri-lt r (length ss) h in
      let i = third (r % 3) in
      let f : vertex (row (r / 3) i) ≡ vertex (row (r / 3) (after i)) = ap vertex (row_is r) ∙ (e ∙ ap vertex (ap end_row (sym (row_is r)) ∙ end_is (r / 3) i)) in
      true≢false (sym (eq-eqb _ _ f) ∙ (words (r / 3) (r / 3) i (after i) t t ∙ five.sharp.apart (r / 3) i t))

  -- the verdict on the columns is that on the triangles
  pub verdict-is : (L G O : List ℕ) (number place : ℕ) → Verdict (applies_here rows (length ss) u L G O) 13 number place → Examines ss d L G O number place
  verdict-is L G O number place =
      verdict-like (applies_here rows (length ss) u L G O) _ 13
      (applies-like (length ss) (Equal vertex) (Same ss d) L (to_same rows ss d u words) (from-same rows ss d u words) (λ t. cell rows any_column t u) (any_of ss d) (λ t. cell rows orientation_column t u) (way_of ss d) G O any-is way-is)
      (applies-like (length ss) (Same ss d) (Equal vertex) L (from-same rows ss d u words) (to_same rows ss d u words) (any_of ss d) (λ t. cell rows any_column t u) (way_of ss d) (λ t. cell rows orientation_column t u) G O (λ t h. sym (any-is t h)) (λ t h. sym (way-is t h)))
      number place

pub decides : (mesh : Handed) (n m : ℕ) (w u L G O : List ℕ) (number place : ℕ) → LeftByFive mesh n m w u → not_finite mesh ≡ none → Overall (rows_of (length mesh.sizes)) n u L G O number place → Decides (sound_of mesh) L G O number place
decides mesh n m w u L G O number place K good R =
    let rows = rows_of (length mesh.sizes) in
    record {
      verdict = λ d. verdict-is rows mesh (triangles_of mesh) d u (K.stands good d) L G O number place (subst (λ (x : ℕ). Verdict (applies_here rows x u L G O) 13 number place) K.sound_count R.verdict);
      connected = λ e. subst (λ (x : ℕ). Connected x L G) K.sound_count (R.connected e);
    }

pub sharp-left : (mesh : Handed) (d : Triangle) (n m : ℕ) (w u : List ℕ) → LeftByFive mesh n m w u → not_finite mesh ≡ none → (r : ℕ) → r < 3 * n → cell (rows_of (length mesh.sizes)) vertex_column r u ≡ cell (rows_of (length mesh.sizes)) vertex_column (end_row r) u → ⊥
sharp-left mesh d n m w u K good r h = sharp-rows (rows_of (length mesh.sizes)) mesh (triangles_of mesh) d u (K.stands good d) r (subst (λ (x : ℕ). r < 3 * x) K.sound_count h)
