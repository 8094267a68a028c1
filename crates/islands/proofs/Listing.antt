-- One face more in the rows. Assumes nothing.
use Prim.Native.Nat.{ℕ, ◌+◌, ◌*◌, ◌-◌, ◌/◌, ◌≤◌, ◌<◌}
use native.Mathlib.Decide.{dec_lt}
use native.Mathlib.Omega.{arith}
use mathlib.Core.Path.{◌≡◌, refl, sym, ◌∙◌, ap, subst}
use mathlib.Core.Bool.{true, false, true≢false}
use mathlib.Core.List.{List}
use lib.ListN.{length, get_or, set, take, length-set}
use lib.Seq.{get_or-set_same, get_or-set_other}
use Rattle.definition.specs.Handed.{used, corner_count}
use Rattle.view.specs.Frame.{Only}
use Rattle.view.proofs.Frame.{only_none, only-put}
use Rattle.unions.proofs.Stores.{either}
use Rattle.islands.specs.Rows.{NamesCorner, Stands, FacesListed, corner_row, face_row, list_columns, added}
use Rattle.islands.proofs.Sizes.{used-three}

pub listed-none : (sizes : List ℕ) (C N : ℕ → ℕ) → FacesListed sizes 0 0 C N
listed-none sizes C N = record { few = omega arith; among = λ r h. absurd (omega arith); all = λ g n h k. absurd (omega arith) }

-- a face that is not of 3 or 4
pub listed-skip : (sizes : List ℕ) (f k : ℕ) (C N : ℕ → ℕ) → used (get_or sizes f 0) ≡ false → FacesListed sizes f k C N → FacesListed sizes (f + 1) k C N
listed-skip sizes f k C N u l = record {
  few = omega (arith, l.few);
  among = l.among;
  all = λ g n h a. either g f (λ e. absurd (true≢false (sym (subst (λ i. used (get_or sizes i 0) ≡ true) e a.counts) ∙ u))) (λ e. l.all g n (omega arith) a);
}

-- the rows below 4k are as they were; rows 4k to 4k + 3 have corners of face f, among them all of it
record Fresh (k f base size : ℕ) (C N D M : ℕ → ℕ) : Type 0 where
  old : (r : ℕ) → r < 4 * k → D r ≡ C r
  names : (j : ℕ) → j < k → M j ≡ N j
  name : M k ≡ f
  low : (r : ℕ) → 4 * k ≤ r → r < 4 * (k + 1) → base ≤ D r
  high : (r : ℕ) → 4 * k ≤ r → r < 4 * (k + 1) → D r < base + size
  every : (i : ℕ) → i < size → (r : ℕ) × (4 * k ≤ r) × (r < 4 * (k + 1)) × (D r ≡ base + i)

module _ (sizes : List ℕ) (f k : ℕ) (C N D M : ℕ → ℕ) (h : f < length sizes) (u : used (get_or sizes f 0) ≡ true) (l : FacesListed sizes f k C N) (s : Fresh k f (corner_count (take f sizes)) (get_or sizes f 0) C N D M) where
  among-old : (r : ℕ) → r < 4 * k → NamesCorner sizes (M (r / 4)) (D r)
  among-old r i = subst (λ x. NamesCorner sizes (M (r / 4)) x) (sym (s.old r i)) (subst (λ g. NamesCorner sizes g (C r)) (sym (s.names (r / 4) (omega arith))) (l.among r i))

  among-new : (r : ℕ) → 4 * k ≤ r → r < 4 * (k + 1) → NamesCorner sizes (M (r / 4)) (D r)
  among-new r i j =
      let e : r / 4 ≡ k = omega arith in
      subst (λ g. NamesCorner sizes g (D r)) (sym (ap M e ∙ s.name)) (record { below = h; counts = u; from = s.low r i j; to = s.high r i j })

  among-all : (r : ℕ) → r < 4 * (k + 1) → NamesCorner sizes (M (r / 4)) (D r)
  among-all r i = go (dec_lt r (4 * k))
    where
      go : Dec (r < 4 * k) → NamesCorner sizes (M (r / 4)) (D r)
      go (yes j) = among-old r j
      go (no j) = among-new r (omega arith) i

  all_old : (g n : ℕ) → g < f → NamesCorner sizes g n → (r : ℕ) × Stands (k + 1) D M g n r
  all_old g n i a =
      let r = l.all g n i a in
      (r.0, record { row = omega (arith, r.1.row); face = s.names (r.0 / 4) (omega (arith, r.1.row)) ∙ r.1.face; corner = s.old r.0 r.1.row ∙ r.1.corner })

  all_new : (n : ℕ) → NamesCorner sizes f n → (r : ℕ) × Stands (k + 1) D M f n r
  all_new n a =
      let b = corner_count (take f sizes) in
      let r = s.every (n - b) (omega (arith, a.from, a.to)) in
      let e : r.0 / 4 ≡ k = omega (arith, r.1, r.2) in
      let x : b + (n - b) ≡ n = omega (arith, a.from) in
      (r.0, record { row = r.2; face = ap M e ∙ s.name; corner = r.3 ∙ x })

  listed-fresh : FacesListed sizes (f + 1) (k + 1) D M
  listed-fresh = record {
    few = omega (arith, l.few);
    among = among-all;
    all = λ g n i a. either g f (λ e. subst (λ x. (r : ℕ) × Stands (k + 1) D M x n r) (sym e) (all_new n (subst (λ x. NamesCorner sizes x n) e a))) (λ e. all_old g n (omega arith) a);
  }

-- ---- the stores

three-left : (i : ℕ) → (i ≡ 0 → ⊥) → (i ≡ 1 → ⊥) → (i ≡ 2 → ⊥) → 3 ≤ i
three-left i a b c = omega (arith, a, b, c)

top : (base i size : ℕ) → 3 ≤ i → i < size → size ≤ 4 → base + (size - 1) ≡ base + i
top base i size a b c = omega arith

module _ (rows k f base size : ℕ) (w : List ℕ) (room : 4 * k + 4 ≤ rows) (long : 21 * rows ≤ length w) (three : 3 ≤ size) (four : size ≤ 4) where
  abbrev at : ℕ
  at = 2 * rows + 4 * k

  abbrev w1 : List ℕ
  w1 = set w at base

  abbrev w2 : List ℕ
  w2 = set w1 (at + 1) (base + 1)

  abbrev w3 : List ℕ
  w3 = set w2 (at + 2) (base + 2)

  abbrev w4 : List ℕ
  w4 = set w3 (at + 3) (base + (size - 1))

  abbrev w5 : List ℕ
  w5 = set w4 (4 * rows + k) f

  l1 : length w1 ≡ length w
  l1 = length-set w at base

  l2 : length w2 ≡ length w
  l2 = length-set w1 (at + 1) (base + 1) ∙ l1

  l3 : length w3 ≡ length w
  l3 = length-set w2 (at + 2) (base + 2) ∙ l2

  l4 : length w4 ≡ length w
  l4 = length-set w3 (at + 3) (base + (size - 1)) ∙ l3

  -- past the last store
  last : (r : ℕ) → r < rows → get_or w5 (2 * rows + r) 0 ≡ get_or w4 (2 * rows + r) 0
  last r h = get_or-set_other w4 (4 * rows + k) (2 * rows + r) f 0 (λ e. omega arith)

  old : (r : ℕ) → r < 4 * k → get_or w5 (2 * rows + r) 0 ≡ get_or w (2 * rows + r) 0
  old r h =
      last r (omega arith)
      ∙ get_or-set_other w3 (at + 3) (2 * rows + r) (base + (size - 1)) 0 (λ e. omega arith)
      ∙ get_or-set_other w2 (at + 2) (2 * rows + r) (base + 2) 0 (λ e. omega arith)
      ∙ get_or-set_other w1 (at + 1) (2 * rows + r) (base + 1) 0 (λ e. omega arith)
      ∙ get_or-set_other w at (2 * rows + r) base 0 (λ e. omega arith)

  names : (j : ℕ) → j < k → get_or w5 (4 * rows + j) 0 ≡ get_or w (4 * rows + j) 0
  names j h =
      get_or-set_other w4 (4 * rows + k) (4 * rows + j) f 0 (λ e. omega arith)
      ∙ get_or-set_other w3 (at + 3) (4 * rows + j) (base + (size - 1)) 0 (λ e. omega arith)
      ∙ get_or-set_other w2 (at + 2) (4 * rows + j) (base + 2) 0 (λ e. omega arith)
      ∙ get_or-set_other w1 (at + 1) (4 * rows + j) (base + 1) 0 (λ e. omega arith)
      ∙ get_or-set_other w at (4 * rows + j) base 0 (λ e. omega arith)

  name : get_or w5 (4 * rows + k) 0 ≡ f
  name = get_or-set_same w4 (4 * rows + k) f 0 (omega (arith, l4))

  cell-3 : get_or w5 (2 * rows + (4 * k + 3)) 0 ≡ base + (size - 1)
  cell-3 =
      let e : 2 * rows + (4 * k + 3) ≡ at + 3 = omega arith in
      last (4 * k + 3) (omega arith) ∙ ap (λ i. get_or w4 i 0) e ∙ get_or-set_same w3 (at + 3) (base + (size - 1)) 0 (omega (arith, l3))

  cell-2 : get_or w5 (2 * rows + (4 * k + 2)) 0 ≡ base + 2
  cell-2 =
      let e : 2 * rows + (4 * k + 2) ≡ at + 2 = omega arith in
      last (4 * k + 2) (omega arith) ∙ ap (λ i. get_or w4 i 0) e
      ∙ get_or-set_other w3 (at + 3) (at + 2) (base + (size - 1)) 0 (λ e. omega arith)
      ∙ get_or-set_same w2 (at + 2) (base + 2) 0 (omega (arith, l2))

  cell-1 : get_or w5 (2 * rows + (4 * k + 1)) 0 ≡ base + 1
  cell-1 =
      let e : 2 * rows + (4 * k + 1) ≡ at + 1 = omega arith in
      last (4 * k + 1) (omega arith) ∙ ap (λ i. get_or w4 i 0) e
      ∙ get_or-set_other w3 (at + 3) (at + 1) (base + (size - 1)) 0 (λ e. omega arith)
      ∙ get_or-set_other w2 (at + 2) (at + 1) (base + 2) 0 (λ e. omega arith)
      ∙ get_or-set_same w1 (at + 1) (base + 1) 0 (omega (arith, l1))

  cell-0 : get_or w5 (2 * rows + 4 * k) 0 ≡ base
  cell-0 =
      last (4 * k) (omega arith)
      ∙ get_or-set_other w3 (at + 3) at (base + (size - 1)) 0 (λ e. omega arith)
      ∙ get_or-set_other w2 (at + 2) at (base + 2) 0 (λ e. omega arith)
      ∙ get_or-set_other w1 (at + 1) at (base + 1) 0 (λ e. omega arith)
      ∙ get_or-set_same w at base 0 (omega arith)

  -- by cases
  four-cases : (P : ℕ → Type 0) → P (4 * k) → P (4 * k + 1) → P (4 * k + 2) → P (4 * k + 3) → (r : ℕ) → 4 * k ≤ r → r < 4 * (k + 1) → P r
  four-cases P p0 p1 p2 p3 r h i =
      either r (4 * k) (λ e. subst P (sym e) p0) (λ a.
      either r (4 * k + 1) (λ e. subst P (sym e) p1) (λ b.
      either r (4 * k + 2) (λ e. subst P (sym e) p2) (λ c.
      let e : r ≡ 4 * k + 3 = omega (arith, a, b, c) in subst P (sym e) p3)))

  abbrev D : ℕ → ℕ
  D r = get_or w5 (2 * rows + r) 0

  row_of : (i : ℕ) → i < size → (r : ℕ) × (4 * k ≤ r) × (r < 4 * (k + 1)) × (D r ≡ base + i)
  row_of i h =
      either i 0 (λ e. (4 * k, omega arith, omega arith, cell-0 ∙ omega arith)) (λ a.
      either i 1 (λ e. (4 * k + 1, omega arith, omega arith, cell-1 ∙ omega arith)) (λ b.
      either i 2 (λ e. (4 * k + 2, omega arith, omega arith, cell-2 ∙ omega arith)) (λ c.
      let e = top base i size (three-left i a b c) h four in (4 * k + 3, omega arith, omega arith, cell-3 ∙ e))))

  fresh : Fresh k f base size (corner_row rows w) (face_row rows w) (corner_row rows w5) (face_row rows w5)
  fresh = record {
    old = old;
    names = names;
    name = name;
    low = four-cases (λ r. base ≤ D r) (omega (arith, cell-0)) (omega (arith, cell-1)) (omega (arith, cell-2)) (omega (arith, cell-3));
    high = four-cases (λ r. D r < base + size) (omega (arith, cell-0)) (omega (arith, cell-1)) (omega (arith, cell-2)) (omega (arith, cell-3));
    every = row_of;
  }

  put-at : (u : List ℕ) (i v : ℕ) → i < 4 → Only list_columns rows w u → Only list_columns rows w (set u (at + i) v)
  put-at u i v h o =
      let e : 2 * rows + (4 * k + i) ≡ at + i = omega arith in
      subst (λ x. Only list_columns rows w (set u x v)) e (only-put list_columns rows w u 2 (4 * k + i) v refl (omega arith) (omega arith) o)

  pub added-only : Only list_columns rows w w5
  added-only =
      let o1 = only-put list_columns rows w w 2 (4 * k) base refl (omega arith) (omega arith) (only_none list_columns rows w) in
      only-put list_columns rows w w4 4 k f refl (omega arith) (omega arith) (put-at w3 3 (base + (size - 1)) (omega arith) (put-at w2 2 (base + 2) (omega arith) (put-at w1 1 (base + 1) (omega arith) o1)))

-- one face of 3 or 4 more
pub listed_more : (sizes : List ℕ) (rows f k base size : ℕ) (w : List ℕ) → 4 * k + 4 ≤ rows → 21 * rows ≤ length w → f < length sizes → size ≡ get_or sizes f 0 → base ≡ corner_count (take f sizes) → used size ≡ true → FacesListed sizes f k (corner_row rows w) (face_row rows w) → FacesListed sizes (f + 1) (k + 1) (corner_row rows (added rows k f base size w)) (face_row rows (added rows k f base size w))
listed_more sizes rows f k base size w room long h e b u l =
    let t = used-three size u in
    let s = fresh rows k f base size w room long t.0 t.1 in
    listed-fresh sizes f k _ _ _ _ h (subst (λ n. used n ≡ true) e u) l
    (subst (λ n. Fresh k f (corner_count (take f sizes)) n (corner_row rows w) (face_row rows w) (corner_row rows (added rows k f base size w)) (face_row rows (added rows k f base size w))) e
    (subst (λ n. Fresh k f n size (corner_row rows w) (face_row rows w) (corner_row rows (added rows k f base size w)) (face_row rows (added rows k f base size w))) b s))
