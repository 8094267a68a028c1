-- Rows: the corners of the triangles by number. Assumes nothing.
use Prim.Native.Nat.{ℕ, zero, suc, ◌+◌, ◌*◌, ◌/◌, ◌%◌, ◌≤◌, ◌<◌}
use native.Mathlib.Nat.{mul-add-div, div-eq_of_lt, add-zero, div-add-mod, mod-lt, mul-add-mod_self_left, mod-eq_of_lt}
use native.Mathlib.Omega.{arith}
use mathlib.Core.Path.{◌≡◌, refl, sym, ◌∙◌, ap}
use mathlib.Core.Bool.{Bool, true, false, ◌&&◌}
use mathlib.Core.List.{List, [], ◌∷◌, map, Memᴰ}
use lib.Dec.{eqb}
use lib.ListN.{length, get_or, length-map, get_or-map}
use lib.Seq.{ext_get_or}
use borrow.Author.Tests.{eq-eqb, ne_eqb, eqb-true, eqb-false}
use Rattle.lists.specs.Loops.{list_of}
use Rattle.lists.proofs.Loops.{length-list_of, get_or-list_of}
use Rattle.definition.specs.declared.Triangle.{Triangle}
use Rattle.definition.specs.Mesh.{Third, one, two, three, Spot, same_third, same_spot}
use Rattle.definition.specs.Step4Order.{spots}
use Rattle.definition.specs.Names.{Names}
use Rattle.laws.proofs.Bridge.{index_same}
use Rattle.view.specs.Rows.{num, third, row, spot_at, spot_row}

-- ---- a row as triangle and corner

pub num-lt : (i : Third) → num i < 3
unfolding num
num-lt one = omega arith
num-lt two = omega arith
num-lt three = omega arith

num-third : (x : ℕ) → x < 3 → num (third x) ≡ x
unfolding num third
num-third zero h = refl
num-third (suc zero) h = refl
num-third (suc (suc zero)) h = refl
num-third (suc (suc (suc x))) h = absurd (omega arith)

pub third-num : (i : Third) → third (num i) ≡ i
unfolding num third
third-num one = refl
third-num two = refl
third-num three = refl

pub row_is : (r : ℕ) → row (r / 3) (third (r % 3)) ≡ r
row_is r = ap (λ x. 3 * (r / 3) + x) (num-third (r % 3) (mod-lt r (omega arith))) ∙ div-add-mod r 3

pub tri-lt : (r n : ℕ) → r < 3 * n → r / 3 < n
tri-lt r n h = let a = div-add-mod r 3 in omega arith

pub row_lt : (t n : ℕ) (i : Third) → t < n → row t i < 3 * n
row_lt t n i h = let a = num-lt i in omega arith

-- so it is one of the rows, where the triangles have room
pub row_fits : (rows : ℕ) (ss : List Triangle) → 3 * length ss ≤ rows → (t : ℕ) (i : Third) → t < length ss → row t i < rows
row_fits rows ss fits t i h = omega (arith, row_lt t (length ss) i h)

pub row-div : (t : ℕ) (i : Third) → row t i / 3 ≡ t
row-div t i = mul-add-div {m = 3} (omega arith) t (num i) ∙ (ap (λ n. t + n) (div-eq_of_lt (num-lt i)) ∙ add-zero t)

-- the corner of the row of a corner is that corner
pub spot_is : (ss : List Triangle) (d : Triangle) (t : ℕ) (i : Third) → spot_row ss d (row t i) ≡ spot_at ss d t i
spot_is ss d t i = λ k. spot_at ss d (row-div t i k) (third_at k)
  where
    third_at : third (row t i % 3) ≡ i
    third_at = ap third (mul-add-mod_self_left 3 t (num i) ∙ mod-eq_of_lt (num-lt i)) ∙ third-num i

-- ---- one row, one corner

third-row : (n : ℕ) (i j : Third) → same_third i j ≡ eqb (n + num i) (n + num j)
unfolding num same_third
third-row n one one = sym (eq-eqb (n + 0) (n + 0) refl)
third-row n one two = sym (ne_eqb (n + 0) (n + 1) (λ e. omega arith))
third-row n one three = sym (ne_eqb (n + 0) (n + 2) (λ e. omega arith))
third-row n two one = sym (ne_eqb (n + 1) (n + 0) (λ e. omega arith))
third-row n two two = sym (eq-eqb (n + 1) (n + 1) refl)
third-row n two three = sym (ne_eqb (n + 1) (n + 2) (λ e. omega arith))
third-row n three one = sym (ne_eqb (n + 2) (n + 0) (λ e. omega arith))
third-row n three two = sym (ne_eqb (n + 2) (n + 1) (λ e. omega arith))
third-row n three three = sym (eq-eqb (n + 2) (n + 2) refl)

row_same : (t u : ℕ) (i j : Third) → (eqb t u && same_third i j) ≡ eqb (row t i) (row u j)
row_same t u i j = go (eqb t u) refl
  where
    go : (b : Bool) → eqb t u ≡ b → (b && same_third i j) ≡ eqb (row t i) (row u j)
    go true e = third-row (3 * t) i j ∙ ap (λ n. eqb (row t i) (3 * n + num j)) (eqb-true t u e)
    go false e = let h = eqb-false t u e in let a = num-lt i in let b = num-lt j in sym (ne_eqb (row t i) (row u j) (λ q. h (omega arith)))

pub spot-row : {ss : List Triangle} → Names ss → (d : Triangle) (t u : ℕ) (i j : Third) → t < length ss → u < length ss → same_spot (spot_at ss d t i) (spot_at ss d u j) ≡ eqb (row t i) (row u j)
unfolding same_spot
spot-row {ss} N d t u i j h k = ap (λ b. b && same_third i j) (index_same N t u d h k) ∙ row_same t u i j

-- ---- the corners of the triangles, row by row

-- every row's corner is one of the triangles' corners
pub spot_in : (ss : List Triangle) (d : Triangle) (t : ℕ) (i : Third) → t < length ss → Memᴰ (spot_at ss d t i) (spots ss)
unfolding spots
spot_in [] d t i h = absurd (omega arith)
spot_in (x ∷ ss) d zero one h = Memᴰ.head refl
spot_in (x ∷ ss) d zero two h = Memᴰ.tail (Memᴰ.head refl)
spot_in (x ∷ ss) d zero three h = Memᴰ.tail (Memᴰ.tail (Memᴰ.head refl))
spot_in (x ∷ ss) d (suc t) i h = Memᴰ.tail (Memᴰ.tail (Memᴰ.tail (spot_in ss d t i (omega arith))))

pub spots-length : (ss : List Triangle) → length (spots ss) ≡ 3 * length ss
unfolding spots
spots-length [] = refl
spots-length (t ∷ ss) = let h = spots-length ss in omega arith

get_or-spots : (ss : List Triangle) (d : Triangle) (e : Spot) (t : ℕ) (i : Third) → t < length ss → get_or (spots ss) (row t i) e ≡ spot_at ss d t i
unfolding spots num
get_or-spots [] d e t i h = absurd (omega arith)
get_or-spots (x ∷ ss) d e zero one h = refl
get_or-spots (x ∷ ss) d e zero two h = refl
get_or-spots (x ∷ ss) d e zero three h = refl
get_or-spots (x ∷ ss) d e (suc t) i h =
    let p : row (suc t) i ≡ suc (suc (suc (row t i))) = omega arith in
    ap (λ k. get_or (spots (x ∷ ss)) k e) p ∙ get_or-spots ss d e t i (omega arith)

pub spots-at : (ss : List Triangle) (d : Triangle) (e : Spot) (k : ℕ) → k < 3 * length ss → get_or (spots ss) k e ≡ spot_row ss d k
spots-at ss d e k h = ap (λ r. get_or (spots ss) r e) (sym (row_is k)) ∙ get_or-spots ss d e (k / 3) (third (k % 3)) (tri-lt k (length ss) h)

pub spots-rows : (ss : List Triangle) (d : Triangle) → spots ss ≡ map (spot_row ss d) (list_of (3 * length ss) (λ k. k))
spots-rows ss d =
    ext_get_or (spot_row ss d 0) (spots ss) (map (spot_row ss d) rs) (spots-length ss ∙ sym (length-map rs (spot_row ss d) ∙ length-list_of (3 * length ss) (λ k. k)))
    (λ k h.
    let l : k < 3 * length ss = let a = spots-length ss in omega arith in
    spots-at ss d (spot_row ss d 0) k l ∙ sym (get_or-map (spot_row ss d) rs k 0 ∙ ap (spot_row ss d) (get_or-list_of (3 * length ss) (λ k. k) 0 k l)))
  where
    rs : List ℕ
    rs = list_of (3 * length ss) (λ k. k)

-- ---- a row has one triangle and one corner

pub row-inj : (t u : ℕ) (i j : Third) → row t i ≡ row u j → t ≡ u
row-inj t u i j e = let a = num-lt i in let b = num-lt j in omega arith

num-inj : (i j : Third) → num i ≡ num j → i ≡ j
num-inj i j e = sym (third-num i) ∙ (ap third e ∙ third-num j)

pub at-inj : (t u : ℕ) (i j : Third) → row t i ≡ row u j → i ≡ j
at-inj t u i j e = let a = num-lt i in let b = num-lt j in num-inj i j (omega arith)
