-- One face more is gathered. Assumes nothing.
use Prim.Native.Nat.{ℕ, zero, suc, ◌+◌, ◌*◌, ◌≤◌, ◌<◌}
use native.Mathlib.Nat.{le_of_suc-le-suc, not-suc-le-zero}
use native.Mathlib.Numerals.{add-one}
use native.Mathlib.Omega.{arith}
use mathlib.Core.Path.{◌≡◌, refl, sym, ◌∙◌, ap, subst}
use mathlib.Core.Bool.{Bool, true, false, cond}
use mathlib.Core.List.{List, [], ◌∷◌, ◌++◌, append-nil}
use lib.ListN.{length, get_or, set, take, drop}
use lib.Seq.{take-suc, length-take-le, get_or-drop}
use lib.Ieee.{Float, nan}
use Rattle.definition.proofs.Lengths.{mesh-length}
use Rattle.math.specs.Vector.{vec}
use Rattle.definition.specs.declared.Corner.{Corner}
use Rattle.definition.specs.Handed.{mesh_of, Handed, vector_at, corner_at, corners_from, mesh_from, corner_count}
use Rattle.islands.specs.Together.{picked}
use Rattle.islands.proofs.Sizes.{face-is}
use Rattle.apart.specs.Lists.{Copied}
use Rattle.apart.specs.Gather.{Alike, normals_in, texture_in, mesh_in, Laid, Gathered}

-- ---- one more at the end

picked-end : {X : Type 0} (q : ℕ → Bool) (n : ℕ) (l : List X) (x : X) → picked q n (l ++ (x ∷ [])) ≡ picked q n l ++ cond (q (n + length l)) (x ∷ []) []
unfolding picked
picked-end q n [] x = ap (λ i. cond (q i) (x ∷ []) []) (omega arith)
picked-end q n (y ∷ l) x = ap (λ r. cond (q n) (y ∷ r) r) (picked-end q (suc n) l x ∙ ap (λ i. picked q (suc n) l ++ cond (q i) (x ∷ []) []) (omega arith)) ∙ push (q n) y (picked q (suc n) l) (cond (q (n + suc (length l))) (x ∷ []) [])
  where
    push : {X : Type 0} (b : Bool) (y : X) (l k : List X) → cond b (y ∷ (l ++ k)) (l ++ k) ≡ cond b (y ∷ l) l ++ k
    push true y l k = refl
    push false y l k = refl

mesh-end : (ps ns ts : List Float) (i : ℕ) (l : List ℕ) (z : ℕ) → mesh_from ps ns ts i (l ++ (z ∷ [])) ≡ mesh_from ps ns ts i l ++ (corners_from ps ns ts (i + corner_count l) z ∷ [])
unfolding mesh_from corner_count
mesh-end ps ns ts i [] z = ap (λ j. corners_from ps ns ts j z ∷ []) (omega arith)
mesh-end ps ns ts i (n ∷ l) z = ap (λ r. corners_from ps ns ts i n ∷ r) (mesh-end ps ns ts (i + n) l z ∙ ap (λ j. mesh_from ps ns ts (i + n) l ++ (corners_from ps ns ts j z ∷ [])) (omega arith))

-- ---- the same numbers elsewhere

alike_next : (ps ns ts xs ys zs : List Float) (a b n : ℕ) → Alike ps ns ts xs ys zs a b (suc n) → Alike ps ns ts xs ys zs (suc a) (suc b) n
alike_next ps ns ts xs ys zs a b n h = record {
  positions = λ j k. shift 3 xs ps j (h.positions (3 + j) (omega arith));
  normals = λ j k. shift 3 ys ns j (h.normals (3 + j) (omega arith));
  texture = λ j k. shift2 zs ts j (h.texture (2 + j) (omega arith));
}
  where
    shift : (w : ℕ) (us vs : List Float) (j : ℕ) → get_or us (3 * b + (3 + j)) nan ≡ get_or vs (3 * a + (3 + j)) nan → get_or us (3 * suc b + j) nan ≡ get_or vs (3 * suc a + j) nan
    shift w us vs j e = let p : 3 * suc b + j ≡ 3 * b + (3 + j) = omega arith in let q : 3 * a + (3 + j) ≡ 3 * suc a + j = omega arith in ap (λ i. get_or us i nan) p ∙ e ∙ ap (λ i. get_or vs i nan) q

    shift2 : (us vs : List Float) (j : ℕ) → get_or us (2 * b + (2 + j)) nan ≡ get_or vs (2 * a + (2 + j)) nan → get_or us (2 * suc b + j) nan ≡ get_or vs (2 * suc a + j) nan
    shift2 us vs j e = let p : 2 * suc b + j ≡ 2 * b + (2 + j) = omega arith in let q : 2 * a + (2 + j) ≡ 2 * suc a + j = omega arith in ap (λ i. get_or us i nan) p ∙ e ∙ ap (λ i. get_or vs i nan) q

-- a number of a corner
one : (w : ℕ) (us vs : List Float) (a b i : ℕ) → get_or us (w * b + i) nan ≡ get_or vs (w * a + i) nan → get_or us (b * w + i) nan ≡ get_or vs (a * w + i) nan
one w us vs a b i e = ap (λ x. get_or us (x + i) nan) (native.Mathlib.Nat.mul_comm b w) ∙ e ∙ ap (λ x. get_or vs (x + i) nan) (native.Mathlib.Nat.mul_comm w a)

first_one : (w : ℕ) (us vs : List Float) (a b : ℕ) → get_or us (w * b + 0) nan ≡ get_or vs (w * a + 0) nan → get_or us (b * w) nan ≡ get_or vs (a * w) nan
first_one w us vs a b e = let p : b * w ≡ b * w + 0 = omega arith in let q : a * w + 0 ≡ a * w = omega arith in ap (λ x. get_or us x nan) p ∙ one w us vs a b 0 e ∙ ap (λ x. get_or vs x nan) q

vector-alike : (us vs : List Float) (a b : ℕ) → ((j : ℕ) → j < 3 → get_or us (3 * b + j) nan ≡ get_or vs (3 * a + j) nan) → vector_at us b ≡ vector_at vs a
unfolding vector_at
vector-alike us vs a b h = λ i. vec (first_one 3 us vs a b (h 0 (omega arith)) i) (one 3 us vs a b 1 (h 1 (omega arith)) i) (one 3 us vs a b 2 (h 2 (omega arith)) i)

corner-alike : (ps ns ts xs ys zs : List Float) (a b n : ℕ) → Alike ps ns ts xs ys zs a b (suc n) → corner_at xs ys zs b ≡ corner_at ps ns ts a
unfolding corner_at
corner-alike ps ns ts xs ys zs a b n h =
    λ i.
    record {
      place = vector-alike xs ps a b (λ j k. h.positions j (omega arith)) i;
      normal = vector-alike ys ns a b (λ j k. h.normals j (omega arith)) i;
      u = first_one 2 zs ts a b (h.texture 0 (omega arith)) i;
      v = one 2 zs ts a b 1 (h.texture 1 (omega arith)) i;
      tag = 0;
    }

pub corners-alike : (ps ns ts xs ys zs : List Float) (a b n : ℕ) → Alike ps ns ts xs ys zs a b n → corners_from xs ys zs b n ≡ corners_from ps ns ts a n
unfolding corners_from
corners-alike ps ns ts xs ys zs a b zero h = refl
corners-alike ps ns ts xs ys zs a b (suc n) h = λ i. corner-alike ps ns ts xs ys zs a b n h i ∷ corners-alike ps ns ts xs ys zs (suc a) (suc b) n (alike_next ps ns ts xs ys zs a b n h) i

-- ---- what was gathered stays

alike-front : (ps ns ts xs ys zs : List Float) (a b n m : ℕ) → Alike ps ns ts xs ys zs a b (n + m) → Alike ps ns ts xs ys zs a b n
alike-front ps ns ts xs ys zs a b n m h = record { positions = λ j k. h.positions j (omega arith); normals = λ j k. h.normals j (omega arith); texture = λ j k. h.texture j (omega arith) }

further : (w i n j : ℕ) (us vs : List Float) → get_or us (w * i + (w * n + j)) nan ≡ get_or vs (w * i + (w * n + j)) nan → get_or us (w * (i + n) + j) nan ≡ get_or vs (w * (i + n) + j) nan
further w i n j us vs e = let p : w * (i + n) + j ≡ w * i + (w * n + j) = ap (λ x. x + j) (native.Mathlib.Nat.mul-add w i n) ∙ native.Mathlib.Nat.add_assoc (w * i) (w * n) j in ap (λ x. get_or us x nan) p ∙ e ∙ ap (λ x. get_or vs x nan) (sym p)

alike-back : (ps ns ts xs ys zs : List Float) (i n m : ℕ) → Alike ps ns ts xs ys zs i i (n + m) → Alike ps ns ts xs ys zs (i + n) (i + n) m
alike-back ps ns ts xs ys zs i n m h = record {
  positions = λ j k. further 3 i n j xs ps (h.positions (3 * n + j) (omega arith));
  normals = λ j k. further 3 i n j ys ns (h.normals (3 * n + j) (omega arith));
  texture = λ j k. further 2 i n j zs ts (h.texture (2 * n + j) (omega arith));
}

pub mesh-alike : (ps ns ts xs ys zs : List Float) (i : ℕ) (l : List ℕ) → Alike ps ns ts xs ys zs i i (corner_count l) → mesh_from xs ys zs i l ≡ mesh_from ps ns ts i l
unfolding mesh_from corner_count
mesh-alike ps ns ts xs ys zs i [] h = refl
mesh-alike ps ns ts xs ys zs i (n ∷ l) h = λ j. corners-alike ps ns ts xs ys zs i i n (alike-front ps ns ts xs ys zs i i n (corner_count l) h) j ∷ mesh-alike ps ns ts xs ys zs (i + n) l (alike-back ps ns ts xs ys zs i n (corner_count l) h) j

take-one : (l : List ℕ) (k v : ℕ) → k < length l → take (suc k) (set l k v) ≡ take k l ++ (v ∷ [])
take-one [] k v h = absurd (not-suc-le-zero h)
take-one (x ∷ l) zero v h = refl
take-one (x ∷ l) (suc k) v h = ap (λ r. x ∷ r) (take-one l k v (le_of_suc-le-suc h))

take-with : (l : List ℕ) (k v : ℕ) → k < length l → take (k + 1) (set l k v) ≡ take k l ++ (v ∷ [])
take-with l k v h = ap (λ n. take n (set l k v)) (add-one k) ∙ take-one l k v h

corners-end : (l : List ℕ) (z : ℕ) → corner_count (l ++ (z ∷ [])) ≡ corner_count l + z
unfolding corner_count
corners-end [] z = omega arith
corners-end (n ∷ l) z = let e = corners-end l z in omega (arith, e)

-- ---- one face

-- one more of those that pass
pub picked_next : {X : Type 0} (q : ℕ → Bool) (l : List X) (d : X) (f : ℕ) → f < length l → picked q 0 (take (f + 1) l) ≡ picked q 0 (take f l) ++ cond (q f) (get_or l f d ∷ []) []
picked_next q l d f h =
    let e : 0 + length (take f l) ≡ f = ap (λ n. 0 + n) (length-take-le f l (omega arith)) ∙ omega arith in
    ap (λ n. picked q 0 (take n l)) (add-one f) ∙ ap (picked q 0) (take-suc l f d h) ∙ picked-end q 0 (take f l) (get_or l f d) ∙ ap (λ n. picked q 0 (take f l) ++ cond (q n) (get_or l f d ∷ []) []) e

pub picked-skip : {X : Type 0} (q : ℕ → Bool) (l : List X) (d : X) (f : ℕ) → f < length l → q f ≡ false → picked q 0 (take (f + 1) l) ≡ picked q 0 (take f l)
picked-skip q l d f h e = picked_next q l d f h ∙ ap (λ b. picked q 0 (take f l) ++ cond b (get_or l f d ∷ []) []) e ∙ append-nil (picked q 0 (take f l))

pub picked-with : {X : Type 0} (q : ℕ → Bool) (l : List X) (d : X) (f : ℕ) → f < length l → q f ≡ true → picked q 0 (take (f + 1) l) ≡ picked q 0 (take f l) ++ (get_or l f d ∷ [])
picked-with q l d f h e = picked_next q l d f h ∙ ap (λ b. picked q 0 (take f l) ++ cond b (get_or l f d ∷ []) []) e

pub gathered_none : (q : ℕ → Bool) (mesh : Handed) (ss : List ℕ) (xs : List Float) → Gathered q mesh 0 0 0 ss xs
unfolding picked mesh_from corner_count
gathered_none q mesh ss xs = record { few = omega arith; low = omega arith; corners = refl; faces = refl }

module _ (q : ℕ → Bool) (mesh : Handed) (f k c : ℕ) (ss : List ℕ) (xs : List Float) (h : f < length mesh.sizes) (g : Gathered q mesh f k c ss xs) where
  abbrev whole : List (List Corner)
  whole = mesh_of mesh

  abbrev n : ℕ
  n = length mesh.sizes

  there : f < length whole
  there = subst (λ n. f < n) (sym (mesh-length mesh.positions mesh.normals mesh.texture 0 mesh.sizes)) h

  -- a face that does not pass
  pub gathered-skip : q f ≡ false → Gathered q mesh (f + 1) k c ss xs
  gathered-skip e = record { few = omega (arith, g.few); low = g.low; corners = g.corners; faces = g.faces ∙ sym (picked-skip q whole [] f there e) }

  -- a face that passes: its size and its corners' numbers are copied behind the others
  module _ (e : q f ≡ true) (room : k < length ss) (small : get_or mesh.sizes f 0 ≤ 4) (xs' : List Float) (laid : Laid mesh.positions mesh.normals mesh.texture n (corner_count (take f mesh.sizes)) c (get_or mesh.sizes f 0) xs xs') where
    abbrev z : ℕ
    z = get_or mesh.sizes f 0

    gathered-mesh : mesh_in n xs' (take (k + 1) (set ss k z)) ≡ picked q 0 (take (f + 1) whole)
    gathered-mesh =
        let b : 0 + corner_count (take k ss) ≡ c = omega (arith, g.corners) in
        ap (mesh_in n xs') (take-with ss k z room)
        ∙ mesh-end xs' (normals_in n xs') (texture_in n xs') 0 (take k ss) z
        ∙ ap (λ r. r ++ (corners_from xs' (normals_in n xs') (texture_in n xs') (0 + corner_count (take k ss)) z ∷ [])) (mesh-alike xs (normals_in n xs) (texture_in n xs) xs' (normals_in n xs') (texture_in n xs') 0 (take k ss) (subst (λ x. Alike xs (normals_in n xs) (texture_in n xs) xs' (normals_in n xs') (texture_in n xs') 0 0 x) g.corners laid.stays) ∙ g.faces)
        ∙ ap (λ r. picked q 0 (take f whole) ++ (r ∷ [])) (ap (λ x. corners_from xs' (normals_in n xs') (texture_in n xs') x z) b ∙ corners-alike mesh.positions mesh.normals mesh.texture xs' (normals_in n xs') (texture_in n xs') (corner_count (take f mesh.sizes)) c z laid.comes ∙ sym (face-is mesh.positions mesh.normals mesh.texture mesh.sizes f h))
        ∙ sym (picked-with q whole [] f there e)

    pub gathered-more : Gathered q mesh (f + 1) (k + 1) (c + z) (set ss k z) xs'
    gathered-more = record {
      few = omega (arith, g.few);
      low = omega (arith, g.low);
      corners = ap (λ n. n + z) g.corners ∙ sym (ap corner_count (take-with ss k z room) ∙ corners-end (take k ss) z);
      faces = gathered-mesh;
    }

-- ---- one face's numbers, copied into the three parts

module _ (ps ns ts u u1 u2 v : List Float) (n base c z : ℕ) (small : c + z ≤ 4 * n) (a : Copied nan ps u u1 (3 * base) (3 * c) (3 * z)) (b : Copied nan ns u1 u2 (3 * base) (12 * n + 3 * c) (3 * z)) (d : Copied nan ts u2 v (2 * base) (24 * n + 2 * c) (2 * z)) where
  part : (k : ℕ) (xs : List Float) (i j : ℕ) → k + i ≡ j → get_or (drop k xs) i nan ≡ get_or xs j nan
  part k xs i j e = get_or-drop k xs i nan ∙ ap (λ x. get_or xs x nan) e

  pub laid-is : Laid ps ns ts n base c z u v
  laid-is = record {
    comes = record {
      positions = λ j h. d.old (3 * c + j) (omega arith) ∙ b.old (3 * c + j) (omega arith) ∙ a.new j h;
      normals = λ j h. part (12 * n) v (3 * c + j) ((12 * n + 3 * c) + j) (omega arith) ∙ d.old ((12 * n + 3 * c) + j) (omega arith) ∙ b.new j h;
      texture = λ j h. part (24 * n) v (2 * c + j) ((24 * n + 2 * c) + j) (omega arith) ∙ d.new j h;
    };
    stays = record {
      positions = λ j h. d.old (3 * 0 + j) (omega arith) ∙ b.old (3 * 0 + j) (omega arith) ∙ a.old (3 * 0 + j) (omega arith);
      normals = λ j h. get_or-drop (12 * n) v (3 * 0 + j) nan ∙ d.old (12 * n + (3 * 0 + j)) (omega arith) ∙ b.old (12 * n + (3 * 0 + j)) (omega arith) ∙ a.rest (12 * n + (3 * 0 + j)) (omega arith) ∙ sym (get_or-drop (12 * n) u (3 * 0 + j) nan);
      texture = λ j h. get_or-drop (24 * n) v (2 * 0 + j) nan ∙ d.old (24 * n + (2 * 0 + j)) (omega arith) ∙ b.rest (24 * n + (2 * 0 + j)) (omega arith) ∙ a.rest (24 * n + (2 * 0 + j)) (omega arith) ∙ sym (get_or-drop (24 * n) u (2 * 0 + j) nan);
    };
    past = record { size = d.size ∙ b.size ∙ a.size; rest = λ x h. d.rest x (omega arith) ∙ b.rest x (omega arith) ∙ a.rest x (omega arith) };
  }
