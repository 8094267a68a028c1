-- Triangles in the columns: what can be read there, and that stores elsewhere leave it. Assumes nothing.
use Prim.Native.Nat.{ℕ, ◌+◌, ◌*◌, ◌≤◌, ◌<◌}
use native.Mathlib.Omega.{arith}
use mathlib.Core.Path.{◌≡◌, refl, sym, ◌∙◌, ap}
use mathlib.Core.Bool.{Bool, true, false, not}
use mathlib.Core.List.{List, [], ◌∷◌}
use lib.Dec.{eqb}
use lib.ListN.{length, get_or, take, drop}
use lib.Seq.{get_or-take, get_or-drop}
use Rattle.tangent.proofs.Slots.{vector-back}
use lib.Ieee.{Float}
use Rattle.bits.specs.Word.{number}
use Rattle.bits.proofs.Back.{number_word}
use Rattle.math.specs.declared.Vec3.{Vec3}
use Rattle.math.specs.Held.{HeldVec}
use Rattle.tangent.specs.Slot.{flag, vector_of}
use Rattle.table.specs.Table.{cell, column}
use Rattle.table.specs.Columns.{corner_column, slot_column, name_column, s_column, t_column, magnitude_column, orientation_column, any_column}
use Rattle.table.proofs.Laws.{get_or-column}
use Rattle.definition.specs.declared.Triangle.{Triangle}
use Rattle.definition.specs.Mesh.{Third, one, two, three, kept, corner_of}
use Rattle.definition.specs.Handed.{Handed, vector_at, corner_at, slot_count}
use Rattle.view.specs.Frame.{outside, Only, disjoint}
use Rattle.view.specs.Rows.{num, row, spot_at}
use Rattle.view.specs.Records.{three_words, numbers, three_of, Stored, Held, record_columns, Told, told_columns, Cornered, Reads}
use Rattle.view.proofs.Frame.{apart, cell-kept}
use Rattle.view.proofs.Rows.{num-lt}

-- a word of the three
pub part-cell : (rows k t j : ℕ) (w : List ℕ) → j < 3 → 3 * t + 3 ≤ rows → cell rows k (3 * t + j) w ≡ get_or (three_words rows k t w) j 0
unfolding three_words
part-cell rows k t j w h r = sym (get_or-take 3 (drop (3 * t) (column rows k w)) j 0 h ∙ get_or-drop (3 * t) (column rows k w) j 0 ∙ get_or-column rows w k (3 * t + j) (omega arith))

pub flag-zero : (b : Bool) → eqb (flag b) 0 ≡ not b
unfolding flag
flag-zero true = refl
flag-zero false = refl

pub flag_one : (b : Bool) → eqb (flag b) 1 ≡ b
unfolding flag
flag_one true = refl
flag_one false = refl

pub flag_same : (a b : Bool) → flag a ≡ flag b → a ≡ b
flag_same a b e = sym (flag_one a) ∙ (ap (λ (x : ℕ). eqb x 1) e ∙ flag_one b)

-- numbers in the three words, by corner
pub number_at : (rows k t base : ℕ) (w : List ℕ) (x : Triangle) → 3 * t + 3 ≤ rows → three_words rows k t w ≡ numbers base x → (i : Third) → cell rows k (row t i) w ≡ base + (kept x i).which
unfolding num kept
number_at rows k t base w x room e one = part-cell rows k t 0 w (omega arith) room ∙ ap (λ (l : List ℕ). get_or l 0 0) e
number_at rows k t base w x room e two = part-cell rows k t 1 w (omega arith) room ∙ ap (λ (l : List ℕ). get_or l 1 0) e
number_at rows k t base w x room e three = part-cell rows k t 2 w (omega arith) room ∙ ap (λ (l : List ℕ). get_or l 2 0) e

module _ (rows : ℕ) (mesh : Handed) (xs : List Triangle) (d : Triangle) (w : List ℕ) (H : Held rows mesh xs d w) where
  -- the values of a corner, by its number
  pub corner-is : 3 * length xs ≤ rows → (t : ℕ) (i : Third) → t < length xs → corner_at mesh.positions mesh.normals mesh.texture (cell rows corner_column (row t i) w) ≡ corner_of (spot_at xs d t i)
  unfolding corner_of
  corner-is fits t i h =
      ap (corner_at mesh.positions mesh.normals mesh.texture) (number_at rows corner_column t _ w (get_or xs t d) (omega arith) (H t h).corner i) ∙ sym ((H t h).from.corner i)

  -- the number of its slot
  pub slot_is : 3 * length xs ≤ rows → (t : ℕ) (i : Third) → t < length xs → cell rows slot_column (row t i) w ≡ slot_count (take (get_or xs t d).face mesh.sizes) + (kept (get_or xs t d) i).which
  slot_is fits t i h = number_at rows slot_column t _ w (get_or xs t d) (omega arith) (H t h).slot i

  pub any-is : (t : ℕ) → t < length xs → eqb (cell rows any_column t w) 0 ≡ not (get_or xs t d).any
  any-is t h = ap (λ (k : ℕ). eqb k 0) (H t h).loose ∙ flag-zero (get_or xs t d).any

  -- stores in other columns leave the triangles
  pub held_kept : 3 * length xs ≤ rows → (ks : List ℕ) (u : List ℕ) → disjoint record_columns ks ≡ true → Only ks rows w u → Held rows mesh xs d u
  unfolding three_words
  held_kept fits ks u c O t h =
      let S = H t h in
      record {
        corner = same corner_column refl ∙ S.corner;
        slot = same slot_column refl ∙ S.slot;
        name = same _ refl ∙ S.name;
        along = same _ refl ∙ S.along;
        up = same _ refl ∙ S.up;
        long = same _ refl ∙ S.long;
        way = cell-kept ks rows w u O orientation_column t (apart record_columns ks c orientation_column refl) (omega arith) ∙ S.way;
        loose = cell-kept ks rows w u O any_column t (apart record_columns ks c any_column refl) (omega arith) ∙ S.loose;
        from = S.from;
        held = S.held;
      }
    where
      same : (k : ℕ) → outside record_columns k ≡ false → take 3 (drop (3 * t) (column rows k u)) ≡ take 3 (drop (3 * t) (column rows k w))
      same k e = ap (λ (l : List ℕ). take 3 (drop (3 * t) l)) (O.others k (apart record_columns ks c k e))

-- ---- what is told of a triangle, whatever its orientation

three_back : (rows k t : ℕ) (w : List ℕ) (v : Vec3) → 3 * t + 3 ≤ rows → three_words rows k t w ≡ three_of v → HeldVec v → vector_of (cell rows k (3 * t) w) (cell rows k (3 * t + 1) w) (cell rows k (3 * t + 2) w) ≡ v
three_back rows k t w v room e h =
    (λ z.
    vector_of (((ap (λ (n : ℕ). cell rows k n w) (zero_more t)) ∙ (part-cell rows k t 0 w (omega arith) room ∙ ap (λ (l : List ℕ). get_or l 0 0) e)) z)
    ((part-cell rows k t 1 w (omega arith) room ∙ ap (λ (l : List ℕ). get_or l 1 0) e) z)
    ((part-cell rows k t 2 w (omega arith) room ∙ ap (λ (l : List ℕ). get_or l 2 0) e) z))
    ∙ vector-back v h
  where
    zero_more : (t : ℕ) → 3 * t ≡ 3 * t + 0
    zero_more t = omega arith

-- stores in other columns leave a vector
three-kept : (rows : ℕ) (ks w u : List ℕ) (t : ℕ) → 3 * t + 3 ≤ rows → Only ks rows w u → (k : ℕ) → outside ks k ≡ true → vector_of (cell rows k (3 * t) u) (cell rows k (3 * t + 1) u) (cell rows k (3 * t + 2) u) ≡ vector_of (cell rows k (3 * t) w) (cell rows k (3 * t + 1) w) (cell rows k (3 * t + 2) w)
three-kept rows ks w u t room O k e = λ z. vector_of (same (3 * t) (omega arith) z) (same (3 * t + 1) (omega arith) z) (same (3 * t + 2) (omega arith) z)
  where
    same : (i : ℕ) → i < rows → cell rows k i u ≡ cell rows k i w
    same i h = cell-kept ks rows w u O k i e h

-- the columns that hold a triangle tell of it
pub told-stored : (rows : ℕ) (mesh : Handed) (w : List ℕ) (t : ℕ) (x : Triangle) → 3 * t + 3 ≤ rows → Stored rows mesh w t x → Told rows mesh w t x
told-stored rows mesh w t x room S = record {
  number = number_at rows corner_column t _ w x room S.corner;
  slot = number_at rows slot_column t _ w x room S.slot;
  face = first name_column ∙ ap (λ (l : List ℕ). get_or l 0 0) S.name;
  missing = part-cell rows name_column t 2 w (omega arith) room ∙ ap (λ (l : List ℕ). get_or l 2 0) S.name;
  along = three_back rows s_column t w x.tangent.s room S.along S.held.s_held;
  up = three_back rows t_column t w x.tangent.t room S.up S.held.t_held;
  s_long = ap number (first magnitude_column ∙ ap (λ (l : List ℕ). get_or l 0 0) S.long) ∙ number_word _ S.held.s_magnitude_held;
  t_long = ap number (part-cell rows magnitude_column t 1 w (omega arith) room ∙ ap (λ (l : List ℕ). get_or l 1 0) S.long) ∙ number_word _ S.held.t_magnitude_held;
  marked = part-cell rows magnitude_column t 2 w (omega arith) room ∙ ap (λ (l : List ℕ). get_or l 2 0) S.long;
  loose = S.loose;
}
  where
    first : (k : ℕ) → cell rows k (3 * t) w ≡ get_or (three_words rows k t w) 0 0
    first k = let e : 3 * t ≡ 3 * t + 0 = omega arith in ap (λ (n : ℕ). cell rows k n w) e ∙ part-cell rows k t 0 w (omega arith) room

-- and of its corners
pub cornered-stored : (rows : ℕ) (mesh : Handed) (w : List ℕ) (t : ℕ) (x : Triangle) → 3 * t + 3 ≤ rows → Stored rows mesh w t x → Cornered rows mesh w t x
cornered-stored rows mesh w t x room S i = S.from.corner i ∙ ap (corner_at mesh.positions mesh.normals mesh.texture) (sym (number_at rows corner_column t _ w x room S.corner i))

-- which stores in other columns leave
pub cornered-kept : (rows : ℕ) (mesh : Handed) (ks w u : List ℕ) (t : ℕ) (x : Triangle) → 3 * t + 3 ≤ rows → disjoint (corner_column ∷ []) ks ≡ true → Only ks rows w u → Cornered rows mesh w t x → Cornered rows mesh u t x
cornered-kept rows mesh ks w u t x room c O C i =
    C i ∙ ap (corner_at mesh.positions mesh.normals mesh.texture) (sym (cell-kept ks rows w u O corner_column (row t i) (apart (corner_column ∷ []) ks c corner_column refl) (omega (arith, num-lt i, room))))

-- what step 7 reads of a triangle that the columns tell of
pub told-reads : (rows : ℕ) (mesh : Handed) (w : List ℕ) (t : ℕ) (x : Triangle) → Told rows mesh w t x → Cornered rows mesh w t x → Reads rows corner_column mesh.positions mesh.normals w t x
unfolding corner_at
told-reads rows mesh w t x T C = record { place = λ i z. (C i z).place; normal = λ i z. (C i z).normal; along = T.along; up = T.up }

-- stores in other columns leave that too
pub reads_kept : (rows k : ℕ) (ps ns : List Float) (ks w u : List ℕ) (t : ℕ) (x : Triangle) → 3 * t + 3 ≤ rows → outside ks k ≡ true → disjoint told_columns ks ≡ true → Only ks rows w u → Reads rows k ps ns w t x → Reads rows k ps ns u t x
reads_kept rows k ps ns ks w u t x room o c O R = record {
  place = λ i. R.place i ∙ ap (vector_at ps) (sym (at i));
  normal = λ i. R.normal i ∙ ap (vector_at ns) (sym (at i));
  along = three s_column refl ∙ R.along;
  up = three t_column refl ∙ R.up;
}
  where
    at : (i : Third) → cell rows k (row t i) u ≡ cell rows k (row t i) w
    at i = cell-kept ks rows w u O k (row t i) o (omega (arith, num-lt i, room))

    three : (k : ℕ) → outside told_columns k ≡ false → vector_of (cell rows k (3 * t) u) (cell rows k (3 * t + 1) u) (cell rows k (3 * t + 2) u) ≡ vector_of (cell rows k (3 * t) w) (cell rows k (3 * t + 1) w) (cell rows k (3 * t + 2) w)
    three k e = three-kept rows ks w u t room O k (apart told_columns ks c k e)

-- stores in other columns leave what is told
pub told-kept : (rows : ℕ) (mesh : Handed) (ks w u : List ℕ) (t : ℕ) (x : Triangle) → 3 * t + 3 ≤ rows → disjoint told_columns ks ≡ true → Only ks rows w u → Told rows mesh w t x → Told rows mesh u t x
told-kept rows mesh ks w u t x room c O S = record {
  number = λ i. at corner_column refl i ∙ S.number i;
  slot = λ i. at slot_column refl i ∙ S.slot i;
  face = same name_column refl (3 * t) (omega arith) ∙ S.face;
  missing = same name_column refl (3 * t + 2) (omega arith) ∙ S.missing;
  along = three s_column refl ∙ S.along;
  up = three t_column refl ∙ S.up;
  s_long = ap number (same magnitude_column refl (3 * t) (omega arith)) ∙ S.s_long;
  t_long = ap number (same magnitude_column refl (3 * t + 1) (omega arith)) ∙ S.t_long;
  marked = same magnitude_column refl (3 * t + 2) (omega arith) ∙ S.marked;
  loose = same any_column refl t (omega arith) ∙ S.loose;
}
  where
    same : (k : ℕ) → outside told_columns k ≡ false → (i : ℕ) → i < rows → cell rows k i u ≡ cell rows k i w
    same k e i h = cell-kept ks rows w u O k i (apart told_columns ks c k e) h

    at : (k : ℕ) → outside told_columns k ≡ false → (i : Third) → cell rows k (row t i) u ≡ cell rows k (row t i) w
    at k e i = same k e (row t i) (omega (arith, num-lt i, room))

    three : (k : ℕ) → outside told_columns k ≡ false → vector_of (cell rows k (3 * t) u) (cell rows k (3 * t + 1) u) (cell rows k (3 * t + 2) u) ≡ vector_of (cell rows k (3 * t) w) (cell rows k (3 * t + 1) w) (cell rows k (3 * t + 2) w)
    three k e = three-kept rows ks w u t room O k (apart told_columns ks c k e)
