-- A corner's contribution in its columns, and that it is the definition's. Assumes nothing.
use Prim.Native.Nat.{ℕ, ◌+◌, ◌*◌, ◌≤◌, ◌<◌}
use native.Mathlib.Nat.{eq-or-lt_of_le}
use native.Mathlib.Omega.{arith}
use mathlib.Core.Path.{◌≡◌, refl, sym, ◌∙◌, ap, subst}
use mathlib.Core.Bool.{true, false}
use mathlib.Core.List.{List, [], ◌∷◌}
use mathlib.Core.Logic.{⊎_elim}
use lib.Dec.{T, eqb}
use lib.ListN.{length, get_or, set}
use lib.Seq.{get_or-set_same, get_or-set_other}
use lib.Ieee.{Float, binary32, fits}
use borrow.Author.Tests.{eqb-false, ne_eqb}
use Rattle.tangent.proofs.Slots.{vector-back}
use Rattle.bits.specs.Word.{word, number}
use Rattle.bits.proofs.Back.{number_word}
use Rattle.math.specs.declared.Vec3.{Vec3}
use Rattle.math.specs.Held.{HeldVec}
use Rattle.tangent.specs.declared.RawTangentSpace.{RawTangentSpace}
use Rattle.tangent.specs.Slot.{vector_of}
use Rattle.table.specs.Table.{cell, column}
use Rattle.table.specs.Columns.{columns, sx_column, sy_column, sz_column, tx_column, ty_column, tz_column, opening_column}
use Rattle.table.proofs.Laws.{get_or-column, length-column, column-ends}
use Rattle.definition.specs.declared.Triangle.{Triangle}
use Rattle.definition.specs.Mesh.{Third, one, two, three, Spot, after, before, next, prior, corner_of}
use Rattle.definition.specs.Step7Sums.{projected, opening}
use Rattle.lists.specs.Every.{Every, every_nil, every_cons}
use Rattle.sums.specs.Sums.{opening_at}
use Rattle.view.specs.Frame.{outside, Only}
use Rattle.view.specs.Stores.{Entry, storing}
use Rattle.view.specs.Rows.{num, row, spot_at}
use Rattle.view.specs.Records.{Reads}
use Rattle.view.specs.Contributions.{s_at, t_at, Brings, contribution_columns}
use Rattle.view.proofs.Frame.{only_none, only-trans}
use Rattle.view.proofs.Stores.{Fitting, within, storing-column, storing-only}
use Rattle.view.proofs.Rows.{row_lt}
use Rattle.view.proofs.Records.{reads_kept}
use Rattle.records.specs.Fields.{tangent_at}
use Rattle.contributions.specs.Contributions.{Same, Stored, Brought, Turn}

-- ---- the seven words of a corner

module _ (rows r : ℕ) (s t : Vec3) (a : Float) (w : List ℕ) (inside : r < rows) (long : columns * rows ≤ length w) where
  abbrev at : ℕ → ℕ → Entry
  at k v = record { column = k; row = r; words = v ∷ [] }

  abbrev entries : List Entry
  entries = at sx_column (word s.x) ∷ at sy_column (word s.y) ∷ at sz_column (word s.z) ∷ at tx_column (word t.x) ∷ at ty_column (word t.y) ∷ at tz_column (word t.z) ∷ at opening_column (word a) ∷ []

  abbrev u : List ℕ
  u = storing rows entries w

  fit : (k v : ℕ) → outside contribution_columns k ≡ false → k < columns → Fitting contribution_columns rows (at k v)
  fit k v o h = record { inside = omega arith; below = h; among = o }

  fitting : Every (Fitting contribution_columns rows) entries
  fitting =
      every_cons (fit sx_column _ refl (omega arith)) (every_cons (fit sy_column _ refl (omega arith)) (every_cons (fit sz_column _ refl (omega arith))
      (every_cons (fit tx_column _ refl (omega arith)) (every_cons (fit ty_column _ refl (omega arith)) (every_cons (fit tz_column _ refl (omega arith)) (every_cons (fit opening_column _ refl (omega arith)) every_nil))))))

  own : (k v : ℕ) → k < columns → ((l : List ℕ) → within k entries l ≡ set l r v) → cell rows k r u ≡ v
  own k v h e =
      let n = length-column rows w k (omega (arith, long, column-ends k columns rows h)) in
      sym (get_or-column rows u k r inside) ∙ ap (λ (l : List ℕ). get_or l r 0) (storing-column contribution_columns rows k fitting w ∙ e (column rows k w)) ∙ get_or-set_same (column rows k w) r v 0 (omega arith)

  other : (k v i : ℕ) → i < rows → eqb r i ≡ false → ((l : List ℕ) → within k entries l ≡ set l r v) → cell rows k i u ≡ cell rows k i w
  other k v i h n e =
      sym (get_or-column rows u k i h)
      ∙ ap (λ (l : List ℕ). get_or l i 0) (storing-column contribution_columns rows k fitting w ∙ e (column rows k w))
      ∙ get_or-set_other (column rows k w) r i v 0 (λ q. eqb-false r i n (sym q))
      ∙ get_or-column rows w k i h

  pub stored : HeldVec s → HeldVec t → T (fits binary32 a) → Stored rows r s t a w u
  unfolding within s_at t_at
  stored hs ht ha = record {
    along = (λ z. vector_of (own sx_column _ (omega arith) (λ l. refl) z) (own sy_column _ (omega arith) (λ l. refl) z) (own sz_column _ (omega arith) (λ l. refl) z)) ∙ vector-back s hs;
    up = (λ z. vector_of (own tx_column _ (omega arith) (λ l. refl) z) (own ty_column _ (omega arith) (λ l. refl) z) (own tz_column _ (omega arith) (λ l. refl) z)) ∙ vector-back t ht;
    angle = ap number (own opening_column (word a) (omega arith) (λ l. refl)) ∙ number_word a ha;
    others = λ k h n. record {
      along = λ z. vector_of (other sx_column (word s.x) k h n (λ l. refl) z) (other sy_column (word s.y) k h n (λ l. refl) z) (other sz_column (word s.z) k h n (λ l. refl) z);
      up = λ z. vector_of (other tx_column (word t.x) k h n (λ l. refl) z) (other ty_column (word t.y) k h n (λ l. refl) z) (other tz_column (word t.z) k h n (λ l. refl) z);
      angle = other opening_column (word a) k h n (λ l. refl);
    };
    only = storing-only contribution_columns rows fitting w w (only_none contribution_columns rows w);
  }

  -- the list with the words set one after the other
  pub stored_as : (p q : List ℕ) (n : ℕ) → p ≡ set (set (set w (sx_column * rows + r) (word s.x)) (sy_column * rows + r) (word s.y)) (sz_column * rows + r) (word s.z)
      → q ≡ set (set (set p (tx_column * rows + r) (word t.x)) (ty_column * rows + r) (word t.y)) (tz_column * rows + r) (word t.z) → n ≡ word a → HeldVec s → HeldVec t → T (fits binary32 a) → Stored rows r s t a w (set q (opening_column * rows + r) n)
  unfolding storing
  stored_as p q n e f g hs ht ha =
      subst (Stored rows r s t a w)
      (sym ((λ i. set (f i) (opening_column * rows + r) (g i)) ∙ ap (λ (l : List ℕ). set (set (set (set l (tx_column * rows + r) (word t.x)) (ty_column * rows + r) (word t.y)) (tz_column * rows + r) (word t.z)) (opening_column * rows + r) (word a)) e))
      (stored hs ht ha)

-- the same by other names
pub stored-named : (rows r : ℕ) (s s' t t' : Vec3) (a a' : Float) (w u : List ℕ) → s ≡ s' → t ≡ t' → a ≡ a' → Stored rows r s t a w u → Stored rows r s' t' a' w u
stored-named rows r s s' t t' a a' w u es et ea S = record { along = S.along ∙ es; up = S.up ∙ et; angle = S.angle ∙ ea; others = S.others; only = S.only }

-- ---- the definition's contribution

pub brings-kept : (rows k : ℕ) (w u : List ℕ) (s : Spot) → Same rows k w u → Brings rows w k s → Brings rows u k s
brings-kept rows k w u s S B = record { along = S.along ∙ B.along; up = S.up ∙ B.up; angle = ap number S.angle ∙ B.angle }

module _ (rows k : ℕ) (ps ns : List Float) (t : ℕ) (room : 3 * t + 3 ≤ rows) where
  -- one corner, where the columns tell of the triangle
  corner-brings : (x : Triangle) (g : RawTangentSpace) (w u : List ℕ) → Reads rows k ps ns w t x → g.s ≡ x.tangent.s → g.t ≡ x.tangent.t
      → (i : Third) → Brought rows k ps ns g (row t i) (row t (after i)) (row t (before i)) w u → Brings rows u (row t i) (record { tri = x; at = i })
  unfolding corner_of opening opening_at next prior
  corner-brings x g w u S es et i B = record {
    along = B.along ∙ (λ z. projected (sym (S.normal i) z) (es z));
    up = B.up ∙ (λ z. projected (sym (S.normal i) z) (et z));
    angle = B.angle ∙ (λ z. opening_at (sym (S.normal i) z) (sym (S.place i) z) (sym (S.place (after i)) z) (sym (S.place (before i)) z));
  }

  module _ (g : RawTangentSpace) (w u v z : List ℕ) (e : g ≡ tangent_at rows t w) (A₀ : Brought rows k ps ns g (3 * t) (3 * t + 1) (3 * t + 2) w u) (B₀ : Brought rows k ps ns g (3 * t + 1) (3 * t + 2) (3 * t) u v) (C₀ : Brought rows k ps ns g (3 * t + 2) (3 * t) (3 * t + 1) v z) where
    first : 3 * t ≡ 3 * t + 0
    first = omega arith

    A : Brought rows k ps ns g (row t one) (row t two) (row t three) w u
    unfolding num
    A = subst (λ (j : ℕ). Brought rows k ps ns g j (3 * t + 1) (3 * t + 2) w u) first A₀

    B : Brought rows k ps ns g (row t two) (row t three) (row t one) u v
    unfolding num
    B = subst (λ (j : ℕ). Brought rows k ps ns g (3 * t + 1) (3 * t + 2) j u v) first B₀

    C : Brought rows k ps ns g (row t three) (row t one) (row t two) v z
    unfolding num
    C = subst (λ (j : ℕ). Brought rows k ps ns g (3 * t + 2) j (3 * t + 1) v z) first C₀

    apart : (i j : Third) → num i < num j → eqb (row t j) (row t i) ≡ false
    apart i j h = ne_eqb (row t j) (row t i) (λ q. omega (arith, q, h))

    apart-up : (i j : Third) → num i < num j → eqb (row t i) (row t j) ≡ false
    apart-up i j h = ne_eqb (row t i) (row t j) (λ q. omega (arith, q, h))

    pub turn : outside contribution_columns k ≡ true → Turn rows k ps ns t w z
    unfolding num after before tangent_at
    turn o = record {
      brings = λ x S i.
          let es : g.s ≡ x.tangent.s = ap (λ (y : RawTangentSpace). y.s) e ∙ S.along in
          let et : g.t ≡ x.tangent.t = ap (λ (y : RawTangentSpace). y.t) e ∙ S.up in
          let Su = reads_kept rows k ps ns contribution_columns w u t x room o refl A.only S in
          let Sv = reads_kept rows k ps ns contribution_columns u v t x room o refl B.only Su in
          elim i as (λ (j : Third). Brings rows z (row t j) (record { tri = x; at = j })) [
            | one ↦ brings-kept rows (row t one) v z (record { tri = x; at = one }) (C.others (row t one) (omega arith) (apart one three (omega arith)))
                (brings-kept rows (row t one) u v (record { tri = x; at = one }) (B.others (row t one) (omega arith) (apart one two (omega arith))) (corner-brings x g w u S es et one A))
            | two ↦ brings-kept rows (row t two) v z (record { tri = x; at = two }) (C.others (row t two) (omega arith) (apart two three (omega arith))) (corner-brings x g u v Su es et two B)
            | three ↦ corner-brings x g v z Sv es et three C
          ];
      before = λ j h.
          let a = A.others j (omega arith) (ne_eqb (row t one) j (λ q. omega (arith, q, h))) in
          let b = B.others j (omega arith) (ne_eqb (row t two) j (λ q. omega (arith, q, h))) in
          let c = C.others j (omega arith) (ne_eqb (row t three) j (λ q. omega (arith, q, h))) in
          record { along = c.along ∙ (b.along ∙ a.along); up = c.up ∙ (b.up ∙ a.up); angle = c.angle ∙ (b.angle ∙ a.angle) };
      only = only-trans contribution_columns rows w u z A.only (only-trans contribution_columns rows u v z B.only C.only);
    }

-- ---- the triangles one after the other

-- the first n triangles bring what they should, where the columns told of all at the start
pub record Done (rows k : ℕ) (ps ns : List Float) (tris n : ℕ) (w u : List ℕ) : Type 0 where
  pub brings : (ss : List Triangle) (d : Triangle) → length ss ≡ tris → ((t : ℕ) → t < length ss → Reads rows k ps ns w t (get_or ss t d)) → (t : ℕ) (i : Third) → t < n → Brings rows u (row t i) (spot_at ss d t i)
  pub only : Only contribution_columns rows w u

module _ (rows k : ℕ) (ps ns : List Float) (tris : ℕ) (w : List ℕ) where
  pub none_done : Done rows k ps ns tris 0 w w
  none_done = record { brings = λ ss d e T t i h. absurd (omega (arith, h)); only = only_none contribution_columns rows w }

  pub one_more : outside contribution_columns k ≡ true → (n : ℕ) (u v : List ℕ) → 3 * n + 3 ≤ rows → n < tris → Done rows k ps ns tris n w u → Turn rows k ps ns n u v → Done rows k ps ns tris (n + 1) w v
  one_more o n u v room l D T = record {
    brings = λ ss d e S t i h. ⊎_elim
        (λ q. subst (λ (j : ℕ). Brings rows v (row j i) (spot_at ss d j i)) (sym q) (T.brings (get_or ss n d) (reads_kept rows k ps ns contribution_columns w u n (get_or ss n d) room o refl D.only (S n (omega (arith, e, l)))) i))
        (λ q. brings-kept rows (row t i) u v (spot_at ss d t i) (T.before (row t i) (row_lt t n i q)) (D.brings ss d e S t i q))
        (eq-or-lt_of_le (lt-suc t n h));
    only = only-trans contribution_columns rows w u v D.only T.only;
  }
    where
      lt-suc : (t n : ℕ) → t < n + 1 → t ≤ n
      lt-suc t n h = omega (arith, h)
