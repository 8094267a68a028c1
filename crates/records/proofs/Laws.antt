-- A triangle stored: what its rows say, and what the others keep. Assumes nothing.
use Prim.Native.Nat.{ℕ, suc, ◌+◌, ◌*◌, ◌-◌, ◌≤◌, ◌<◌}
use native.Mathlib.Omega.{arith}
use mathlib.Core.Path.{◌≡◌, refl, sym, ◌∙◌, ap, subst}
use mathlib.Core.Bool.{false}
use mathlib.Core.List.{List, [], ◌∷◌, ◌++◌, append_assoc}
use lib.ListN.{length, get_or, take, drop, set}
use lib.Seq.{sets, sets-eq, drop_at, take_at, length-take-le, drop-set-add, take-set-le, get_or-set_same, get_or-set_other}
use Rattle.tangent.specs.Slot.{flag}
use Rattle.tangent.specs.Held.{HeldSpace}
use Rattle.table.specs.Table.{cell, column}
use Rattle.table.specs.Columns.{columns, corner_column, slot_column, name_column, s_column, t_column, magnitude_column, orientation_column, any_column}
use Rattle.table.proofs.Laws.{get_or-column, length-column, column-ends}
use Rattle.definition.specs.declared.Triangle.{Triangle}
use Rattle.definition.specs.Handed.{Handed, corner_count, slot_count}
use Rattle.lists.specs.Every.{Every, every_nil, every_cons}
use Rattle.view.specs.Frame.{outside, Only}
use Rattle.view.specs.Records.{three_words, numbers, names, three_of, lengths, From, Stored, record_columns}
use Rattle.view.proofs.Frame.{only_none}
use Rattle.view.specs.Stores.{Entry, storing}
use Rattle.view.proofs.Stores.{Fitting, within, storing-column, storing-only, storing-append}
use Rattle.records.specs.Stored.{place_entries, tangent_entries, flag_entries, stored}

-- ---- lists

-- a store past a part leaves the part
mid-set : (n m i a : ℕ) (l : List ℕ) → m + n ≤ i → take n (drop m (set l i a)) ≡ take n (drop m l)
mid-set n m i a l h =
    ap (λ (k : ℕ). take n (drop m (set l k a))) e
    ∙ ap (take n) (drop-set-add m l (i - m) a)
    ∙ take-set-le n (drop m l) (i - m) a (omega arith)
  where
    e : i ≡ m + (i - m)
    e = omega arith

mid-sets : (n m i : ℕ) (vs l : List ℕ) → m + n ≤ i → take n (drop m (sets l i vs)) ≡ take n (drop m l)
mid-sets n m i [] l h = refl
mid-sets n m i (a ∷ vs) l h = mid-sets n m (suc i) vs (set l i a) (omega arith) ∙ mid-set n m i a l h

mid-same : (i : ℕ) (x y z : ℕ) (l : List ℕ) → i + 3 ≤ length l → take 3 (drop i (sets l i (x ∷ y ∷ z ∷ []))) ≡ x ∷ y ∷ z ∷ []
mid-same i x y z l h =
    ap (λ (q : List ℕ). take 3 (drop i q)) (sets-eq (x ∷ y ∷ z ∷ []) l i h ∙ append_assoc (take i l) (x ∷ y ∷ z ∷ []) (drop (i + 3) l))
    ∙ ap (take 3) (drop_at (take i l) ((x ∷ y ∷ z ∷ []) ++ drop (i + 3) l) i (length-take-le i l (omega arith)))
    ∙ take_at (x ∷ y ∷ z ∷ []) (drop (i + 3) l) 3 refl

-- ---- a triangle stored

module _ (rows t base slot : ℕ) (x : Triangle) (w : List ℕ) (room : 3 * t + 3 ≤ rows) where
  abbrev u : List ℕ
  u = stored rows t base slot x w

  abbrev entries : List Entry
  entries = place_entries t base slot x ++ (tangent_entries t x.tangent x.marked ++ flag_entries t x.orientation x.any)

  -- three words in the rows of t
  three : (k a b c : ℕ) → outside record_columns k ≡ false → k < columns → Fitting record_columns rows (record { column = k; row = 3 * t; words = a ∷ b ∷ c ∷ [] })
  three k a b c o h = record { inside = room; below = h; among = o }

  -- one word in row t
  own : (k a : ℕ) → outside record_columns k ≡ false → k < columns → Fitting record_columns rows (record { column = k; row = t; words = a ∷ [] })
  own k a o h = record { inside = omega arith; below = h; among = o }

  fitting : Every (Fitting record_columns rows) entries
  fitting =
      every_cons (three corner_column _ _ _ refl (omega arith)) (every_cons (three slot_column _ _ _ refl (omega arith)) (every_cons (three name_column _ _ _ refl (omega arith))
      (every_cons (three s_column _ _ _ refl (omega arith)) (every_cons (three t_column _ _ _ refl (omega arith)) (every_cons (three magnitude_column _ _ _ refl (omega arith))
      (every_cons (own orientation_column _ refl (omega arith)) (every_cons (own any_column _ refl (omega arith)) every_nil)))))))

  is : u ≡ storing rows entries w
  unfolding stored
  is = ap (storing rows (flag_entries t x.orientation x.any)) (storing-append rows (place_entries t base slot x) (tangent_entries t x.tangent x.marked) w) ∙ storing-append rows (place_entries t base slot x ++ tangent_entries t x.tangent x.marked) (flag_entries t x.orientation x.any) w

  stored-column : (k : ℕ) → column rows k u ≡ within k entries (column rows k w)
  stored-column k = ap (column rows k) is ∙ storing-column record_columns rows k fitting w

  -- the frame
  pub only-stored : Only record_columns rows w u
  only-stored = subst (Only record_columns rows w) (sym is) (storing-only record_columns rows fitting w w (only_none record_columns rows w))

  -- what stands in its own rows
  module _ (long : columns * rows ≤ length w) where
    full : (k : ℕ) → k < columns → 3 * t + 3 ≤ length (column rows k w)
    full k h = subst (λ (n : ℕ). 3 * t + 3 ≤ n) (sym (length-column rows w k (omega (arith, column-ends k columns rows h)))) room

    three-in : (k a b c : ℕ) → k < columns → ((l : List ℕ) → within k entries l ≡ sets l (3 * t) (a ∷ b ∷ c ∷ [])) → three_words rows k t u ≡ a ∷ b ∷ c ∷ []
    unfolding three_words
    three-in k a b c h e = ap (λ (l : List ℕ). take 3 (drop (3 * t) l)) (stored-column k ∙ e (column rows k w)) ∙ mid-same (3 * t) a b c (column rows k w) (full k h)

    one_in : (k a : ℕ) → k < columns → ((l : List ℕ) → within k entries l ≡ sets l t (a ∷ [])) → cell rows k t u ≡ a
    one_in k a h e =
        let f = full k h in
        sym (get_or-column rows u k t (omega arith)) ∙ ap (λ (l : List ℕ). get_or l t 0) (stored-column k ∙ e (column rows k w)) ∙ get_or-set_same (column rows k w) t a 0 (omega arith)

    pub here : (mesh : Handed) → base ≡ corner_count (take x.face mesh.sizes) → slot ≡ slot_count (take x.face mesh.sizes) → From mesh.positions mesh.normals mesh.texture base x → HeldSpace x.tangent → Stored rows mesh u t x
    unfolding within
    here mesh eb es F H = record {
      corner = three-in corner_column _ _ _ (omega arith) (λ l. refl) ∙ (λ k. (eb k + x.a.which) ∷ (eb k + x.b.which) ∷ (eb k + x.c.which) ∷ []);
      slot = three-in slot_column _ _ _ (omega arith) (λ l. refl) ∙ (λ k. (es k + x.a.which) ∷ (es k + x.b.which) ∷ (es k + x.c.which) ∷ []);
      name = three-in name_column _ _ _ (omega arith) (λ l. refl);
      along = three-in s_column _ _ _ (omega arith) (λ l. refl);
      up = three-in t_column _ _ _ (omega arith) (λ l. refl);
      long = three-in magnitude_column _ _ _ (omega arith) (λ l. refl);
      way = one_in orientation_column (flag x.orientation) (omega arith) (λ l. refl);
      loose = one_in any_column (flag x.any) (omega arith) (λ l. refl);
      from = subst (λ (n : ℕ). From mesh.positions mesh.normals mesh.texture n x) eb F;
      held = H;
    }

  -- what stood before
  module _ (v : ℕ) (earlier : v < t) where
    three-kept : (k : ℕ) (vs : List ℕ) → ((l : List ℕ) → within k entries l ≡ sets l (3 * t) vs) → three_words rows k v u ≡ three_words rows k v w
    unfolding three_words
    three-kept k vs e = ap (λ (l : List ℕ). take 3 (drop (3 * v) l)) (stored-column k ∙ e (column rows k w)) ∙ mid-sets 3 (3 * v) (3 * t) vs (column rows k w) (omega arith)

    one_kept : (k a : ℕ) → ((l : List ℕ) → within k entries l ≡ sets l t (a ∷ [])) → cell rows k v u ≡ cell rows k v w
    one_kept k a e =
        sym (get_or-column rows u k v (omega arith)) ∙ ap (λ (l : List ℕ). get_or l v 0) (stored-column k ∙ e (column rows k w))
        ∙ get_or-set_other (column rows k w) t v a 0 (λ q. omega arith) ∙ get_or-column rows w k v (omega arith)

    pub stored-kept : (mesh : Handed) (y : Triangle) → Stored rows mesh w v y → Stored rows mesh u v y
    unfolding within
    stored-kept mesh y S = record {
      corner = three-kept corner_column (numbers base x) (λ l. refl) ∙ S.corner;
      slot = three-kept slot_column (numbers slot x) (λ l. refl) ∙ S.slot;
      name = three-kept name_column (names x) (λ l. refl) ∙ S.name;
      along = three-kept s_column (three_of x.tangent.s) (λ l. refl) ∙ S.along;
      up = three-kept t_column (three_of x.tangent.t) (λ l. refl) ∙ S.up;
      long = three-kept magnitude_column (lengths x.tangent x.marked) (λ l. refl) ∙ S.long;
      way = one_kept orientation_column (flag x.orientation) (λ l. refl) ∙ S.way;
      loose = one_kept any_column (flag x.any) (λ l. refl) ∙ S.loose;
      from = S.from;
      held = S.held;
    }

-- ---- the stores of the code

pub three-is : (w : List ℕ) (at x y z : ℕ) → set (set (set w at x) (at + 1) y) (at + 2) z ≡ sets w at (x ∷ y ∷ z ∷ [])
three-is w at x y z = λ k. set (set (set w at x) (p k) y) (q k) z
  where
    p : at + 1 ≡ suc at
    p = omega arith

    q : at + 2 ≡ suc (suc at)
    q = omega arith
