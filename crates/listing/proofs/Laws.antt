-- One triangle more in the columns. Assumes nothing.
use Prim.Native.Nat.{ℕ, ◌+◌, ◌*◌, ◌≤◌, ◌<◌}
use native.Mathlib.Nat.{eq-or-lt_of_le}
use native.Mathlib.Omega.{arith}
use mathlib.Core.Path.{◌≡◌, sym, ◌∙◌, ap, subst}
use mathlib.Core.Bool.{Bool, true, false, cond, beq}
use mathlib.Core.List.{List, [], ◌∷◌, ◌++◌, append_assoc, append-nil}
use mathlib.Core.Logic.{⊎_elim}
use lib.ListN.{length, get_or, take, length-append, get_or-append}
use lib.Seq.{get_or_at}
use Rattle.tangent.specs.Held.{HeldSpace}
use Rattle.table.specs.Columns.{columns}
use Rattle.definition.specs.declared.Triangle.{Triangle}
use Rattle.lists.specs.Lists.{keep}
use Rattle.definition.specs.Handed.{Handed, corner_count, slot_count}
use Rattle.view.specs.Frame.{Only}
use Rattle.view.specs.Records.{From, Stored, Held, record_columns}
use Rattle.view.proofs.Frame.{only_none, only-trans}
use Rattle.records.specs.Stored.{stored}
use Rattle.records.proofs.Laws.{only-stored, here, stored-kept}
use Rattle.listing.specs.Listing.{Added, pick}

-- one triangle more
held_more : (rows : ℕ) (mesh : Handed) (ys : List Triangle) (d : Triangle) (t base slot : ℕ) (x : Triangle) (w : List ℕ) → length ys ≡ t → 3 * t + 3 ≤ rows → columns * rows ≤ length w → base ≡ corner_count (take x.face mesh.sizes) → slot ≡ slot_count (take x.face mesh.sizes) → From mesh.positions mesh.normals mesh.texture base x → HeldSpace x.tangent → Held rows mesh ys d w → Held rows mesh (ys ++ (x ∷ [])) d (stored rows t base slot x w)
held_more rows mesh ys d t base slot x w e room long eb es F H S v h = ⊎_elim last earlier (eq-or-lt_of_le cut)
  where
    U : List ℕ
    U = stored rows t base slot x w

    cut : v ≤ t
    cut = omega (arith, length-append ys (x ∷ []))

    last : v ≡ t → Stored rows mesh U v (get_or (ys ++ (x ∷ [])) v d)
    last q = subst (λ (y : Triangle). Stored rows mesh U v y) (sym (get_or_at ys x [] d v (e ∙ sym q))) (subst (λ (n : ℕ). Stored rows mesh U n x) (sym q) (here rows t base slot x w room long mesh eb es F H))

    earlier : v < t → Stored rows mesh U v (get_or (ys ++ (x ∷ [])) v d)
    earlier q =
        let b : v < length ys = omega arith in
        subst (λ (y : Triangle). Stored rows mesh U v y) (sym (get_or-append ys (x ∷ []) d v b)) (stored-kept rows t base slot x w room v q mesh (get_or ys v d) (S v b))

-- ---- triangles added

pub pick_yes : (want : Bool) (x : Triangle) → beq x.degenerate want ≡ true → pick want (x ∷ []) ≡ x ∷ []
unfolding pick keep
pick_yes want x e = ap (λ (b : Bool). cond b (x ∷ []) []) e

pub pick_no : (want : Bool) (x : Triangle) → beq x.degenerate want ≡ false → pick want (x ∷ []) ≡ []
unfolding pick keep
pick_no want x e = ap (λ (b : Bool). cond b (x ∷ []) []) e

module _ (rows : ℕ) (mesh : Handed) where
  pub added_none : (tris : ℕ) (w : List ℕ) → Added rows mesh [] tris tris w w
  added_none tris w = record {
    count = omega arith;
    only = only_none record_columns rows w;
    held = λ ys d e H. subst (λ (l : List Triangle). Held rows mesh l d w) (sym (append-nil ys)) H;
  }

  pub added-trans : (xs ys : List Triangle) (tris r s : ℕ) (w u v : List ℕ) → Added rows mesh xs tris r w u → Added rows mesh ys r s u v → Added rows mesh (xs ++ ys) tris s w v
  added-trans xs ys tris r s w u v A B = record {
    count = let a = A.count in let b = B.count in let c = length-append xs ys in omega arith;
    only = only-trans record_columns rows w u v A.only B.only;
    held = λ zs d e H.
        subst (λ (l : List Triangle). Held rows mesh l d v) (append_assoc zs xs ys)
        (B.held (zs ++ xs) d (length-append zs xs ∙ ap (λ (n : ℕ). n + length xs) e ∙ sym A.count) (A.held zs d e H));
  }

  -- the triangle is asked for, and stored
  pub add-yes : (want : Bool) (tris base slot : ℕ) (x : Triangle) (w u : List ℕ) → beq x.degenerate want ≡ true → u ≡ stored rows tris base slot x w → HeldSpace x.tangent → 3 * tris + 3 ≤ rows → columns * rows ≤ length w → base ≡ corner_count (take x.face mesh.sizes) → slot ≡ slot_count (take x.face mesh.sizes) → From mesh.positions mesh.normals mesh.texture base x → Added rows mesh (pick want (x ∷ [])) tris (tris + 1) w u
  add-yes want tris base slot x w u asked is H room long eb es F =
      subst (λ (l : List Triangle). Added rows mesh l tris (tris + 1) w u) (sym (pick_yes want x asked))
      (record {
        count = omega arith;
        only = subst (Only record_columns rows w) (sym is) (only-stored rows tris base slot x w room);
        held = λ ys d e S. subst (Held rows mesh (ys ++ (x ∷ [])) d) (sym is) (held_more rows mesh ys d tris base slot x w e room long eb es F H S);
      })

  -- it isn't
  pub add-no : (want : Bool) (tris : ℕ) (x : Triangle) (w : List ℕ) → beq x.degenerate want ≡ false → Added rows mesh (pick want (x ∷ [])) tris tris w w
  add-no want tris x w other = subst (λ (l : List Triangle). Added rows mesh l tris tris w w) (sym (pick_no want x other)) (added_none tris w)
