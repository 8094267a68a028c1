-- A step of the flat walk: what is left to do stays the same. The proofs of the code cite it; it has no word of the code. Assumes nothing.
use Prim.Native.Nat.{ℕ, zero, suc, ◌+◌, ◌*◌, ◌-◌, ◌/◌, ◌%◌, ◌≤◌, ◌<◌}
use native.Mathlib.Nat.{eq-or-lt_of_le}
use native.Mathlib.Omega.{arith}
use native.Mathlib.Numerals.{add-one}
use mathlib.Core.Path.{◌≡◌, refl, sym, ap, ◌∙◌, subst}
use mathlib.Core.Bool.{Bool, false, cond}
use mathlib.Core.List.{List, ◌∷◌}
use mathlib.Core.Logic.{⊎_elim}
use lib.Dec.{eqb}
use lib.ListN.{length, get_or}
use lib.Seq.{get_or-set_same, get_or-set_other}
use borrow.Author.Tests.{ne_eqb}
use Rattle.table.specs.Table.{cell, put, column}
use Rattle.table.specs.Columns.{columns, link_column}
use Rattle.table.proofs.Laws.{get_or-column}
use Rattle.std.specs.Prelude.{Option, Some, None, IfSome}
use Rattle.neighbors.specs.Links.{link_of}
use Rattle.view.specs.Frame.{Only}
use Rattle.view.proofs.Frame.{only_none, only-more, only-put}
use Rattle.groups.specs.Walk.{walk_columns, Entered, enter, Walk, walk, side, follow, corner, ungrouped, Ready}
use Rattle.groups.proofs.Laws.{Grown, enter-grown}
use Rattle.groups.proofs.Steps.{ready-moves, corner-stops}
use Rattle.flat.specs.declared.Going.{Going}
use Rattle.flat.specs.Places.{places_column, flat_columns, blank, stack, places, left, all, back, Stored, Goes}
use Rattle.flat.proofs.Blank.{blank-place, only-blank, blank-cell, blank-ungrouped, blank-ready, blanked, enter-blank}
use Rattle.flat.proofs.Fuel.{enter-only, enough, entered-goes}

-- ---- the stack

-- it stands where its column stands
stack-kept : (rows : ℕ) (w u : List ℕ) → column rows places_column u ≡ column rows places_column w → (n : ℕ) → n ≤ rows → stack rows u n ≡ stack rows w n
unfolding stack
stack-kept rows w u e zero h = refl
stack-kept rows w u e (suc n) h =
    let same : cell rows places_column n u ≡ cell rows places_column n w = sym (get_or-column rows u places_column n h) ∙ ap (λ (l : List ℕ). get_or l n 0) e ∙ get_or-column rows w places_column n h in
    λ k. same k ∷ stack-kept rows w u e n (omega arith) k

-- a store above it leaves it
stack-below : (rows m v : ℕ) (w : List ℕ) (n : ℕ) → n ≤ m → stack rows (put rows places_column m v w) n ≡ stack rows w n
unfolding stack
stack-below rows m v w zero h = refl
stack-below rows m v w (suc n) h = λ k. get_or-set_other w (places_column * rows + m) (places_column * rows + n) v 0 (λ e. omega arith) k ∷ stack-below rows m v w n (omega arith) k

-- one side more
stack-more : (rows m v : ℕ) (w : List ℕ) → m < rows → columns * rows ≤ length w → stack rows (put rows places_column m v w) (suc m) ≡ v ∷ stack rows w m
unfolding stack
stack-more rows m v w h long = λ k. get_or-set_same w (places_column * rows + m) v 0 (omega arith) k ∷ stack-below rows m v w m (omega arith) k

-- the sides left, once one is crossed and two more are found
places-more : (rows k m v : ℕ) (w : List ℕ) → m < rows → columns * rows ≤ length w → places rows (put rows places_column m v w) (Some k) (m + 1) ≡ k ∷ (v ∷ stack rows w m)
unfolding places
places-more rows k m v w h long = ap (λ (l : List ℕ). k ∷ l) (ap (stack rows (put rows places_column m v w)) (add-one m) ∙ stack-more rows m v w h long)

-- the sides stored are sides of the triangles, and so is one more
more-inside : (rows tris m v : ℕ) (w : List ℕ) → m < rows → columns * rows ≤ length w → v < 3 * tris → ((j : ℕ) → j < m → cell rows places_column j w < 3 * tris) → (j : ℕ) → j ≤ m → cell rows places_column j (put rows places_column m v w) < 3 * tris
more-inside rows tris m v w h long b f j l = ⊎_elim
    (λ e. subst (λ (x : ℕ). cell rows places_column x (put rows places_column m v w) < 3 * tris) (sym e) (subst (λ (x : ℕ). x < 3 * tris) (sym (get_or-set_same w (places_column * rows + m) v 0 (omega arith))) b))
    (λ k. subst (λ (x : ℕ). x < 3 * tris) (sym (get_or-set_other w (places_column * rows + m) (places_column * rows + j) v 0 (λ e. omega arith))) (f j k))
    (eq-or-lt_of_le l)

-- ---- back to the last place

record Backs (rows tris stored n : ℕ) (w : List ℕ) (b : Going) : Type 0 where
  is : places rows w b.next b.stored ≡ stack rows w stored
  count : b.count ≡ n
  falls : left b.next b.stored ≤ stored
  fewer : b.stored ≤ stored
  next : IfSome b.next (λ k. k < 3 * tris)

backs : (rows tris stored n : ℕ) (w : List ℕ) → ((j : ℕ) → j < stored → cell rows places_column j w < 3 * tris) → Backs rows tris stored n w (back rows stored n w)
unfolding back places stack
backs rows tris zero n w h = record { is = refl; count = refl; falls = omega arith; fewer = omega arith; next = tt }
backs rows tris (suc m) n w h =
    let z : eqb (suc m) 0 ≡ false = ne_eqb (suc m) 0 (λ e. omega arith) in
    let e : m ≡ suc m - 1 = omega arith in
    let there : Backs rows tris (suc m) n w (record { next = Some (cell rows places_column (suc m - 1) w); stored = suc m - 1; count = n }) = record { is = ap (λ (x : ℕ). cell rows places_column x w ∷ stack rows w x) (sym e); count = refl; falls = omega arith; fewer = omega arith; next = h (suc m - 1) (omega arith) } in
    subst (λ (b : Bool). Backs rows tris (suc m) n w (cond b (record { next = None; stored = 0; count = n }) (record { next = Some (cell rows places_column (suc m - 1) w); stored = suc m - 1; count = n }))) (sym z) there

-- ---- to a triangle

module _ (rows tris g v o stored n t : ℕ) (w : List ℕ) (tri : t < tris) (R : Ready rows tris g n w) (P : Stored rows tris stored w) (r : Option ℕ) (u : List ℕ) (re : r ≡ (enter rows t g v o n w).entry) (ue : u ≡ (enter rows t g v o n w).work) where
  abbrev step : ℕ → Walk → ℕ → Walk
  step = corner rows g v o

  abbrev said : ℕ → Walk
  said m = all rows (step m) (step m (walk (blank rows w) n) t) (stack rows w stored)

  grown : Grown rows w r u
  grown = rw (re, ue) (enter-grown rows t g v o n w (omega (arith, R.fits)) R.long R.some R.room)

  only : Only walk_columns rows w u
  only = subst (Only walk_columns rows w) (sym ue) (enter-only rows tris g v o w n t tri R)

  blank-is : enter rows t g v o n (blank rows w) ≡ blanked rows (enter rows t g v o n w)
  blank-is = enter-blank rows t g v o n w (omega (arith, R.fits)) R.long R.some R.room

  entry-is : r ≡ (enter rows t g v o n (blank rows w)).entry
  entry-is = re ∙ sym (ap (λ (e : Entered). e.entry) blank-is)

  work-is : blank rows u ≡ (enter rows t g v o n (blank rows w)).work
  work-is = ap (blank rows) ue ∙ sym (ap (λ (e : Entered). e.work) blank-is)

  same-cell : (j : ℕ) → j < rows → cell rows places_column j u ≡ cell rows places_column j w
  same-cell j h = sym (get_or-column rows u places_column j h) ∙ ap (λ (l : List ℕ). get_or l j 0) (only.others places_column refl) ∙ get_or-column rows w places_column j h

  same-stack : stack rows u stored ≡ stack rows w stored
  same-stack = stack-kept rows w u (only.others places_column refl) stored (omega (arith, P.room))

  stored-inside : (j : ℕ) → j < stored → cell rows places_column j u < 3 * tris
  stored-inside j h = subst (λ (x : ℕ). x < 3 * tris) (sym (same-cell j (omega (arith, P.room)))) (P.inside j h)

  -- the walk stops at the triangle
  pub goes_back : (b : Going) → r ≡ None → b ≡ back rows stored n u → Goes rows tris g stored w u b step said
  goes_back b e be =
      let G : Grown rows w None u = rw e at grown in
      let B = subst (Backs rows tris stored n u) (sym be) (backs rows tris stored n u stored-inside) in
      let S = corner-stops rows tris t g v o n (blank rows w) tri (blank-ready rows tris g n w R) r (blank rows u) entry-is work-is e in
      record {
        is = λ m l. (λ k. all rows (step m) (walk (blank rows u) (B.count k)) ((B.is ∙ same-stack) k)) ∙ ap (λ (s : Walk). all rows (step m) s (stack rows w stored)) (S.is m (omega (arith, blank-ungrouped rows w)));
        ready = ready-moves rows tris g n b.count w u R only.size (omega (arith, R.room, G.0, B.count)) (only.others link_column refl);
        next = B.next;
        kept = record { inside = λ j h. stored-inside j (omega (arith, B.fewer)); room = omega (arith, P.room, G.0, B.fewer) };
        falls = omega (arith, G.0, B.falls);
        fewer = omega (arith, G.0);
        only = only-more walk_columns flat_columns rows w u refl only;
      }

  -- its corner is entered
  goes_on : (i : ℕ) → r ≡ Some i → Goes rows tris g stored w (put rows places_column stored (3 * t + i) u) (record { next = Some (3 * t + (i + 2) % 3); stored = stored + 1; count = n + 1 }) step said
  unfolding all
  goes_on i e =
      let G : Grown rows w (Some i) u = rw e at grown in
      let long : columns * rows ≤ length u = omega (arith, R.long, only.size) in
      let h : stored < rows = omega (arith, P.room, G.1) in
      let z = put rows places_column stored (3 * t + i) u in
      let same : blank rows z ≡ blank rows u = blank-place rows stored (3 * t + i) u h in
      let U : ungrouped rows z ≡ ungrouped rows u = sym (blank-ungrouped rows z) ∙ ap (ungrouped rows) same ∙ blank-ungrouped rows u in
      let O : Only flat_columns rows w z = only-put flat_columns rows w u places_column stored (3 * t + i) refl (omega arith) h (only-more walk_columns flat_columns rows w u refl only) in
      record {
        is = λ m l.
            let S = entered-goes rows tris g v o m (enough rows tris g v o m) (blank rows w) n t i (blank rows u) G.0 tri (blank-ready rows tris g n w R) (sym e ∙ entry-is) work-is ((only-blank rows u).size ∙ only.size ∙ sym (only-blank rows w).size) (omega (arith, G.1, blank-ungrouped rows u)) in
            ap (all rows (step m) (walk (blank rows z) (n + 1))) (places-more rows (3 * t + (i + 2) % 3) stored (3 * t + i) u h long ∙ ap (λ (l : List ℕ). (3 * t + (i + 2) % 3) ∷ ((3 * t + i) ∷ l)) same-stack)
            ∙ ap (λ (l : List ℕ). all rows (step m) (side rows (step m) (side rows (step m) (walk l (n + 1)) (3 * t + (i + 2) % 3)) (3 * t + i)) (stack rows w stored)) same
            ∙ ap (λ (s : Walk). all rows (step m) s (stack rows w stored)) (S.is m (omega (arith, blank-ungrouped rows w)));
        ready = ready-moves rows tris g n (n + 1) w z R O.size (omega (arith, R.room, G.1, U)) (O.others link_column refl);
        next = omega (arith, G.0);
        kept = record {
          inside = λ j k. more-inside rows tris stored (3 * t + i) u h long (omega (arith, G.0)) stored-inside j (omega arith);
          room = omega (arith, P.room, G.1, U);
        };
        falls = omega (arith, G.1, U);
        fewer = omega (arith, G.1, U);
        only = O;
      }

  -- the same, with any numbers that are equal to those
  pub goes_to : (i : ℕ) → r ≡ Some i → (x y m p : ℕ) → x ≡ 3 * t + (i + 2) % 3 → y ≡ stored + 1 → m ≡ n + 1 → p ≡ 3 * t + i → Goes rows tris g stored w (put rows places_column stored p u) (record { next = Some x; stored = y; count = m }) step said
  goes_to i e x y m p a b c d =
      subst (λ (q : ℕ). Goes rows tris g stored w (put rows places_column stored q u) (record { next = Some x; stored = y; count = m }) step said) (sym d)
      (subst (λ (s : Going). Goes rows tris g stored w (put rows places_column stored (3 * t + i) u) s step said) (λ j. record { next = Some (sym a j); stored = sym b j; count = sym c j }) (goes_on i e))

-- ---- over a side

module _ (rows tris g v o k stored n : ℕ) (w : List ℕ) (R : Ready rows tris g n w) (P : Stored rows tris stored w) where
  abbrev steps : ℕ → Walk → ℕ → Walk
  steps = corner rows g v o

  abbrev todo : ℕ → Walk
  todo m = all rows (steps m) (walk (blank rows w) n) (places rows w (Some k) stored)

  todo-is : k < rows → (m : ℕ) → todo m ≡ all rows (steps m) (follow (steps m) (walk (blank rows w) n) (link_of (cell rows link_column k w))) (stack rows w stored)
  unfolding all side places
  todo-is h m =
      ap (λ (x : ℕ). all rows (steps m) (follow (steps m) (walk (blank rows w) n) (link_of x)) (stack rows w stored)) (blank-cell rows link_column k w refl h)

  -- a side that leads nowhere
  pub crosses-none : (b : Going) → k < rows → None ≡ link_of (cell rows link_column k w) → b ≡ back rows stored n w → Goes rows tris g stored w w b steps todo
  crosses-none b h e be =
      let B = subst (Backs rows tris stored n w) (sym be) (backs rows tris stored n w P.inside) in
      record {
        is = λ m l. (λ q. all rows (steps m) (walk (blank rows w) (B.count q)) (B.is q)) ∙ ap (λ x. all rows (steps m) (follow (steps m) (walk (blank rows w) n) x) (stack rows w stored)) e ∙ sym (todo-is h m);
        ready = ready-moves rows tris g n b.count w w R refl (omega (arith, R.room, B.count)) refl;
        next = B.next;
        kept = record { inside = λ j q. P.inside j (omega (arith, B.fewer)); room = omega (arith, P.room, B.fewer) };
        falls = omega (arith, B.falls);
        fewer = omega arith;
        only = only_none flat_columns rows w;
      }

  -- a side beyond which is the side of row x
  pub crosses-to : (b : Going) (u : List ℕ) (x : ℕ) → k < rows → Some x ≡ link_of (cell rows link_column k w) → Goes rows tris g stored w u b steps (λ m. all rows (steps m) (steps m (walk (blank rows w) n) (x / 3)) (stack rows w stored)) → Goes rows tris g stored w u b steps todo
  crosses-to b u x h e G = record {
    is = λ m l. G.is m l ∙ ap (λ y. all rows (steps m) (follow (steps m) (walk (blank rows w) n) y) (stack rows w stored)) e ∙ sym (todo-is h m);
    ready = G.ready;
    next = G.next;
    kept = G.kept;
    falls = G.falls;
    fewer = G.fewer;
    only = G.only;
  }
