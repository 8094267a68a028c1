-- Step 5: the columns' linking of sides in some order is the definition's in that order, whatever a side sees of the later ones. Assumes nothing.
use Prim.Native.Nat.{ℕ, zero, suc, ◌+◌, ◌*◌, ◌-◌, ◌/◌, ◌%◌, ◌≤◌, ◌<◌, min, max}
use native.Mathlib.Nat.{le_refl}
use native.Mathlib.Numerals.{add-one}
use native.Mathlib.Omega.{arith}
use mathlib.Core.Path.{◌≡◌, refl, sym, ◌∙◌, ap, subst}
use mathlib.Core.Bool.{Bool, true, false, cond, not, ◌&&◌, ◌||◌, true≢false}
use mathlib.Core.List.{List, [], ◌∷◌, map}
use mathlib.Core.Option.{Option, none, some}
use lib.Dec.{eqb}
use lib.ListN.{length, get_or, drop, drop_of_length-le}
use lib.Seq.{drop-cons}
use borrow.Author.Tests.{eq-eqb, ne_eqb, eqb-true, eqb-false, not-true}
use Rattle.table.specs.Table.{cell, put}
use Rattle.lists.specs.Loops.{up_to}
use Rattle.table.specs.Columns.{columns, vertex_column, link_column, lower_column, higher_column, order_column}
use Rattle.definition.specs.declared.Triangle.{Triangle}
use Rattle.lists.specs.Lists.{first}
use Rattle.definition.specs.Mesh.{Third, Spot, after, next, corner_of}
use Rattle.definition.specs.Step4Order.{welded}
use Rattle.definition.specs.Step5Links.{Link as Pair, end_of, opposite, linked, add_link, link_one, beyond}
use Rattle.bits.proofs.Bools.{and_left, and_right}
use Rattle.laws.proofs.Buckets.{same_ends}
use Rattle.definition.specs.Names.{Names}
use Rattle.view.specs.Frame.{outside, Only}
use Rattle.view.specs.Rows.{third, row, spot_at, spot_row}
use Rattle.view.specs.Weld.{Welds, Sharp}
use Rattle.view.specs.Links.{LinkWord, nowhere, Linked}
use Rattle.view.proofs.Lists.{bool_iff, and_both}
use Rattle.view.proofs.Frame.{only_none, only-put, cell-kept}
use Rattle.view.proofs.Rows.{row_is, tri-lt, row_lt, row_fits}
use Rattle.std.specs.Prelude.{Option as Option', Some, None}
use Rattle.neighbors.specs.Links.{same_ends as word_ends, suits, seek, mate_from, mate_of, join, turn}
use Rattle.neighbors.proofs.Linking.{unlinked-word, link-more}

-- ---- two tests

and-mid : (a b c : Bool) → (a && (b && c)) ≡ ((a && c) && b)
and-mid true true true = refl
and-mid true true false = refl
and-mid true false true = refl
and-mid true false false = refl
and-mid false b c = refl

-- two sides with the same two ends: by their starts
pub same_end : (x y x' y' : ℕ) → min x y ≡ min x' y' → max x y ≡ max x' y' → x ≡ x' → y ≡ y'
same_end x y x' y' l h e = omega arith

pub start-end : (x y x' y' : ℕ) → min x y ≡ min x' y' → max x y ≡ max x' y' → (x ≡ x' → ⊥) → x ≡ y'
start-end x y x' y' l h d = omega arith

pub end-start : (x y x' y' : ℕ) → min x y ≡ min x' y' → max x y ≡ max x' y' → x ≡ y' → y ≡ x'
end-start x y x' y' l h e = omega arith

-- the same ends and another start: run the opposite way, where ends differ
ends-opposite : (x y x' y' : ℕ) → (x ≡ y → ⊥) → (x' ≡ y' → ⊥) → ((eqb (min x y) (min x' y') && eqb (max x y) (max x' y')) && not (eqb x x')) ≡ (eqb x y' && eqb y x')
ends-opposite x y x' y' n n' =
    bool_iff ((eqb (min x y) (min x' y') && eqb (max x y) (max x' y')) && not (eqb x x')) (eqb x y' && eqb y x')
    (λ e.
    let a = and_left (eqb (min x y) (min x' y') && eqb (max x y) (max x' y')) (not (eqb x x')) e in
    let l = eqb-true (min x y) (min x' y') (and_left (eqb (min x y) (min x' y')) (eqb (max x y) (max x' y')) a) in
    let h = eqb-true (max x y) (max x' y') (and_right (eqb (min x y) (min x' y')) (eqb (max x y) (max x' y')) a) in
    let d = eqb-false x x' (not-true (eqb x x') (and_right (eqb (min x y) (min x' y') && eqb (max x y) (max x' y')) (not (eqb x x')) e)) in
    and_both (eqb x y') (eqb y x') (eq-eqb x y' (start-end x y x' y' l h d)) (eq-eqb y x' (end-start x y x' y' l h (start-end x y x' y' l h d))))
    (λ e.
    let a = eqb-true x y' (and_left (eqb x y') (eqb y x') e) in
    let b = eqb-true y x' (and_right (eqb x y') (eqb y x') e) in
    and_both (eqb (min x y) (min x' y') && eqb (max x y) (max x' y')) (not (eqb x x'))
    (and_both (eqb (min x y) (min x' y')) (eqb (max x y) (max x' y')) (eq-eqb (min x y) (min x' y') (omega arith)) (eq-eqb (max x y) (max x' y') (omega arith)))
    (ap not (ne_eqb x x' (λ q. n (omega arith)))))

-- ---- equal ends

pub ends-same : (x y x' y' : ℕ) → (eqb (min x y) (min x' y') && eqb (max x y) (max x' y')) ≡ (eqb x x' && eqb y y' || eqb x y' && eqb y x')
ends-same x y x' y' =
    bool_iff (eqb (min x y) (min x' y') && eqb (max x y) (max x' y')) (eqb x x' && eqb y y' || eqb x y' && eqb y x')
    (λ e. there (eqb-true (min x y) (min x' y') (and_left (eqb (min x y) (min x' y')) (eqb (max x y) (max x' y')) e)) (eqb-true (max x y) (max x' y') (and_right (eqb (min x y) (min x' y')) (eqb (max x y) (max x' y')) e)) (eqb x x') refl)
    (λ e. back (eqb x x' && eqb y y') refl e)
  where
    there : min x y ≡ min x' y' → max x y ≡ max x' y' → (b : Bool) → eqb x x' ≡ b → (b && eqb y y' || eqb x y' && eqb y x') ≡ true
    there l h true e = ap (λ b. b || eqb x y' && eqb y x') (eq-eqb y y' (same_end x y x' y' l h (eqb-true x x' e)))
    there l h false e =
        let p = start-end x y x' y' l h (eqb-false x x' e) in
        and_both (eqb x y') (eqb y x') (eq-eqb x y' p) (eq-eqb y x' (end-start x y x' y' l h p))

    straight : x ≡ x' → y ≡ y' → (eqb (min x y) (min x' y') && eqb (max x y) (max x' y')) ≡ true
    straight a b = and_both (eqb (min x y) (min x' y')) (eqb (max x y) (max x' y')) (eq-eqb (min x y) (min x' y') (omega arith)) (eq-eqb (max x y) (max x' y') (omega arith))

    crossed : x ≡ y' → y ≡ x' → (eqb (min x y) (min x' y') && eqb (max x y) (max x' y')) ≡ true
    crossed a b = and_both (eqb (min x y) (min x' y')) (eqb (max x y) (max x' y')) (eq-eqb (min x y) (min x' y') (omega arith)) (eq-eqb (max x y) (max x' y') (omega arith))

    back : (b : Bool) → (eqb x x' && eqb y y') ≡ b → (b || eqb x y' && eqb y x') ≡ true → (eqb (min x y) (min x' y') && eqb (max x y) (max x' y')) ≡ true
    back true p e = straight (eqb-true x x' (and_left (eqb x x') (eqb y y') p)) (eqb-true y y' (and_right (eqb x x') (eqb y y') p))
    back false p e = crossed (eqb-true x y' (and_left (eqb x y') (eqb y x') e)) (eqb-true y x' (and_right (eqb x y') (eqb y x') e))

-- ---- the sides and their order

-- column k has one word for welded corners of the triangles ss, and another for others
abbrev pub WeldsBy : ℕ → ℕ → List Triangle → Triangle → List ℕ → Type 0
WeldsBy rows k ss d w = (t u : ℕ) (i j : Third) → t < length ss → u < length ss → eqb (cell rows k (row t i) w) (cell rows k (row u j) w) ≡ welded (corner_of (spot_at ss d t i)) (corner_of (spot_at ss d u j))

-- the same lower and the same higher of such words: the same ends
pub ends-are : (rows k : ℕ) (ss : List Triangle) (d : Triangle) (w : List ℕ) → WeldsBy rows k ss d w → (t u : ℕ) (i j : Third) → t < length ss → u < length ss
    → (eqb (min (cell rows k (row t i) w) (cell rows k (row t (after i)) w)) (min (cell rows k (row u j) w) (cell rows k (row u (after j)) w)) && eqb (max (cell rows k (row t i) w) (cell rows k (row t (after i)) w)) (max (cell rows k (row u j) w) (cell rows k (row u (after j)) w))) ≡ same_ends (spot_at ss d t i) (spot_at ss d u j)
unfolding same_ends opposite end_of next
ends-are rows k ss d w W t u i j h g =
    ends-same (cell rows k (row t i) w) (cell rows k (row t (after i)) w) (cell rows k (row u j) w) (cell rows k (row u (after j)) w)
    ∙ (λ z. W t u i j h g z && W t u (after i) (after j) h g z || W t u i (after j) h g z && W t u (after i) j h g z)

-- the sides of the triangles ss, in the order os
pub record Sides (rows : ℕ) (ss : List Triangle) (d : Triangle) (os : List ℕ) (w : List ℕ) : Type 0 where
  pub vertex : Welds rows ss d w
  pub ends : (t u : ℕ) (i j : Third) → t < length ss → u < length ss → word_ends rows (row t i) (row u j) w ≡ same_ends (spot_at ss d t i) (spot_at ss d u j)
  pub order : (a : ℕ) → a < length os → cell rows order_column a w ≡ get_or os a 0

-- the same ends, by row
pub ends-rows : (rows : ℕ) (ss : List Triangle) (d : Triangle) (os w : List ℕ) → Sides rows ss d os w → (r s : ℕ) → r < 3 * length ss → s < 3 * length ss → word_ends rows r s w ≡ same_ends (spot_row ss d r) (spot_row ss d s)
ends-rows rows ss d os w S r s h k =
    (λ z. word_ends rows (sym (row_is r) z) (sym (row_is s) z) w) ∙ S.ends (r / 3) (s / 3) (third (r % 3)) (third (s % 3)) (tri-lt r (length ss) h) (tri-lt s (length ss) k)

-- the order itself: it has as many places as there are sides
pub record Ordered (ss : List Triangle) (os : List ℕ) : Type 0 where
  pub all : length os ≡ 3 * length ss
  pub below : (a : ℕ) → a < length os → get_or os a 0 < 3 * length ss

-- what a side sees of the later ones: at least all up to the first with other ends, and none past it that has its ends
pub record Sees (ss : List Triangle) (d : Triangle) (os : List ℕ) (see : Spot → List Spot → List Spot) : Type 0 where
  pub none_left : (x : Spot) → see x [] ≡ []
  pub goes_on : (x y : Spot) (l : List Spot) (p : Spot → Bool) → same_ends x y ≡ true → first p (see x (y ∷ l)) ≡ cond (p y) (some y) (first p (see x l))
  pub stops : (a b : ℕ) → a ≤ b → b < length os → same_ends (spot_row ss d (get_or os a 0)) (spot_row ss d (get_or os b 0)) ≡ false → (p : Spot → Bool) → ((y : Spot) → same_ends (spot_row ss d (get_or os a 0)) y ≡ false → p y ≡ false) → first p (see (spot_row ss d (get_or os a 0)) (map (spot_row ss d) (drop b os))) ≡ none

-- sides run opposite ways have the same ends
other-ends : (s t : Spot) → same_ends s t ≡ false → opposite s t ≡ false
unfolding same_ends
other-ends s t e = go (welded (corner_of s) (corner_of t) && welded (end_of s) (end_of t)) e
  where
    go : (b : Bool) → (b || opposite s t) ≡ false → opposite s t ≡ false
    go true e = absurd (true≢false e)
    go false e = e

module _ (rows : ℕ) (ss : List Triangle) (d : Triangle) (N : Names ss) (fits : 3 * length ss ≤ rows) (os : List ℕ) (P : Ordered ss os)
    (sharp : Sharp ss d) (see : Spot → List Spot → List Spot) (sees : Sees ss d os see) where
  -- storing links leaves what is known of the sides
  sides-kept : (w u : List ℕ) → Sides rows ss d os w → Only (link_column ∷ []) rows w u → Sides rows ss d os u
  unfolding word_ends
  sides-kept w u S O = record {
    vertex = λ t₁ t₂ i₁ i₂ h₁ h₂. (λ k. eqb (start-kept t₁ i₁ h₁ k) (start-kept t₂ i₂ h₂ k)) ∙ S.vertex t₁ t₂ i₁ i₂ h₁ h₂;
    ends = λ t₁ t₂ i j h k. (λ z. eqb (kept lower_column refl (row t₁ i) (row_lt t₁ (length ss) i h) z) (kept lower_column refl (row t₂ j) (row_lt t₂ (length ss) j k) z) && eqb (kept higher_column refl (row t₁ i) (row_lt t₁ (length ss) i h) z) (kept higher_column refl (row t₂ j) (row_lt t₂ (length ss) j k) z)) ∙ S.ends t₁ t₂ i j h k;
    order = λ a h. cell-kept (link_column ∷ []) rows w u O order_column a refl (let c = P.all in omega arith) ∙ S.order a h;
  }
    where
      kept : (k : ℕ) → outside (link_column ∷ []) k ≡ true → (r : ℕ) → r < 3 * length ss → cell rows k r u ≡ cell rows k r w
      kept k e r h = cell-kept (link_column ∷ []) rows w u O k r e (omega arith)

      start-kept : (t : ℕ) (i : Third) → t < length ss → cell rows vertex_column (row t i) u ≡ cell rows vertex_column (row t i) w
      start-kept t i h = cell-kept (link_column ∷ []) rows w u O vertex_column (row t i) refl (row_fits rows ss fits t i h)

  -- ---- what the search asks of a later side

  module _ (ls : List Pair) (w : List ℕ) (S : Sides rows ss d os w) (L : Linked rows ss d ls w) where
    -- by triangle and corner
    suits-at : (t u : ℕ) (i j : Third) → t < length ss → u < length ss → (word_ends rows (row t i) (row u j) w && suits rows (row t i) (row u j) w) ≡ (opposite (spot_at ss d t i) (spot_at ss d u j) && not (linked ls (spot_at ss d u j)))
    unfolding suits opposite end_of next
    suits-at t u i j h k =
        (λ z. ends z && (unlinked-word rows ss d N fits ls w L u j k z && not (eqb (cell rows vertex_column (row t i) w) (cell rows vertex_column (row u j) w))))
        ∙ (and-mid (eqb (min x y) (min x' y') && eqb (max x y) (max x' y')) (not (linked ls (spot_at ss d u j))) (not (eqb x x'))
        ∙ ap (λ b. b && not (linked ls (spot_at ss d u j))) (ends-opposite x y x' y' (apart t i h) (apart u j k) ∙ (λ z. S.vertex t u i (after j) h k z && S.vertex t u (after i) j h k z)))
      where
        x : ℕ
        x = cell rows vertex_column (row t i) w

        y : ℕ
        y = cell rows vertex_column (row t (after i)) w

        x' : ℕ
        x' = cell rows vertex_column (row u j) w

        y' : ℕ
        y' = cell rows vertex_column (row u (after j)) w

        ends : word_ends rows (row t i) (row u j) w ≡ (eqb (min x y) (min x' y') && eqb (max x y) (max x' y'))
        ends = S.ends t u i j h k ∙ sym (ends-are rows vertex_column ss d w S.vertex t u i j h k)

        apart : (t : ℕ) (i : Third) → t < length ss → cell rows vertex_column (row t i) w ≡ cell rows vertex_column (row t (after i)) w → ⊥
        apart t i h e = true≢false (sym (eq-eqb (cell rows vertex_column (row t i) w) (cell rows vertex_column (row t (after i)) w) e) ∙ (S.vertex t t i (after i) h h ∙ sharp.apart t i h))

    -- by row
    suits-row : (r s : ℕ) → r < 3 * length ss → s < 3 * length ss → (word_ends rows r s w && suits rows r s w) ≡ (opposite (spot_row ss d r) (spot_row ss d s) && not (linked ls (spot_row ss d s)))
    suits-row r s h k =
        (λ z. word_ends rows (sym (row_is r) z) (sym (row_is s) z) w && suits rows (sym (row_is r) z) (sym (row_is s) z) w)
        ∙ suits-at (r / 3) (s / 3) (third (r % 3)) (third (s % 3)) (tri-lt r (length ss) h) (tri-lt s (length ss) k)

    -- ---- the search

    -- the side that the definition finds, and the mate that the columns give
    data Mates (s : ℕ) : Option Spot → Option' ℕ → Type 0 where
      no-mate : Mates s none None
      mate-at : (u : ℕ) → u < 3 * length ss → eqb s u ≡ false → Mates s (some (spot_row ss d u)) (Some u)

    module _ (a : ℕ) (ha : a < length os) where
      abbrev s : ℕ
      s = cell rows order_column a w

      abbrev p : Spot → Bool
      p x = opposite (spot_row ss d s) x && not (linked ls x)

      abbrev same : ℕ → Bool
      same b = word_ends rows s (cell rows order_column b w) w

      abbrev suit : ℕ → Bool
      suit b = suits rows s (cell rows order_column b w) w

      abbrev later : ℕ → List Spot
      later b = map (spot_row ss d) (drop b os)

      in_order : (b : ℕ) → b < length os → cell rows order_column b w < 3 * length ss
      in_order b h = subst (λ x. x < 3 * length ss) (sym (S.order b h)) (P.below b h)

      passes : (b : ℕ) → b < length os → p (spot_row ss d (get_or os b 0)) ≡ (same b && suit b)
      passes b h = ap (λ x. p (spot_row ss d x)) (sym (S.order b h)) ∙ sym (suits-row s (cell rows order_column b w) (in_order a ha) (in_order b h))

      -- the test of the same ends
      same-is : (b : ℕ) → b < length os → same b ≡ same_ends (spot_row ss d s) (spot_row ss d (get_or os b 0))
      same-is b h = ends-rows rows ss d os w S s (cell rows order_column b w) (in_order a ha) (in_order b h) ∙ ap (λ x. same_ends (spot_row ss d s) (spot_row ss d x)) (S.order b h)

      -- past the last of the same ends there is none
      none-later : (b : ℕ) → a ≤ b → b < length os → same b ≡ false → first p (see (spot_row ss d s) (later b)) ≡ none
      none-later b l h e =
          ap (λ x. first p (see (spot_row ss d x) (later b))) (S.order a ha)
          ∙ sees.stops a b l h (sym (ap (λ x. same_ends (spot_row ss d x) (spot_row ss d (get_or os b 0))) (S.order a ha)) ∙ (sym (same-is b h) ∙ e)) p
          (λ y f. ap (λ x. x && not (linked ls y)) (other-ends (spot_row ss d s) y (ap (λ x. same_ends (spot_row ss d x) y) (S.order a ha) ∙ f)))

      other_row : (b : ℕ) → suit b ≡ true → eqb s (cell rows order_column b w) ≡ false
      unfolding suits
      other_row b e = ne_eqb s (cell rows order_column b w) (λ q.
          eqb-false (cell rows vertex_column s w) (cell rows vertex_column (cell rows order_column b w) w)
          (not-true (eqb (cell rows vertex_column s w) (cell rows vertex_column (cell rows order_column b w) w)) (and_right (eqb (cell rows link_column (cell rows order_column b w) w) 0) (not (eqb (cell rows vertex_column s w) (cell rows vertex_column (cell rows order_column b w) w))) e))
          (ap (λ r. cell rows vertex_column r w) q))

      -- what is seen of the places from b on
      abbrev seen : ℕ → List Spot
      seen b = see (spot_row ss d s) (later b)

      seek-first : (m b : ℕ) → a < b → b + m ≡ length os → Mates s (first p (seen b)) (seek m same suit (λ b. cell rows order_column b w) b)
      unfolding seek first
      seek-first zero b l e =
          subst (λ x. Mates s (first p (see (spot_row ss d s) (map (spot_row ss d) x))) None) (sym (drop_of_length-le os {i = b} (omega arith)))
          (subst (λ x. Mates s (first p x) None) (sym (sees.none_left (spot_row ss d s))) no-mate)
      seek-first (suc m) b l e =
          let h : b < length os = omega arith in
          step (same b) refl (suit b) refl h (seek-first m (suc b) (omega arith) (omega arith))
        where
          -- one that has the same ends
          more : (y : Bool) → same b ≡ true → suit b ≡ y → b < length os → first p (seen b) ≡ cond y (some (spot_row ss d (get_or os b 0))) (first p (seen (suc b)))
          more y q r h =
              ap (λ x. first p (see (spot_row ss d s) (map (spot_row ss d) x))) (drop-cons os b 0 h)
              ∙ (sees.goes_on (spot_row ss d s) (spot_row ss d (get_or os b 0)) (later (suc b)) p (sym (same-is b h) ∙ q)
              ∙ ap (λ x. cond x (some (spot_row ss d (get_or os b 0))) (first p (seen (suc b)))) (passes b h ∙ (λ z. q z && r z)))

          step : (x : Bool) → same b ≡ x → (y : Bool) → suit b ≡ y → b < length os → Mates s (first p (seen (suc b))) (seek m same suit (λ b. cell rows order_column b w) (suc b)) → Mates s (first p (seen b)) (cond x (cond y (Some (cell rows order_column b w)) (seek m same suit (λ b. cell rows order_column b w) (suc b))) None)
          step true q true r h I = subst (λ o. Mates s o (Some (cell rows order_column b w))) (sym (more true q r h)) (subst (λ x. Mates s (some (spot_row ss d x)) (Some (cell rows order_column b w))) (S.order b h) (mate-at (cell rows order_column b w) (in_order b h) (other_row b r)))
          step true q false r h I = subst (λ o. Mates s o (seek m same suit (λ b. cell rows order_column b w) (suc b))) (sym (more false q r h)) I
          step false q y r h I = subst (λ o. Mates s o None) (sym (none-later b (omega arith) h q)) no-mate

      -- ---- the turn

      abbrev S' : Spot
      S' = spot_row ss d s

      -- one link more, by rows
      join-row : (long : columns * rows ≤ length w) (u : ℕ) → u < 3 * length ss → eqb s u ≡ false → Linked rows ss d (record { near = S'; far = spot_row ss d u } ∷ ls) (put rows link_column u (s + 1) (put rows link_column s (u + 1) w))
      join-row long u k e =
          let hs = tri-lt s (length ss) (in_order a ha) in
          let hu = tri-lt u (length ss) k in
          let r = link-more rows ss d N fits ls w L long (s / 3) (u / 3) (third (s % 3)) (third (u % 3)) hs hu ((λ z. eqb (row_is s z) (row_is u z)) ∙ e) in
          subst (λ x. Linked rows ss d (record { near = S'; far = spot_row ss d u } ∷ ls) (put rows link_column x (s + 1) (put rows link_column s (x + 1) w))) (row_is u)
          (subst (λ x. Linked rows ss d (record { near = S'; far = spot_row ss d u } ∷ ls) (put rows link_column (row (u / 3) (third (u % 3))) (x + 1) (put rows link_column x (row (u / 3) (third (u % 3)) + 1) w))) (row_is s) r)

      by-mates : (long : columns * rows ≤ length w) {o : Option Spot} {m : Option' ℕ} → Mates s o m → Linked rows ss d (add_link S' o ls) (join rows s m w)
      unfolding add_link
      by-mates long no-mate = L
      by-mates long (mate-at u k e) = join-row long u k e

      unlinked : eqb (cell rows link_column s w) 0 ≡ not (linked ls S')
      unlinked = ap (λ r. eqb (cell rows link_column r w) 0) (sym (row_is s)) ∙ unlinked-word rows ss d N fits ls w L (s / 3) (third (s % 3)) (tri-lt s (length ss) (in_order a ha))

      pub turn-links : (long : columns * rows ≤ length w) → Linked rows ss d (link_one ls S' (seen (suc a))) (turn rows (length os) a w)
      unfolding link_one turn mate_from
      turn-links long =
          subst (λ b. Linked rows ss d (link_one ls S' (seen (suc a))) (cond b (join rows s (mate_of rows (length os) a w) w) w)) (sym unlinked)
          (step (linked ls S') (by-mates long found))
        where
          found : Mates s (first p (seen (suc a))) (mate_of rows (length os) a w)
          found =
              subst (λ x. Mates s (first p (seen (suc a))) (seek (length os - x) same suit (λ b. cell rows order_column b w) x)) (sym (add-one a))
              (seek-first (length os - suc a) (suc a) (le_refl (suc a)) (omega arith))

          step : (b : Bool) → Linked rows ss d (add_link S' (first p (seen (suc a))) ls) (join rows s (mate_of rows (length os) a w) w) → Linked rows ss d (cond b ls (add_link S' (first p (seen (suc a))) ls)) (cond (not b) (join rows s (mate_of rows (length os) a w) w) w)
          step true r = L
          step false r = r

      -- only the links are stored
      pub turn-only : (w₀ : List ℕ) → Only (link_column ∷ []) rows w₀ w → Only (link_column ∷ []) rows w₀ (turn rows (length os) a w)
      unfolding turn mate_from
      turn-only w₀ O = step (eqb (cell rows link_column s w) 0) (by (seek-first (length os - suc a) (suc a) (le_refl (suc a)) (omega arith)))
        where
          by : {o : Option Spot} → Mates s o (seek (length os - suc a) same suit (λ b. cell rows order_column b w) (suc a)) → Only (link_column ∷ []) rows w₀ (join rows s (seek (length os - suc a) same suit (λ b. cell rows order_column b w) (suc a)) w)
          by r = go r
            where
              go : {o : Option Spot} {m : Option' ℕ} → Mates s o m → Only (link_column ∷ []) rows w₀ (join rows s m w)
              go no-mate = O
              go (mate-at u k e) =
                  only-put (link_column ∷ []) rows w₀ (put rows link_column s (u + 1) w) link_column u (s + 1) refl (omega arith) (omega arith)
                  (only-put (link_column ∷ []) rows w₀ w link_column s (u + 1) refl (omega arith) (omega (arith, in_order a ha)) O)

          step : (b : Bool) → Only (link_column ∷ []) rows w₀ (join rows s (seek (length os - suc a) same suit (λ b. cell rows order_column b w) (suc a)) w) → Only (link_column ∷ []) rows w₀ (cond b (join rows s (mate_of rows (length os) a w) w) w)
          step true r = subst (λ x. Only (link_column ∷ []) rows w₀ (join rows s (seek (length os - x) same suit (λ b. cell rows order_column b w) x) w)) (sym (add-one a)) r
          step false r = O

  -- ---- all turns

  -- the links after a turns, in the definition
  unfoldable pub links_to : ℕ → List Pair
  links_to zero = []
  links_to (suc a) = link_one (links_to a) (spot_row ss d (get_or os a 0)) (see (spot_row ss d (get_or os a 0)) (map (spot_row ss d) (drop (suc a) os)))

  module _ (w₀ : List ℕ) (S : Sides rows ss d os w₀) (long : columns * rows ≤ length w₀) (empty : (t : ℕ) (i : Third) → t < length ss → cell rows link_column (row t i) w₀ ≡ 0) where
    abbrev now : ℕ → List ℕ
    now a = up_to a (turn rows (length os)) w₀

    turns : (a : ℕ) → a ≤ length os → Linked rows ss d (links_to a) (now a) × Only (link_column ∷ []) rows w₀ (now a)
    unfolding links_to up_to beyond
    turns zero h = (λ t i k. subst (LinkWord ss d none) (sym (empty t i k)) nowhere, only_none (link_column ∷ []) rows w₀)
    turns (suc a) h =
        let r = turns a (omega arith) in
        let T = sides-kept w₀ (now a) S r.1 in
        let l : columns * rows ≤ length (now a) = subst (λ x. columns * rows ≤ x) (sym r.1.size) long in (
          subst (λ x. Linked rows ss d (link_one (links_to a) (spot_row ss d x) (see (spot_row ss d x) (map (spot_row ss d) (drop (suc a) os)))) (turn rows (length os) a (now a))) (T.order a (omega arith)) (turn-links (links_to a) (now a) T r.0 a (omega arith) l),
          turn-only (links_to a) (now a) T r.0 a (omega arith) w₀ r.1,
        )

    -- the column says what the definition's linking in that order says, and nothing else is stored
    pub all-links : Linked rows ss d (links_to (length os)) (now (length os)) × Only (link_column ∷ []) rows w₀ (now (length os))
    all-links = turns (length os) (le_refl (length os))
