-- The corner step is what it is at any depth above the number of ungrouped corners. Assumes nothing.
use Prim.Native.Nat.{ℕ, zero, suc, ◌+◌, ◌*◌, ◌/◌, ◌%◌, ◌≤◌, ◌<◌}
use native.Mathlib.Omega.{arith}
use mathlib.Core.Path.{◌≡◌, refl, subst}
use mathlib.Core.List.{List}
use lib.ListN.{length}
use Rattle.table.specs.Table.{cell}
use Rattle.table.specs.Columns.{link_column}
use Rattle.std.specs.Prelude.{Option, Some, None}
use Rattle.neighbors.specs.Links.{link_of}
use Rattle.groups.specs.Walk.{walk_columns, enter, Walk, walk, side, corner, ungrouped, Ready, Steps}
use Rattle.view.specs.Frame.{Only}
use Rattle.groups.proofs.Laws.{Grown, enter-grown}
use Rattle.groups.proofs.Steps.{ready-steps, corner-below, corner-stops, corner-ready, corner-falls, corner-goes, side-stops, side-goes}

-- entering writes the walk's columns alone
grown-only : (rows : ℕ) (w u : List ℕ) (r : Option ℕ) → Grown rows w r u → Only walk_columns rows w u
grown-only rows w u None G = G.1
grown-only rows w u (Some i) G = G.2

module _ (rows tris g v o : ℕ) where
  abbrev pub C : ℕ → Walk → ℕ → Walk
  C m = corner rows g v o m

  pub enter-only : (w : List ℕ) (n t : ℕ) → t < tris → Ready rows tris g n w → Only walk_columns rows w (enter rows t g v o n w).work
  enter-only w n t h R = grown-only rows w (enter rows t g v o n w).work (enter rows t g v o n w).entry (enter-grown rows t g v o n w (omega (arith, R.fits)) R.long R.some R.room)

  -- what one depth is to show
  abbrev pub Enough : ℕ → Type 0
  Enough m = (w : List ℕ) (n t : ℕ) → t < tris → Ready rows tris g n w → ungrouped rows w < m → Steps rows (walk w n) (C m (walk w n) t) (λ k. C k (walk w n) t)

  -- a link word below its bound leads to a triangle
  pub to-triangle : (x u : ℕ) → x ≤ 3 * tris → Some u ≡ link_of x → u / 3 < tris
  unfolding link_of
  to-triangle zero u h e = absurd (let z : ◌≡◌ {A = ℕ} 0 1 = cc in omega arith)
  to-triangle (suc x) u h e = let z : u ≡ x = cc in omega arith

  -- a side step
  pub side-enough : (m : ℕ) → Enough m → (w : List ℕ) (n k : ℕ) → k < 3 * tris → Ready rows tris g n w → ungrouped rows w < m → Steps rows (walk w n) (side rows (C m) (walk w n) k) (λ j. side rows (C j) (walk w n) k)
  side-enough m I w n k h R l = go (link_of (cell rows link_column k w)) refl
    where
      go : (x : Option ℕ) → x ≡ link_of (cell rows link_column k w) → Steps rows (walk w n) (side rows (C m) (walk w n) k) (λ j. side rows (C j) (walk w n) k)
      go None e = let S = side-stops rows g v o n k w e in subst (λ (y : Walk). Steps rows (walk w n) y (λ j. side rows (C j) (walk w n) k)) (S.is m l) S
      go (Some u) e =
          let S = side-goes rows g v o n k u w (C m (walk w n) (u / 3)) e (I w n (u / 3) (to-triangle (cell rows link_column k w) u (R.links k h) e) R l) in
          subst (λ (y : Walk). Steps rows (walk w n) y (λ j. side rows (C j) (walk w n) k)) (S.is m l) S

  -- the two side steps of a corner that is entered
  pub entered-goes : (m : ℕ) → Enough m → (w : List ℕ) (n t i : ℕ) (u : List ℕ) → i < 3 → t < tris → Ready rows tris g n w → (e : Some i ≡ (enter rows t g v o n w).entry) → (f : u ≡ (enter rows t g v o n w).work) → length u ≡ length w → ungrouped rows u < m
      → Steps rows (walk w n) (side rows (C m) (side rows (C m) (walk u (n + 1)) (3 * t + (i + 2) % 3)) (3 * t + i)) (λ k. C k (walk w n) t)
  entered-goes m I w n t i u b h R e f size l =
      let R₁ = corner-ready rows tris t g v o n w h R (Some i) u e f i refl size in
      let S₁ = side-enough m I u (n + 1) (3 * t + (i + 2) % 3) (omega arith) R₁ l in
      let s₁ = side rows (C m) (walk u (n + 1)) (3 * t + (i + 2) % 3) in
      let R₂ = ready-steps rows tris g (n + 1) s₁.count u s₁.work (λ j. side rows (C j) (walk u (n + 1)) (3 * t + (i + 2) % 3)) R₁ S₁ S₁.only.size in
      let S₂ = side-enough m I s₁.work s₁.count (3 * t + i) (omega arith) R₂ (omega (arith, S₁.fewer)) in
      corner-goes rows tris t g v o n w h R (Some i) u e f i refl s₁ (side rows (C m) s₁ (3 * t + i)) S₁ S₂

  pub enough : (m : ℕ) → Enough m
  enough zero w n t h R l = absurd (omega arith)
  enough (suc m) w n t h R l = go (enough m) (enter rows t g v o n w).entry refl
    where
      u : List ℕ
      u = (enter rows t g v o n w).work

      go : Enough m → (x : Option ℕ) → x ≡ (enter rows t g v o n w).entry → Steps rows (walk w n) (C (suc m) (walk w n) t) (λ k. C k (walk w n) t)
      go I None e =
          let S = corner-stops rows tris t g v o n w h R None u e refl refl in
          subst (λ (y : Walk). Steps rows (walk w n) y (λ k. C k (walk w n) t)) (S.is (suc m) l) S
      go I (Some i) e =
          let b = corner-below rows tris t g v o n w h R (Some i) u e refl i refl in
          let falls = corner-falls rows tris t g v o n w h R (Some i) u e refl i refl in
          let S = entered-goes m I w n t i u b h R e refl (enter-only w n t h R).size (omega arith) in
          subst (λ (y : Walk). Steps rows (walk w n) y (λ k. C k (walk w n) t)) (S.is (suc m) l) S
