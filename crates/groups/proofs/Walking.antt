-- The walk over the columns is the definition's walk, at every depth. Assumes nothing.
use Prim.Native.Nat.{ℕ, zero, suc, ◌+◌, ◌*◌, ◌-◌, ◌%◌, ◌≤◌, ◌<◌}
use native.Mathlib.Nat.{add-zero, add-suc}
use native.Mathlib.Omega.{arith}
use mathlib.Core.Path.{◌≡◌, refl, sym, ◌∙◌, ap, subst}
use mathlib.Core.Bool.{Bool}
use mathlib.Core.List.{List, [], ◌∷◌, ◌++◌}
use mathlib.Core.Option.{Option, none, some}
use lib.Dec.{eqb}
use lib.ListN.{length, get_or}
use Rattle.tangent.specs.Slot.{flag}
use Rattle.table.specs.Table.{cell}
use Rattle.table.specs.Columns.{vertex_column}
use Rattle.definition.specs.declared.Corner.{Corner}
use Rattle.definition.specs.declared.Triangle.{Triangle}
use Rattle.definition.specs.Mesh.{Third, one, two, three, Spot, before, prior, corner_of}
use Rattle.definition.specs.Step4Order.{spots, welded}
use Rattle.definition.specs.Step5Links.{Link}
use Rattle.definition.specs.Step6Groups.{Mark, corner_in, over_to, over, going, walk, fan}
use Rattle.laws.proofs.World.{welded-sym}
use Rattle.laws.proofs.Enough.{Near, enough, open-fan}
use Rattle.laws.proofs.Closed.{Between, over-near}
use Rattle.definition.specs.Names.{Names}
use Rattle.laws.proofs.Laws.{mark}
use Rattle.neighbors.specs.Links.{link_of}
use Rattle.view.specs.Rows.{num, row, spot_at}
use Rattle.view.specs.Links.{LinkWord, nowhere, towards}
use Rattle.view.proofs.Rows.{row-div, spots-length}
use Rattle.groups.specs.Walk.{Entered, Walk, walk as walk_of, follow, side, go_on, corner}
use Rattle.groups.proofs.Entering.{Going, Enters, halts, goes, enters}
use Rattle.laws.proofs.Part.{keep-length}

-- the number of the corner before
num-before : (i : Third) → (num i + 2) % 3 ≡ num (before i)
unfolding num before
num-before one = refl
num-before two = refl
num-before three = refl

module _ (rows : ℕ) (ss : List Triangle) (d : Triangle) (ls : List Link) (B : Between ss ls) (N : Names ss) (fits : 3 * length ss ≤ rows) (w₀ : List ℕ) (gs : List Spot) (tg : ℕ) (ig : Third) (hg : tg < length ss) (q G v : ℕ) (last : length gs ≡ q + 1) (Ge : G ≡ q + 1) (ge : spot_at ss d tg ig ≡ get_or gs q (spot_at ss d 0 one)) (n₀ : ℕ) (N₀ : ℕ → ℕ) (B₀ : List ℕ) where
  abbrev g : Spot
  g = spot_at ss d tg ig

  abbrev way : Bool
  way = (get_or ss tg d).orientation

  -- the state of the columns' walk stands for the marks
  abbrev pub Goes : List Mark → Walk → Type 0
  Goes ms s = Going rows ss d ls B N fits w₀ gs tg ig hg q G v last Ge ge n₀ N₀ B₀ ms s.work s.count

  abbrev pub D : ℕ → List Mark → Spot → List Mark
  D m ms s = walk m ls g way ms s

  abbrev pub C : ℕ → Walk → ℕ → Walk
  C m s t = corner rows G v (flag way) m s t

  -- what one depth of the walk is to show
  abbrev Step : ℕ → Type 0
  Step m = (ms : List Mark) (s : Walk) (t : ℕ) → t < length ss → Goes ms s → Goes (going (D m) ms (corner_in (corner_of g) (get_or ss t d))) (C m s t)

  by-link : (m : ℕ) → Step m → (ms : List Mark) (s : Walk) → Goes ms s → {o : Option Spot} {x : ℕ} → LinkWord ss d o x → Goes (going (D m) ms (over_to (corner_of g) o)) (follow (C m) s (link_of x))
  unfolding going over_to link_of
  by-link m I ms s R nowhere = R
  by-link m I ms s R (towards u j h) = subst (λ x. Goes (going (D m) ms (corner_in (corner_of g) (get_or ss u d))) (C m s x)) (sym (row-div u j)) (I ms s u h R)

  -- over a side
  over-side : (m : ℕ) → Step m → (ms : List Mark) (s : Walk) (t : ℕ) (j : Third) → t < length ss → Goes ms s → Goes (going (D m) ms (over ls (corner_of g) (spot_at ss d t j))) (side rows (C m) s (row t j))
  unfolding over side
  over-side m I ms s t j h R = by-link m I ms s R (R.marked.fixed.link t j h)

  prior-row : (t : ℕ) (i : Third) → prior (spot_at ss d t i) ≡ spot_at ss d t (before i)
  unfolding prior
  prior-row t i = refl

  by-enters : (m : ℕ) → Step m → (ms : List Mark) (n t : ℕ) → t < length ss → {o : Option Spot} {e : Entered} → Enters rows ss d ls B N fits w₀ gs tg ig hg q G v last Ge ge n₀ N₀ B₀ m ms n t o e → Goes (going (D (suc m)) ms o) (go_on rows (C m) t n e.entry e.work)
  by-enters m I ms n t h {o} {e} (halts p r R) =
      subst (λ x. Goes x (go_on rows (C m) t n e.entry e.work)) (sym p)
      (subst (λ y. Goes ms (go_on rows (C m) t n y e.work)) (sym r) R)
  by-enters m I ms n t h {o} {e} (goes i p r R) =
      let ms₁ = ms ++ (mark g (spot_at ss d t i) ∷ []) in
      let s₁ = walk_of e.work (n + 1) in
      let first : Goes (going (D m) ms₁ (over ls (corner_of g) (prior (spot_at ss d t i)))) (side rows (C m) s₁ (3 * t + (num i + 2) % 3)) =
      subst (λ x. Goes (going (D m) ms₁ (over ls (corner_of g) (prior (spot_at ss d t i)))) (side rows (C m) s₁ (3 * t + x))) (sym (num-before i))
      (subst (λ x. Goes (going (D m) ms₁ (over ls (corner_of g) x)) (side rows (C m) s₁ (row t (before i)))) (sym (prior-row t i)) (over-side m I ms₁ s₁ t (before i) h R)) in
      let second = over-side m I (going (D m) ms₁ (over ls (corner_of g) (prior (spot_at ss d t i)))) (side rows (C m) s₁ (3 * t + (num i + 2) % 3)) t i h first in
      subst (λ x. Goes x (go_on rows (C m) t n e.entry e.work)) (sym p)
      (subst (λ y. Goes (going (D m) (going (D m) ms₁ (over ls (corner_of g) (prior (spot_at ss d t i)))) (over ls (corner_of g) (spot_at ss d t i))) (go_on rows (C m) t n y e.work)) (sym r) second)

  vertices : (ms : List Mark) (s : Walk) → Goes ms s → (t : ℕ) → t < length ss → (i : Third) → eqb (cell rows vertex_column (row t i) s.work) v ≡ welded (corner_of g) (corner_of (spot_at ss d t i))
  vertices ms s R t h i =
      ap (λ x. eqb (cell rows vertex_column (row t i) s.work) x) (sym R.vertex)
      ∙ (R.marked.fixed.vertex t tg i ig h hg ∙ welded-sym (corner_of (spot_at ss d t i)) (corner_of g))

  none_left : (ms : List Mark) (o : Option Spot) → going (D zero) ms o ≡ ms
  unfolding going walk
  none_left ms none = refl
  none_left ms (some s) = refl

  -- the two walks, in step
  pub in_step : (m : ℕ) → Step m
  unfolding corner
  in_step zero ms s t h R = subst (λ x. Goes x s) (sym (none_left ms (corner_in (corner_of g) (get_or ss t d)))) R
  in_step (suc m) ms s t h R = by-enters m (in_step m) ms s.count t h (enters rows ss d ls B N fits w₀ gs tg ig hg q G v last Ge ge n₀ N₀ B₀ m ms s.work s.count R t h (vertices ms s R t h))

-- ---- more steps than there are corners change nothing

pub fan-le : (ss : List Triangle) (c : Corner) → fan ss c ≤ 3 * length ss
unfolding fan
fan-le ss c = let a = keep-length (λ s. welded c (corner_of s)) (spots ss) in let b = spots-length ss in omega arith

module _ (ss : List Triangle) (ls : List Link) (B : Between ss ls) (g : Spot) (w : Bool) (ms : List Mark) (s : Spot) (h : Near ss (corner_of g) s) where
  more : (k n : ℕ) → n ≡ fan ss (corner_of g) + k → walk (fan ss (corner_of g)) ls g w ms s ≡ walk n ls g w ms s
  more zero n e = ap (λ x. walk x ls g w ms s) (sym (e ∙ add-zero (fan ss (corner_of g))))
  more (suc k) n e =
      let F = fan ss (corner_of g) in
      more k (F + k) refl
      ∙ (enough ss ls g w (λ x k. (over-near ss ls B (corner_of g) x, over-near ss ls B (corner_of g) (prior x))) (F + k) ms s h (let a = open-fan ss ls g w (λ x k. (over-near ss ls B (corner_of g) x, over-near ss ls B (corner_of g) (prior x))) ms in omega arith)
      ∙ ap (λ x. walk x ls g w ms s) (sym (e ∙ add-suc F k)))

  pub walk-fuel : (n : ℕ) → fan ss (corner_of g) ≤ n → walk (fan ss (corner_of g)) ls g w ms s ≡ walk n ls g w ms s
  walk-fuel n l = more (n - fan ss (corner_of g)) n (omega arith)
