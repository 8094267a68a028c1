-- The two parts that rows are cut in: exchanges alone are made, and each row is on its side. Assumes nothing.
use Prim.Native.Nat.{ℕ, zero, suc, ◌-◌, ◌≤◌, ◌<◌}
use native.Mathlib.Omega.{arith}
use mathlib.Core.Path.{◌≡◌, refl, sym, ap, ◌∙◌, subst}
use mathlib.Core.Bool.{Bool, true, false, cond}
use mathlib.Core.List.{List}
use lib.Dec.{leb, ltb}
use lib.ListN.{length, get_or, set, length-set}
use lib.Seq.{slice, get_or-set_same, get_or-set_other}
use borrow.Author.Tests.{leb-true, leb-false, ltb-true, ltb-false}
use Rattle.definition.specs.declared.Corner.{Corner}
use Rattle.definition.specs.Step5Quick.{swapped, seek_up, seek_down}
use Rattle.definition.specs.Step4Old.{Halves, halved, Merging, Way, leave, weld, cut, way_of, side_of, done, merge}
use Rattle.quick.proofs.Enough.{up-low, up-high, up-found, down-high, down-found, length-swapped}
use Rattle.quick.proofs.Halves.{up-stops, halved-cut}
use Rattle.quick.proofs.Apart.{swapped_other}

-- a number is below another, equal to it or above it
pub by_place : (P : Type 0) (p a : ℕ) → (p < a → P) → (p ≡ a → P) → (a < p → P) → P
by_place P p a f g h = go (ltb p a) refl (ltb a p) refl
  where
    go : (s : Bool) → ltb p a ≡ s → (t : Bool) → ltb a p ≡ t → P
    go true e t k = f (ltb-true p a e)
    go false e true k = h (ltb-true a p k)
    go false e false k = g (let y = ltb-false p a e in let z = ltb-false a p k in omega (arith, y, z))

-- ---- an exchange

pub swapped-last : (c d : ℕ) (l : List ℕ) → d < length l → get_or (swapped c d l) d 0 ≡ get_or l c 0
unfolding swapped
swapped-last c d l h = get_or-set_same (set l c (get_or l d 0)) d (get_or l c 0) 0 (let z = length-set l c (get_or l d 0) in omega (arith, z, h))

pub swapped-first : (c d : ℕ) (l : List ℕ) → c < length l → d < length l → get_or (swapped c d l) c 0 ≡ get_or l d 0
swapped-first c d l h k = by_place (get_or (swapped c d l) c 0 ≡ get_or l d 0) c d (λ q. other (λ e. omega (arith, q, e))) (λ q. ap (λ (j : ℕ). get_or (swapped c d l) j 0) q ∙ swapped-last c d l k ∙ ap (λ (j : ℕ). get_or l j 0) q) (λ q. other (λ e. omega (arith, q, e)))
  where
    other : (c ≡ d → ⊥) → get_or (swapped c d l) c 0 ≡ get_or l d 0
    other f = unfold swapped in (get_or-set_other (set l c (get_or l d 0)) d c (get_or l c 0) 0 f ∙ get_or-set_same l c (get_or l d 0) 0 h)

-- ---- what exchanges keep, the halving keeps, and all the merging

module _ (P : List ℕ → Type 0) (from to : ℕ) (keeps : (c d : ℕ) (l : List ℕ) → from ≤ c → c < to → from ≤ d → d < to → P l → P (swapped c d l)) where
  pub halved-keeps : (n : ℕ) (K : ℕ → ℕ) (l : List ℕ) (s e : ℕ) → from ≤ s → e ≤ to → P l → P (halved n K l s e).list
  unfolding halved
  halved-keeps zero K l s e h k p = p
  halved-keeps (suc n) K l s e h k p = go (ltb a b) refl (λ m u v x y z. halved-keeps n K m u v x y z)
    where
      a : ℕ
      a = seek_up (e - s) K 1 l s

      b : ℕ
      b = seek_down (e - 1 - a) K 0 l (e - 1)

      go : (t : Bool) → ltb a b ≡ t → ((m : List ℕ) (u v : ℕ) → from ≤ u → v ≤ to → P m → P (halved n K m u v).list) → P (cond t (halved n K (swapped a b l) (suc a) b) (record { list = l; at = a })).list
      go false q f = p
      go true q f =
          let i = ltb-true a b q in
          let y = up-low K 1 l (e - s) s in
          let z = down-high K 0 l (e - 1 - a) (e - 1) in
          f (swapped a b l) (suc a) b (omega (arith, h, y)) (omega (arith, z, k, i)) (keeps a b l (omega (arith, h, y)) (omega (arith, i, z, k)) (omega (arith, h, y, i)) (omega (arith, i, z, k)) p)

  pub merge-exchanges : (C : ℕ → Corner) (f a b : ℕ) (m : Merging) → from ≤ a → a ≤ b → b ≤ to → P m.rows → P (merge f C a b m).rows
  unfolding merge
  merge-exchanges C zero a b m h i k p = p
  merge-exchanges C (suc f) a b m h i k p = go (way_of (λ r. (C r).place) (slice a b m.rows)) (λ c d g. merge-exchanges C f c d g)
    where
      go : (w : Way) → ((c d : ℕ) (g : Merging) → from ≤ c → c ≤ d → d ≤ to → P g.rows → P (merge f C c d g).rows) → P (done C (λ c d g. merge f C c d g) w a b m).rows
      go leave g = p
      go weld g = p
      go (cut c x) g =
          let h₁ = halved (b - a) (side_of (λ r. (C r).place) c x) m.rows a b in
          let start : Merging = record { rows = h₁.list; into = m.into } in
          let Z = halved-cut (b - a) (side_of (λ r. (C r).place) c x) m.rows a b i in
          let q = Z.low in
          let r = Z.high in
          g h₁.at b (merge f C a h₁.at start) (omega (arith, h, q)) r k (g a h₁.at start h q (omega (arith, r, k)) (halved-keeps (b - a) (side_of (λ r. (C r).place) c x) m.rows a b h k p))

-- ---- the sides

-- where a search downwards stops above its end, the key is at most p
down-stops : (K : ℕ → ℕ) (p : ℕ) (l : List ℕ) (n b : ℕ) → b - n < seek_down n K p l b → K (get_or l (seek_down n K p l b) 0) ≤ p
unfolding seek_down
down-stops K p l zero b h = absurd (omega arith)
down-stops K p l (suc n) b h = go (leb (K (get_or l b 0)) p) refl h (λ k. down-stops K p l n (b - 1) k)
  where
    go : (t : Bool) → leb (K (get_or l b 0)) p ≡ t → b - suc n < cond t b (seek_down n K p l (b - 1)) → (b - 1 - n < seek_down n K p l (b - 1) → K (get_or l (seek_down n K p l (b - 1)) 0) ≤ p) → K (get_or l (cond t b (seek_down n K p l (b - 1))) 0) ≤ p
    go true e k f = leb-true (K (get_or l b 0)) p e
    go false e k f = f (omega arith)

-- below the place of the second part keys are 0, from it on they are not
pub record Sides (K : ℕ → ℕ) (s e : ℕ) (h : Halves) : Type 0 where
  pub under : (p : ℕ) → s ≤ p → p < h.at → K (get_or h.list p 0) < 1
  pub over : (p : ℕ) → h.at ≤ p → p < e → 1 ≤ K (get_or h.list p 0)

pub halved-sides : (n : ℕ) (K : ℕ → ℕ) (l : List ℕ) (s e : ℕ) → s ≤ e → e ≤ length l → e - s ≤ n → Sides K s e (halved n K l s e)
unfolding halved
halved-sides zero K l s e h i k =
    let Z = halved-cut zero K l s e h in
    let y = Z.low in
    let z = Z.high in
    record { under = λ p g j. absurd (omega (arith, g, j, z, k)); over = λ p g j. absurd (omega (arith, g, j, y, k)) }
halved-sides (suc n) K l s e h i k = go (ltb a b) refl (λ m u v x y z. halved-sides n K m u v x y z)
  where
    a : ℕ
    a = seek_up (e - s) K 1 l s

    b : ℕ
    b = seek_down (e - 1 - a) K 0 l (e - 1)

    a-low : s ≤ a
    a-low = up-low K 1 l (e - s) s

    a-high : a ≤ e
    a-high = let z = up-high K 1 l (e - s) s in omega (arith, z, h)

    b-high : b ≤ e - 1
    b-high = down-high K 0 l (e - 1 - a) (e - 1)

    before : (p : ℕ) → s ≤ p → p < a → K (get_or l p 0) < 1
    before p g j = turn (leb 1 (K (get_or l p 0))) refl
      where
        turn : (t : Bool) → leb 1 (K (get_or l p 0)) ≡ t → K (get_or l p 0) < 1
        turn true q = absurd (let z = up-found K 1 l (e - s) s p g (omega (arith, j, a-high, h)) (leb-true 1 (K (get_or l p 0)) q) in omega (arith, z, j))
        turn false q = leb-false 1 (K (get_or l p 0)) q

    past : (p : ℕ) → b < p → a ≤ p → p < e → 1 ≤ K (get_or l p 0)
    past p g j r = turn (leb (K (get_or l p 0)) 0) refl
      where
        turn : (t : Bool) → leb (K (get_or l p 0)) 0 ≡ t → 1 ≤ K (get_or l p 0)
        turn true q = absurd (let z = down-found K 0 l (e - 1 - a) (e - 1) p (omega (arith, r)) (omega (arith, j, r)) (leb-true (K (get_or l p 0)) 0 q) in omega (arith, z, g))
        turn false q = leb-false (K (get_or l p 0)) 0 q

    here : a < e → 1 ≤ K (get_or l a 0)
    here g = up-stops K 1 l (e - s) s (omega (arith, g, h))

    go : (t : Bool) → ltb a b ≡ t → ((m : List ℕ) (u v : ℕ) → u ≤ v → v ≤ length m → v - u ≤ n → Sides K u v (halved n K m u v)) → Sides K s e (cond t (halved n K (swapped a b l) (suc a) b) (record { list = l; at = a }))
    go false q f =
        let z = ltb-false a b q in
        record { under = before; over = λ p g j. by_place (1 ≤ K (get_or l p 0)) p a (λ r. absurd (omega (arith, r, g))) (λ r. subst (λ (x : ℕ). 1 ≤ K (get_or l x 0)) (sym r) (here (omega (arith, r, j)))) (λ r. past p (omega (arith, r, z)) g j) }
    go true q f = record {
      under = λ p g j. by_place (K (get_or r.list p 0) < 1) p a
          (λ x. subst (λ (y : ℕ). K y < 1) (sym (stays p (λ y u v z. omega (arith, x, u, z)) ∙ swapped_other a b p l (λ z. omega (arith, x, z)) (λ z. omega (arith, x, z, ab)))) (before p g x))
          (λ x. subst (λ (y : ℕ). K y < 1) (sym (ap (λ (y : ℕ). get_or r.list y 0) x ∙ stays a (λ y u v z. omega (arith, u, z)) ∙ swapped-first a b l (omega (arith, ab, b-high, i)) (omega (arith, ab, b-high, i)))) (let z = down-stops K 0 l (e - 1 - a) (e - 1) (omega (arith, ab, b-high)) in omega (arith, z)))
          (λ x. S.under p x j);
      over = λ p g j. by_place (1 ≤ K (get_or r.list p 0)) p b
          (λ x. S.over p g x)
          (λ x. subst (λ (y : ℕ). 1 ≤ K y) (sym (ap (λ (y : ℕ). get_or r.list y 0) x ∙ stays b (λ y u v z. omega (arith, v, z)) ∙ swapped-last a b l (omega (arith, ab, b-high, i)))) (here (omega (arith, ab, b-high))))
          (λ x. subst (λ (y : ℕ). 1 ≤ K y) (sym (stays p (λ y u v z. omega (arith, x, v, z)) ∙ swapped_other a b p l (λ z. omega (arith, x, z, ab)) (λ z. omega (arith, x, z)))) (past p x (omega (arith, x, ab)) j));
    }
      where
        ab : a < b
        ab = ltb-true a b q

        r : Halves
        r = halved n K (swapped a b l) (suc a) b

        S : Sides K (suc a) b r
        S = f (swapped a b l) (suc a) b ab (let z = length-swapped a b l in omega (arith, z, b-high, i, ab)) (omega (arith, k, ab, b-high, a-low))

        -- places that are not between them stand
        stays : (p : ℕ) → ((j : ℕ) → suc a ≤ j → j < b → j ≡ p → ⊥) → get_or r.list p 0 ≡ get_or (swapped a b l) p 0
        stays p out = halved-keeps (λ m. get_or m p 0 ≡ get_or (swapped a b l) p 0) (suc a) b (λ c d m u v x y z. swapped_other c d p m (out c u v) (out d x y) ∙ z) n K (swapped a b l) (suc a) b (omega arith) (omega arith) refl
