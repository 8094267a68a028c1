-- Faces united row by row, others struck out, and the whole list of numbers. Assumes nothing.
use Prim.Native.Nat.{ℕ, ◌+◌, ◌-◌, ◌/◌, ◌≤◌, ◌<◌}
use native.Mathlib.Nat.{add-sub_of_le}
use native.Mathlib.Decide.{dec_lt}
use native.Mathlib.Omega.{arith}
use mathlib.Core.Path.{◌≡◌, refl, sym, ◌∙◌, ap, subst}
use mathlib.Core.Bool.{cond}
use mathlib.Core.List.{List, ◌++◌}
use lib.ListN.{length, get_or, set, drop, length-append, length-drop, get_or-append}
use lib.Seq.{ext_get_or, get_or-set_other, get_or-append-add, get_or-drop}
use Rattle.definition.specs.Handed.{mesh_of, Handed, used}
use Rattle.lists.specs.Loops.{list_of}
use Rattle.lists.proofs.Loops.{length-list_of, get_or-list_of}
use Rattle.unions.specs.Unions.{Beyond, Downward, United}
use Rattle.unions.proofs.Stores.{either, after, beyond-set, beyond-trans}
use Rattle.islands.specs.Islands.{no_island, island_of}
use Rattle.islands.specs.Rows.{Woven, Struck, labelled}

-- ---- rows

pub woven-none : (count : ℕ) (fs vs : ℕ → ℕ) (p : List ℕ) → Downward count p → Woven count fs vs p p 0
woven-none count fs vs p d = record { beyond = record { size = refl; rest = λ x h. refl }; down = d; onto = λ l k e. k; joined = λ l k r h. absurd (omega arith) }

pub woven-more : (count : ℕ) (fs vs : ℕ → ℕ) (p q u : List ℕ) (n : ℕ) → Woven count fs vs p q n → United count q u (fs (n / 4)) (fs (vs n / 4)) → Woven count fs vs p u (n + 1)
woven-more count fs vs p q u n w s = record {
  beyond = beyond-trans count p q u w.beyond s.beyond;
  down = s.down;
  onto = λ l k e. s.onto l (w.onto l k (λ r h. e r (omega arith))) (e n (omega arith));
  joined = λ l k r h. either r n (λ e. subst (λ i. l (fs (i / 4)) ≡ l (fs (vs i / 4))) (sym e) (s.joined l k)) (λ e. w.joined l (s.back l k) r (omega arith));
}

-- ---- others struck out

pub record Striking (sizes p : List ℕ) (f : ℕ) (q : List ℕ) : Type 0 where
  pub beyond : Beyond (length sizes) p q
  pub done : (g : ℕ) → g < f → get_or q g 0 ≡ cond (used (get_or sizes g 0)) (get_or p g 0) no_island
  pub ahead : (g : ℕ) → f ≤ g → get_or q g 0 ≡ get_or p g 0

pub striking-none : (sizes p : List ℕ) → Striking sizes p 0 p
striking-none sizes p = record { beyond = record { size = refl; rest = λ x h. refl }; done = λ g h. absurd (omega arith); ahead = λ g h. refl }

pub striking-more : (sizes p : List ℕ) (f : ℕ) (q : List ℕ) (v : ℕ) → length sizes ≤ length p → f < length sizes → v ≡ cond (used (get_or sizes f 0)) (get_or q f 0) no_island → Striking sizes p f q → Striking sizes p (f + 1) (set q f v)
striking-more sizes p f q v long h e s = record {
  beyond = beyond-trans (length sizes) p q (set q f v) s.beyond (beyond-set (length sizes) q f v h);
  done = λ g k. after (λ x. x ≡ cond (used (get_or sizes g 0)) (get_or p g 0) no_island) q f v g (omega (arith, s.beyond.size))
      (λ i. subst (λ j. v ≡ cond (used (get_or sizes j 0)) (get_or p j 0) no_island) (sym i) (e ∙ ap (λ x. cond (used (get_or sizes f 0)) x no_island) (s.ahead f (omega arith))))
      (λ i. s.done g (omega arith));
  ahead = λ g k. get_or-set_other q f g v 0 (λ i. omega arith) ∙ s.ahead g (omega arith);
}

pub struck : (sizes p q : List ℕ) → Striking sizes p (length sizes) q → Struck sizes p q
struck sizes p q s = record { beyond = s.beyond; each = s.done }

-- ---- the whole list

module _ (mesh : Handed) (labels q : List ℕ) (long : length mesh.sizes ≤ length labels) (size : length q ≡ length labels) (each : (f : ℕ) → f < length mesh.sizes → get_or q f 0 ≡ island_of (mesh_of mesh) f) (rest : (x : ℕ) → length mesh.sizes ≤ x → get_or q x 0 ≡ get_or labels x 0) where
  abbrev n : ℕ
  n = length mesh.sizes

  abbrev new : List ℕ
  new = list_of n (island_of (mesh_of mesh))

  new-length : length new ≡ n
  new-length = length-list_of n (island_of (mesh_of mesh))

  whole_length : length (new ++ drop n labels) ≡ length labels
  whole_length = length-append new (drop n labels) ∙ (λ i. new-length i + length-drop n labels i) ∙ add-sub_of_le long

  at : (i : ℕ) → Dec (i < n) → get_or q i 0 ≡ get_or (new ++ drop n labels) i 0
  at i (yes h) = each i h ∙ sym (get_or-append new (drop n labels) 0 i (omega (arith, new-length)) ∙ get_or-list_of n (island_of (mesh_of mesh)) 0 i h)
  at i (no h) =
      let k : n ≤ i = omega arith in
      let e : length new + (i - n) ≡ i = ap (λ j. j + (i - n)) new-length ∙ add-sub_of_le k in
      rest i k ∙ ap (λ j. get_or labels j 0) (sym (add-sub_of_le k)) ∙ sym (get_or-drop n labels (i - n) 0) ∙ sym (get_or-append-add new (drop n labels) (i - n) 0) ∙ ap (λ j. get_or (new ++ drop n labels) j 0) e

  pub labelled-is : q ≡ labelled mesh labels
  unfolding labelled
  labelled-is = ext_get_or 0 q (new ++ drop n labels) (size ∙ sym whole_length) (λ i h. at i (dec_lt i n))
