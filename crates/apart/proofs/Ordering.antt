-- One face more is linked. Assumes nothing.
use Prim.Native.Nat.{ℕ, suc, ◌+◌, ◌*◌, ◌≤◌, ◌<◌}
use native.Mathlib.Omega.{arith}
use mathlib.Core.Path.{◌≡◌, refl, sym, ◌∙◌, ap, subst}
use mathlib.Core.List.{List}
use lib.ListN.{length, get_or, set, take, length-set}
use lib.Seq.{get_or-set_same, get_or-set_other}
use Rattle.definition.specs.Handed.{corner_count, slot_count}
use Rattle.unions.proofs.Stores.{either}
use Rattle.apart.specs.Lists.{Past}
use Rattle.apart.specs.Order.{From, nobody, somebody, Linked, Begun}

-- a face of another number is passed over
pass : (n : ℕ) (l : ℕ → ℕ) (f t : ℕ) {w : ℕ} → (l f ≡ t → ⊥) → From n l (suc f) t w → From n l f t w
pass n l f t e (nobody h) = nobody (λ g i j k. either g f (λ q. e (ap l (sym q) ∙ k)) (λ q. h g (omega (arith, q)) j k))
pass n l f t e (somebody g i j k b) = somebody g (omega arith) j k (λ x p r s. either x f (λ q. e (ap l (sym q) ∙ s)) (λ q. b x (omega (arith, q)) r s))

first-here : (n : ℕ) (l : ℕ → ℕ) (f : ℕ) → f < n → From n l f (l f) (suc f)
first-here n l f h = somebody f (omega arith) h refl (λ x p r s. omega arith)

-- no face is linked yet
pub linked-none : (n : ℕ) (l : ℕ → ℕ) (order : List ℕ) → ((x : ℕ) → x < 2 * n → get_or order x 0 ≡ 0) → Linked n l n order
linked-none n l order z = record {
  heads = λ t h. subst (λ w. From n l n t w) (sym (z (n + t) (omega arith))) (nobody (λ g i j k. omega arith));
  nexts = λ f i j k. absurd (omega arith);
}

-- a face without an island
pub linked-skip : (n : ℕ) (l : ℕ → ℕ) (f : ℕ) (order : List ℕ) → n ≤ l f → Linked n l (suc f) order → Linked n l f order
linked-skip n l f order h k = record {
  heads = λ t i. pass n l f t (λ e. omega arith) (k.heads t i);
  nexts = λ g i j m. either g f (λ e. absurd (omega (arith, ap l e))) (λ e. k.nexts g (omega (arith, e)) j m);
}

module _ (n : ℕ) (l : ℕ → ℕ) (f : ℕ) (order : List ℕ) (h : f < n) (low : l f < n) (long : 2 * n ≤ length order) (k : Linked n l (suc f) order) where
  abbrev head : ℕ
  head = get_or order (n + l f) 0

  abbrev u : List ℕ
  u = set order f head

  abbrev v : List ℕ
  v = set u (n + l f) (f + 1)

  u-long : length u ≡ length order
  u-long = length-set order f head

  at_head : get_or v (n + l f) 0 ≡ suc f
  at_head = get_or-set_same u (n + l f) (f + 1) 0 (omega (arith, u-long)) ∙ omega arith

  other-head : (t : ℕ) → (l f ≡ t → ⊥) → get_or v (n + t) 0 ≡ get_or order (n + t) 0
  other-head t e = get_or-set_other u (n + l f) (n + t) (f + 1) 0 (λ q. e (omega arith)) ∙ get_or-set_other order f (n + t) head 0 (λ q. omega arith)

  at-face : get_or v f 0 ≡ head
  at-face = get_or-set_other u (n + l f) f (f + 1) 0 (λ q. omega arith) ∙ get_or-set_same order f head 0 (omega arith)

  other-face : (g : ℕ) → g < n → (g ≡ f → ⊥) → get_or v g 0 ≡ get_or order g 0
  other-face g i e = get_or-set_other u (n + l f) g (f + 1) 0 (λ q. omega arith) ∙ get_or-set_other order f g head 0 e

  pub linked-more : Linked n l f v
  linked-more = record {
    heads = λ t i. either (l f) t
        (λ e. subst (λ x. From n l f x (get_or v (n + x) 0)) e (subst (λ w. From n l f (l f) w) (sym at_head) (first-here n l f h)))
        (λ e. subst (λ w. From n l f t w) (sym (other-head t e)) (pass n l f t e (k.heads t i)));
    nexts = λ g i j m. either g f
        (λ e. subst (λ x. From n l (suc x) (l x) (get_or v x 0)) (sym e) (subst (λ w. From n l (suc f) (l f) w) (sym at-face) (k.heads (l f) low)))
        (λ e. subst (λ w. From n l (suc g) (l g) w) (sym (other-face g j e)) (k.nexts g (omega (arith, e)) j m));
  }

  pub past-linked : Past 0 (2 * n) order v
  past-linked = record {
    size = length-set u (n + l f) (f + 1) ∙ u-long;
    rest = λ x i. get_or-set_other u (n + l f) x (f + 1) 0 (λ q. omega arith) ∙ get_or-set_other order f x head 0 (λ q. omega arith);
  }

-- the same numbers elsewhere
from-same : (n : ℕ) (l k : ℕ → ℕ) (i t : ℕ) {w : ℕ} → ((x : ℕ) → x < n → l x ≡ k x) → From n l i t w → From n k i t w
from-same n l k i t e (nobody h) = nobody (λ g a b q. h g a b (e g b ∙ q))
from-same n l k i t e (somebody g a b q h) = somebody g a b (sym (e g b) ∙ q) (λ x y z p. h x y z (e x (omega arith) ∙ p))

pub linked-same : (n : ℕ) (l k : ℕ → ℕ) (i : ℕ) (order : List ℕ) → ((x : ℕ) → x < n → l x ≡ k x) → Linked n l i order → Linked n k i order
linked-same n l k i order e h = record {
  heads = λ t b. from-same n l k i t e (h.heads t b);
  nexts = λ f a b c. subst (λ t. From n k (suc f) t (get_or order f 0)) (e f b) (from-same n l k (suc f) (l f) e (h.nexts f a b (subst (λ x. x < n) (sym (e f b)) c)));
}

-- ---- where corners and slots start

pub begun-none : (sizes order : List ℕ) → Begun sizes 0 order
begun-none sizes order = record { corners = λ g h. absurd (omega arith); slots = λ g h. absurd (omega arith) }

pub begun_kept : (sizes : List ℕ) (f : ℕ) (u v : List ℕ) → Past 0 (2 * length sizes) u v → Begun sizes f u → Begun sizes f v
begun_kept sizes f u v p b = record { corners = λ g h. p.rest (2 * length sizes + g) (omega arith) ∙ b.corners g h; slots = λ g h. p.rest (3 * length sizes + g) (omega arith) ∙ b.slots g h }

pub begun_more : (sizes : List ℕ) (f : ℕ) (u : List ℕ) (c s : ℕ) → f < length sizes → 4 * length sizes ≤ length u → c ≡ corner_count (take f sizes) → s ≡ slot_count (take f sizes) → Begun sizes f u → Begun sizes (f + 1) (set (set u (2 * length sizes + f) c) (3 * length sizes + f) s)
begun_more sizes f u c s h long e k b = record {
  corners = λ g i. get_or-set_other v (3 * n + f) (2 * n + g) s 0 (λ q. omega arith) ∙ either g f
      (λ q. ap (λ x. get_or v (2 * n + x) 0) q ∙ get_or-set_same u (2 * n + f) c 0 (omega arith) ∙ e ∙ ap (λ x. corner_count (take x sizes)) (sym q))
      (λ q. get_or-set_other u (2 * n + f) (2 * n + g) c 0 (λ r. q (omega arith)) ∙ b.corners g (omega (arith, q)));
  slots = λ g i. either g f
      (λ q. ap (λ x. get_or (set v (3 * n + f) s) (3 * n + x) 0) q ∙ get_or-set_same v (3 * n + f) s 0 (omega (arith, length-set u (2 * n + f) c)) ∙ k ∙ ap (λ x. slot_count (take x sizes)) (sym q))
      (λ q. get_or-set_other v (3 * n + f) (3 * n + g) s 0 (λ r. q (omega arith)) ∙ get_or-set_other u (2 * n + f) (3 * n + g) c 0 (λ r. omega arith) ∙ b.slots g (omega (arith, q)));
}
  where
    n : ℕ
    n = length sizes

    v : List ℕ
    v = set u (2 * length sizes + f) c
