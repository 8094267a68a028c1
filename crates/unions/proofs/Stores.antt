-- One parent changed. Assumes nothing.
use Prim.Native.Nat.{ℕ, ◌+◌, ◌-◌, ◌≤◌, ◌<◌, min, max}
use native.Mathlib.Omega.{arith}
use mathlib.Core.Path.{◌≡◌, refl, sym, ◌∙◌, ap, subst}
use mathlib.Core.Bool.{Bool, true, false}
use mathlib.Core.List.{List, ◌++◌}
use lib.Dec.{eqb, leb}
use lib.ListN.{length, get_or, set, take, drop, length-set, length-append, length-take, length-drop, get_or-append}
use lib.Seq.{get_or-set_same, get_or-set_other}
use Rattle.std.proofs.lemmas.List.{get_or-append_right, get_or-drop}
use borrow.Author.Tests.{eqb-true, eqb-false, leb-true, leb-false}
use Rattle.unions.specs.Unions.{Downward, Level, Beyond, Alone, Same, Climbed, United, Settled}

-- equal or not
pub either : {P : Type 0} (y x : ℕ) → (y ≡ x → P) → ((y ≡ x → ⊥) → P) → P
either {P = P} y x f g = go (eqb y x) refl
  where
    go : (b : Bool) → eqb y x ≡ b → P
    go true e = f (eqb-true y x e)
    go false e = g (eqb-false y x e)

-- what is at y after a store at x: shown for the value stored, and for what was there
pub after : (P : ℕ → Type 0) (p : List ℕ) (x v y : ℕ) → x < length p → (y ≡ x → P v) → ((y ≡ x → ⊥) → P (get_or p y 0)) → P (get_or (set p x v) y 0)
after P p x v y h f g = either y x
    (λ e. subst P (sym (ap (λ k. get_or (set p x v) k 0) e ∙ get_or-set_same p x v 0 h)) (f e))
    (λ e. subst P (sym (get_or-set_other p x y v 0 e)) (g e))

-- and the other way
before : (P : ℕ → Type 0) (p : List ℕ) (x v y : ℕ) → (y ≡ x → ⊥) → P (get_or (set p x v) y 0) → P (get_or p y 0)
before P p x v y e h = subst P (get_or-set_other p x y v 0 e) h

pub beyond-set : (n : ℕ) (p : List ℕ) (x v : ℕ) → x < n → Beyond n p (set p x v)
beyond-set n p x v h = record { size = length-set p x v; rest = λ y k. get_or-set_other p x y v 0 (λ e. omega arith) }

pub beyond-trans : (n : ℕ) (p q r : List ℕ) → Beyond n p q → Beyond n q r → Beyond n p r
beyond-trans n p q r s t = record { size = t.size ∙ s.size; rest = λ x h. t.rest x h ∙ s.rest x h }

pub same_none : (n : ℕ) (p : List ℕ) → Downward n p → Same n p p
same_none n p d = record { beyond = record { size = refl; rest = λ x h. refl }; down = d; tops = λ x h e. e; onto = λ l k. k; back = λ l k. k }

pub same-trans : (n : ℕ) (p q r : List ℕ) → Same n p q → Same n q r → Same n p r
same-trans n p q r s t = record {
  beyond = beyond-trans n p q r s.beyond t.beyond;
  down = t.down;
  tops = λ x h e. t.tops x h (s.tops x h e);
  onto = λ l k. t.onto l (s.onto l k);
  back = λ l k. s.back l (t.back l k);
}

-- ---- the parent's parent

module _ (n : ℕ) (p : List ℕ) (x : ℕ) (long : n ≤ length p) (h : x < n) (d : Downward n p) where
  abbrev over : ℕ
  over = get_or p (get_or p x 0) 0

  within : x < length p
  within = omega arith

  up-below : get_or p x 0 < n
  up-below = omega (arith, d x h)

  shorter-down : Downward n (set p x over)
  shorter-down y k = after (λ v. v ≤ y) p x over y within (λ e. omega (arith, d x h, d (get_or p x 0) up-below)) (λ e. d y k)

  shorter-tops : (y : ℕ) → y < n → get_or p y 0 ≡ y → get_or (set p x over) y 0 ≡ y
  shorter-tops y k t = after (λ v. v ≡ y) p x over y within
      (λ e. let s : get_or p x 0 ≡ x = ap (λ z. get_or p z 0) (sym e) ∙ t ∙ e in ap (λ z. get_or p z 0) s ∙ s ∙ sym e)
      (λ e. t)

  shorter-onto : (l : ℕ → ℕ) → Level n p l → Level n (set p x over) l
  shorter-onto l k y j = after (λ v. l v ≡ l y) p x over y within (λ e. k (get_or p x 0) up-below ∙ k x h ∙ ap l (sym e)) (λ e. k y j)

  shorter_back : (l : ℕ → ℕ) → Level n (set p x over) l → Level n p l
  shorter_back l k y j = either y x
      (λ e. subst (λ z. l (get_or p z 0) ≡ l z) (sym e) here)
      (λ e. before (λ v. l v ≡ l y) p x over y e (k y j))
    where
      self : l over ≡ l x
      self = subst (λ v. l v ≡ l x) (get_or-set_same p x over 0 within) (k x h)

      here : l (get_or p x 0) ≡ l x
      here = either (get_or p x 0) x (λ e. ap l e) (λ e. sym (before (λ v. l v ≡ l (get_or p x 0)) p x over (get_or p x 0) e (k (get_or p x 0) up-below)) ∙ self)

  pub shorter : Same n p (set p x over)
  shorter = record { beyond = beyond-set n p x over h; down = shorter-down; tops = shorter-tops; onto = shorter-onto; back = shorter_back }

-- ---- two ends joined

-- y is its own parent, and gets x, which is not above it
module _ (n : ℕ) (p : List ℕ) (x y : ℕ) (long : n ≤ length p) (h : y < n) (low : x ≤ y) (d : Downward n p) (top : get_or p y 0 ≡ y) where
  there : y < length p
  there = omega arith

  joined-down : Downward n (set p y x)
  joined-down z k = after (λ v. v ≤ z) p y x z there (λ e. omega arith) (λ e. d z k)

  joined-onto : (l : ℕ → ℕ) → Level n p l → l x ≡ l y → Level n (set p y x) l
  joined-onto l k e z j = after (λ v. l v ≡ l z) p y x z there (λ f. e ∙ ap l (sym f)) (λ f. k z j)

  joined_back : (l : ℕ → ℕ) → Level n (set p y x) l → Level n p l
  joined_back l k z j = either z y
      (λ e. subst (λ i. l (get_or p i 0) ≡ l i) (sym e) (ap l top))
      (λ e. before (λ v. l v ≡ l z) p y x z e (k z j))

  joined-both : (l : ℕ → ℕ) → Level n (set p y x) l → l x ≡ l y
  joined-both l k = subst (λ v. l v ≡ l y) (get_or-set_same p y x 0 there) (k y h)

  pub join : United n p (set p y x) x y
  join = record { beyond = beyond-set n p y x h; down = joined-down; onto = joined-onto; back = joined_back; joined = joined-both }

-- what stands for a and for b
pub united : (n : ℕ) (p q r s : List ℕ) (a b x y : ℕ) → Climbed n p q a x → Climbed n q r b y → United n r s x y → United n p s a b
united n p q r s a b x y f g u = record {
  beyond = beyond-trans n p q s f.same.beyond (beyond-trans n q r s g.same.beyond u.beyond);
  down = u.down;
  onto = λ l k e. let k' = f.same.onto l k in u.onto l (g.same.onto l k') (f.joined l k ∙ e ∙ sym (g.joined l k'));
  back = λ l k. f.same.back l (g.same.back l (u.back l k));
  joined = λ l k.
      let k' = g.same.back l (u.back l k) in
      sym (f.joined l (f.same.back l k')) ∙ u.joined l k ∙ g.joined l k';
}

pub united-sym : (n : ℕ) (p q : List ℕ) (a b : ℕ) → United n p q a b → United n p q b a
united-sym n p q a b u = record { beyond = u.beyond; down = u.down; onto = λ l k e. u.onto l k (sym e); back = u.back; joined = λ l k. sym (u.joined l k) }

-- the ends of a and b found, and the higher joined to the lower
pub united-ends : (n : ℕ) (p q r : List ℕ) (a b x y high low : ℕ) → n ≤ length p → a < n → b < n → Climbed n p q a x → Climbed n q r b y → high ≡ max x y → low ≡ min x y → United n p (set r high low) a b
united-ends n p q r a b x y high low long h k f g e i = subst (λ u. United n p u a b) (λ j. set r (sym e j) (sym i j)) (go (leb x y) refl)
  where
    enough : n ≤ length r
    enough = omega (arith, long, f.same.beyond.size, g.same.beyond.size)

    x-below : x < n
    x-below = omega (arith, f.low, h)

    y-below : y < n
    y-below = omega (arith, g.low, k)

    go : (t : Bool) → leb x y ≡ t → United n p (set r (max x y) (min x y)) a b
    go true t =
        let o : x ≤ y = leb-true x y t in
        subst (λ z. United n p (set r z (min x y)) a b) (sym (omega arith)) (subst (λ z. United n p (set r y z) a b) (sym (omega arith)) (united _ _ _ _ _ _ _ _ _ f g (join n r x y enough y-below o g.same.down g.top)))
    go false t =
        let o : y < x = leb-false x y t in
        subst (λ z. United n p (set r z (min x y)) a b) (sym (omega arith)) (subst (λ z. United n p (set r x z) a b) (sym (omega arith)) (united _ _ _ _ _ _ _ _ _ f g (united-sym _ _ _ _ _ (join n r y x enough x-below (omega arith) g.same.down (g.same.tops x x-below f.top)))))

-- ---- on the way up from f

pub record Going (n : ℕ) (p : List ℕ) (f : ℕ) (q : List ℕ) (x : ℕ) : Type 0 where
  pub same : Same n p q
  pub low : x ≤ f
  pub joined : (l : ℕ → ℕ) → Level n p l → l x ≡ l f

pub going-none : (n : ℕ) (p : List ℕ) (f : ℕ) → Downward n p → Going n p f p f
going-none n p f d = record { same = same_none n p d; low = omega arith; joined = λ l k. refl }

module _ (n : ℕ) (p : List ℕ) (f : ℕ) (q : List ℕ) (x : ℕ) (long : n ≤ length p) (h : f < n) (g : Going n p f q x) where
  abbrev parent : ℕ
  parent = get_or q x 0

  abbrev higher : List ℕ
  higher = set q x (get_or q parent 0)

  room : n ≤ length q
  room = omega (arith, g.same.beyond.size)

  below : x < n
  below = omega (arith, g.low)

  up-low : parent ≤ x
  up-low = g.same.down x below

  pub going_more : Going n p f higher (get_or higher x 0)
  going_more = subst (Going n p f higher) (sym (get_or-set_same q x (get_or q parent 0) 0 (omega (arith, below, room)))) record {
    same = same-trans n p q higher g.same (shorter n q x room below g.same.down);
    low = omega (arith, g.same.down parent (omega (arith, up-low, below)), up-low, g.low);
    joined = λ l k.
        let k' = g.same.onto l k in k' parent (omega (arith, up-low, below)) ∙ k' x below ∙ g.joined l k;
  }

  pub climbed : parent ≡ x → Climbed n p q f x
  climbed e = record { same = g.same; low = g.low; top = e; joined = g.joined }

-- ---- settling, from below

pub record Settling (n : ℕ) (p : List ℕ) (x : ℕ) (q : List ℕ) : Type 0 where
  pub beyond : Beyond n p q
  pub low : (y : ℕ) → y < x → get_or q y 0 ≤ y
  pub ahead : (y : ℕ) → x ≤ y → get_or q y 0 ≡ get_or p y 0
  pub level : (y : ℕ) → y < x → get_or q (get_or p y 0) 0 ≡ get_or q y 0
  pub joined : (l : ℕ → ℕ) → Level n p l → (y : ℕ) → y < x → l (get_or q y 0) ≡ l y

pub settling-none : (n : ℕ) (p : List ℕ) → Settling n p 0 p
settling-none n p = record { beyond = record { size = refl; rest = λ x h. refl }; low = λ y h. absurd (omega arith); ahead = λ y h. refl; level = λ y h. absurd (omega arith); joined = λ l k y h. absurd (omega arith) }

module _ (n : ℕ) (p : List ℕ) (x : ℕ) (q : List ℕ) (long : n ≤ length p) (d : Downward n p) (h : x < n) (s : Settling n p x q) where
  abbrev up : ℕ
  up = get_or p x 0

  -- the end of its parents
  abbrev end : ℕ
  end = get_or q (get_or q x 0) 0

  inside : x < length q
  inside = omega (arith, s.beyond.size)

  end_is : end ≡ get_or q up 0
  end_is = ap (λ z. get_or q z 0) (s.ahead x (omega arith))

  -- x is its own end, or its parent is below it
  end-here : up ≡ x → end ≡ x
  end-here e = end_is ∙ ap (λ z. get_or q z 0) e ∙ s.ahead x (omega arith) ∙ e

  parent-below : (up ≡ x → ⊥) → up < x
  parent-below e = omega (arith, d x h, e)

  end_low : end ≤ x
  end_low = either up x (λ e. omega (arith, end-here e)) (λ e. omega (arith, end_is, s.low up (parent-below e), d x h))

  end-joined : (l : ℕ → ℕ) → Level n p l → l end ≡ l x
  end-joined l k = either up x (λ e. ap l (end-here e)) (λ e. ap l end_is ∙ s.joined l k up (parent-below e) ∙ k x h)

  -- what is at y
  kept : (y : ℕ) → (y ≡ x → ⊥) → get_or (set q x end) y 0 ≡ get_or q y 0
  kept y e = get_or-set_other q x y end 0 e

  new : get_or (set q x end) x 0 ≡ end
  new = get_or-set_same q x end 0 inside

  end-level : get_or (set q x end) up 0 ≡ get_or (set q x end) x 0
  end-level = either up x (λ e. ap (λ z. get_or (set q x end) z 0) e) (λ e. kept up e ∙ sym end_is ∙ sym new)

  lower-level : (y : ℕ) → y < x → get_or (set q x end) (get_or p y 0) 0 ≡ get_or (set q x end) y 0
  lower-level y k = kept (get_or p y 0) (λ e. omega (arith, d y (omega arith))) ∙ s.level y k ∙ sym (kept y (λ e. omega arith))

  pub settling-more : Settling n p (x + 1) (set q x end)
  settling-more = record {
    beyond = beyond-trans n p q (set q x end) s.beyond (beyond-set n q x end h);
    low = λ y k. either y x
        (λ e. subst (λ z. get_or (set q x end) z 0 ≤ z) (sym e) (subst (λ v. v ≤ x) (sym new) end_low))
        (λ e. subst (λ v. v ≤ y) (sym (kept y e)) (s.low y (omega arith)));
    ahead = λ y k. kept y (λ e. omega arith) ∙ s.ahead y (omega arith);
    level = λ y k. either y x (λ e. subst (λ z. get_or (set q x end) (get_or p z 0) 0 ≡ get_or (set q x end) z 0) (sym e) end-level) (λ e. lower-level y (omega arith));
    joined = λ l j y k. either y x
        (λ e. subst (λ z. l (get_or (set q x end) z 0) ≡ l z) (sym e) (ap l new ∙ end-joined l j))
        (λ e. ap l (kept y e) ∙ s.joined l j y (omega arith));
  }

pub settled : (n : ℕ) (p q : List ℕ) → Settling n p n q → Settled n p q
settled n p q s = record { beyond = s.beyond; low = s.low; level = λ x h. s.level x h; joined = λ l k x h. s.joined l k x h }

-- ---- each by itself

-- the first n are each their own parent, and what follows stands
pub alone-front : (n : ℕ) (p q : List ℕ) → n ≤ length p → length q ≡ length (take n p) → ((x : ℕ) → x < n → get_or q x 0 ≡ x) → Alone n p (q ++ drop n p)
alone-front n p q long e own = record {
  beyond = record {
    size = length-append q (drop n p) ∙ omega (arith, e, length-take n p, length-drop n p);
    rest = λ x h. get_or-append_right q (drop n p) n x 0 size h ∙ get_or-drop n p (x - n) 0 ∙ ap (λ k. get_or p k 0) (omega arith);
  };
  own = λ x h. get_or-append q (drop n p) 0 x (omega (arith, size)) ∙ own x h;
}
  where
    size : length q ≡ n
    size = omega (arith, e, length-take n p)

-- what is alone is downward, and every number is level on it
pub alone-down : (n : ℕ) (p q : List ℕ) → Alone n p q → Downward n q
alone-down n p q a x h = omega (arith, a.own x h)

pub alone-level : (n : ℕ) (p q : List ℕ) → Alone n p q → (l : ℕ → ℕ) → Level n q l
alone-level n p q a l x h = ap l (a.own x h)
