-- What tests joined by `&&` and `||` leave, as equations of truth values. Assumes nothing.
use mathlib.Core.Path.{◌≡◌, refl, sym, ap, ◌∙◌, subst}
use mathlib.Core.Logic.{◌⊎◌, inl, inr}
use mathlib.Core.Bool.{Bool, true, false, true≢false, false≢true, ◌&&◌, ◌||◌, beq}
use lib.Dec.{T}

pub T-is : {b : Bool} → b ≡ true → T b
T-is h = subst T (sym h) tt

-- ---- `&&` in one expression, whose two ways meet
-- the first test held, and the flag is the second
pub and-held : {a b t : Bool} → a ≡ true → t ≡ b → t ≡ (a && b)
and-held {a} {b} p q = q ∙ sym (ap (λ (x : Bool). x && b) p)

-- the first test failed, and the flag is that test
pub and-failed : {a t : Bool} (b : Bool) → a ≡ false → t ≡ a → t ≡ (a && b)
and-failed {a} b p q = q ∙ p ∙ sym (ap (λ (x : Bool). x && b) p)

-- the flag t is what was tested so far, p
pub last-held : {p c t : Bool} → t ≡ p → t ≡ true → c ≡ (p && c)
last-held {p} {c} e h = sym (ap (λ (x : Bool). x && c) (sym e ∙ h))

pub last-failed : {p t : Bool} (c : Bool) → t ≡ p → t ≡ false → t ≡ (p && c)
last-failed {p} c e h = h ∙ sym (ap (λ (x : Bool). x && c) (sym e ∙ h))

-- ---- the same of `||`: the first test is p, and the second q
pub or-held : {p a t : Bool} (q : Bool) → a ≡ p → a ≡ true → t ≡ a → t ≡ (p || q)
or-held {p} q e h f = f ∙ h ∙ sym (ap (λ (x : Bool). x || q) (sym e ∙ h))

pub or-failed : {p q a b t : Bool} → a ≡ p → a ≡ false → b ≡ q → t ≡ b → t ≡ (p || q)
or-failed {p} {q} e h g f = f ∙ g ∙ sym (ap (λ (x : Bool). x || q) (sym e ∙ h))

-- ---- `a && b && c && d` by nested ifs, by the test at which it is decided
pub all : (a b c d : Bool) → a ≡ true → b ≡ true → c ≡ true → d ≡ (a && b && c && d)
all true true true d p q r = refl
all true true false d p q r = absurd (true≢false (sym r))
all true false c d p q r = absurd (true≢false (sym q))
all false b c d p q r = absurd (true≢false (sym p))

pub third : (a b c d : Bool) → c ≡ false → false ≡ (a && b && c && d)
third true true false d r = refl
third true true true d r = absurd (true≢false r)
third true false c d r = refl
third false b c d r = refl

pub second : (a b c d : Bool) → b ≡ false → false ≡ (a && b && c && d)
second true false c d r = refl
second true true c d r = absurd (true≢false r)
second false b c d r = refl

pub first : (a b c d : Bool) → a ≡ false → false ≡ (a && b && c && d)
first false b c d r = refl
first true b c d r = absurd (true≢false r)

-- both parts of a test that holds
pub and_left : (a b : Bool) → (a && b) ≡ true → a ≡ true
and_left true b e = refl
and_left false b e = e

pub and_right : (a b : Bool) → (a && b) ≡ true → b ≡ true
and_right true b e = e
and_right false b e = absurd (false≢true e)

-- neither part of a test that fails
pub or_left : (a b : Bool) → (a || b) ≡ false → a ≡ false
or_left true b e = absurd (true≢false e)
or_left false b e = refl

pub or_right : (a b : Bool) → (a || b) ≡ false → b ≡ false
or_right true b e = absurd (true≢false e)
or_right false b e = e

-- the second part holds
pub or-holds : (a b : Bool) → b ≡ true → (a || b) ≡ true
or-holds true b e = refl
or-holds false b e = e

-- ---- truth values compared
pub beq-refl : (b : Bool) → beq b b ≡ true
beq-refl true = refl
beq-refl false = refl

pub beq-sym : (a b : Bool) → beq a b ≡ beq b a
beq-sym true true = refl
beq-sym true false = refl
beq-sym false true = refl
beq-sym false false = refl

-- ---- `||` of tests that hold
pub or_l : (a b : Bool) → T a → T (a || b)
or_l true b t = tt
or_l false b t = absurd t

pub or_r : (a b : Bool) → T b → T (a || b)
or_r true b t = tt
or_r false b t = t

pub or_split : (a b : Bool) → T (a || b) → T a ⊎ T b
or_split true b t = inl tt
or_split false b t = inr t
