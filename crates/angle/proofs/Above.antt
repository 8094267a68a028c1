-- A whole number as what it is above a fixed b: the order and the differences of whole numbers a - b are those of the numbers a. Assumes nothing.
use Rattle.std.proofs.Common.{◌≡◌, ℕ, zero, suc, ◌+◌, ◌-◌, ◌<◌, ◌≤◌, Bool, true, false, cond, ltb, ℤ, pos, negsuc, ◌-ℤ◌, neg_ℤ, nat_abs, ◌≤ℤ◌, ◌<ℤ◌, sym, refl, ap, ◌∙◌, subst, le_of_suc-le-suc, le_antisymm, lt_of_not-le, arith, le→leb, lt→ltb, ltb-false, ltb-true, le-ltb, lt-ltb}
use lib.IntN.{sub_ℕ}
use lib.Signed.{le_z_yes, lt_z_yes, ≤ℤ_refl, clash_ℤ}

-- a - b where it is not negative, and where it is
pub sub-up : (a b : ℕ) → b ≤ a → sub_ℕ a b ≡ pos (a - b)
sub-up a b h = ap (λ (t : Bool). cond t (negsuc (b - suc a)) (pos (a - b))) (le-ltb a b h)

pub sub-down : (a b : ℕ) → a < b → sub_ℕ a b ≡ negsuc (b - suc a)
sub-down a b h = ap (λ (t : Bool). cond t (negsuc (b - suc a)) (pos (a - b))) (lt-ltb a b h)

-- ---- the order
pub up_le : (a d b : ℕ) → a ≤ d → sub_ℕ a b ≤ℤ sub_ℕ d b
up_le a d b h = go (ltb a b) refl (ltb d b) refl
  where
    go : (s : Bool) → ltb a b ≡ s → (t : Bool) → ltb d b ≡ t → cond s (negsuc (b - suc a)) (pos (a - b)) ≤ℤ cond t (negsuc (b - suc d)) (pos (d - b))
    go true p true q = le_z_yes (le→leb (b - suc d) (b - suc a) (omega arith))
    go true p false q = le_z_yes tt
    go false p true q = let x = ltb-false a b p in let y = ltb-true d b q in absurd (omega arith)
    go false p false q = le_z_yes (le→leb (a - b) (d - b) (omega arith))

pub up_lt : (a d b : ℕ) → a < d → sub_ℕ a b <ℤ sub_ℕ d b
up_lt a d b h = go (ltb a b) refl (ltb d b) refl
  where
    go : (s : Bool) → ltb a b ≡ s → (t : Bool) → ltb d b ≡ t → cond s (negsuc (b - suc a)) (pos (a - b)) <ℤ cond t (negsuc (b - suc d)) (pos (d - b))
    go true p true q = let y = ltb-true d b q in lt_z_yes (lt→ltb (b - suc d) (b - suc a) (omega arith))
    go true p false q = lt_z_yes tt
    go false p true q = let x = ltb-false a b p in let y = ltb-true d b q in absurd (omega arith)
    go false p false q = let x = ltb-false a b p in lt_z_yes (lt→ltb (a - b) (d - b) (omega arith))

-- and back
pub back-lt : (a d b : ℕ) → sub_ℕ a b <ℤ sub_ℕ d b → a < d
back-lt a d b h = lt_of_not-le (λ (g : d ≤ a). clash_ℤ h (up_le d a b g))

pub back-le : (a d b : ℕ) → sub_ℕ a b ≤ℤ sub_ℕ d b → a ≤ d
back-le a d b h = le_of_suc-le-suc (lt_of_not-le (λ (g : d < a). clash_ℤ (up_lt d a b g) h))

pub back-eq : (a d b : ℕ) → sub_ℕ a b ≡ sub_ℕ d b → a ≡ d
back-eq a d b e =
    le_antisymm (back-le a d b (subst (λ (z : ℤ). sub_ℕ a b ≤ℤ z) e (≤ℤ_refl (sub_ℕ a b))))
    (back-le d a b (subst (λ (z : ℤ). z ≤ℤ sub_ℕ a b) e (≤ℤ_refl (sub_ℕ a b))))

-- ---- the difference
difference : (p q : ℕ) → q ≤ p → nat_abs (pos p -ℤ pos q) ≡ p - q
difference p zero h = omega arith
difference p (suc q) h = ap nat_abs (sub-up p (suc q) h)

pub gap : (a u b : ℕ) → u ≤ a → nat_abs (sub_ℕ a b -ℤ sub_ℕ u b) ≡ a - u
gap a u b h = go (ltb a b) refl (ltb u b) refl
  where
    go : (s : Bool) → ltb a b ≡ s → (t : Bool) → ltb u b ≡ t → nat_abs (cond s (negsuc (b - suc a)) (pos (a - b)) -ℤ cond t (negsuc (b - suc u)) (pos (u - b))) ≡ a - u
    go true p true q =
        let x = ltb-true a b p in
        let y = ltb-true u b q in
        ap nat_abs (sub-up (suc (b - suc u)) (suc (b - suc a)) (omega arith)) ∙ omega arith
    go true p false q = let x = ltb-true a b p in let y = ltb-false u b q in absurd (omega arith)
    go false p true q = let x = ltb-false a b p in let y = ltb-true u b q in omega arith
    go false p false q = let x = ltb-false a b p in let y = ltb-false u b q in difference (a - b) (u - b) (omega arith) ∙ omega arith

-- ---- a size n up to b, added to b or taken from it
pub added : (n b : ℕ) → pos n ≡ sub_ℕ (b + n) b
added n b = sym (sub-up (b + n) b (omega arith) ∙ ap pos (omega arith))

pub taken : (n b : ℕ) → n ≤ b → neg_ℤ (pos n) ≡ sub_ℕ (b - n) b
taken zero b h = sym (sub-up (b - 0) b (omega arith) ∙ ap pos (omega arith))
taken (suc n) b h = sym (sub-down (b - suc n) b (omega arith) ∙ ap negsuc (omega arith))
