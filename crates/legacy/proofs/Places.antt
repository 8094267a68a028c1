-- Triangles with their corners replaced stand in the places of their own, sound ones first. Assumes nothing.
use Prim.Native.Nat.{ℕ, zero, suc, ◌*◌, ◌≤◌, ◌<◌}
use native.Mathlib.Omega.{arith}
use mathlib.Core.Path.{◌≡◌, refl, ap, ◌∙◌}
use mathlib.Core.Bool.{Bool, true, false, cond}
use mathlib.Core.List.{List, [], ◌∷◌, ◌++◌}
use lib.ListN.{length, get_or, take, drop}
use Rattle.lists.specs.Lists.{keep}
use Rattle.lists.specs.Every.{Every, every_nil, every_cons}
use Rattle.definition.specs.declared.Corner.{Corner}
use Rattle.definition.specs.declared.Triangle.{Triangle}
use Rattle.definition.specs.Mesh.{Third, one, two, three, kept, same_triangle}
use Rattle.definition.specs.Step4Old.{recornered}
use Rattle.definition.specs.Names.{Names, names_nil, names_cons}
use Rattle.legacy.specs.Merged.{Like}

-- ---- each triangle is its own but for its corners

pub recornered-like : (ts : List Triangle) (cs : List Corner) (d : Triangle) → length cs ≡ 3 * length ts → (t : ℕ) → Like (get_or (recornered ts cs) t d) (get_or ts t d)
unfolding recornered kept
recornered-like [] cs d h t = record { face = refl; second = refl; missing = refl; which = λ i. refl; degenerate = refl; marked = refl; any = refl; orientation = refl; tangent = refl }
recornered-like (x ∷ ts) [] d h t = absurd (omega (arith, h))
recornered-like (x ∷ ts) (a ∷ []) d h t = absurd (omega (arith, h))
recornered-like (x ∷ ts) (a ∷ b ∷ []) d h t = absurd (omega (arith, h))
recornered-like (x ∷ ts) (a ∷ b ∷ c ∷ cs) d h zero = record { face = refl; second = refl; missing = refl; which = λ i. elim i as (λ (j : Third). (kept (get_or (recornered (x ∷ ts) (a ∷ b ∷ c ∷ cs)) zero d) j).which ≡ (kept (get_or (x ∷ ts) zero d) j).which) [ one ↦ refl | two ↦ refl | three ↦ refl ]; degenerate = refl; marked = refl; any = refl; orientation = refl; tangent = refl }
recornered-like (x ∷ ts) (a ∷ b ∷ c ∷ cs) d h (suc t) = recornered-like ts cs d (omega (arith, h)) t

-- ---- names

other_name : (x : Triangle) (ts : List Triangle) (cs : List Corner) → Every (λ k. same_triangle x k ≡ false) ts → Every (λ k. same_triangle x k ≡ false) (recornered ts cs)
unfolding recornered same_triangle
other_name x [] cs h = every_nil
other_name x (y ∷ ts) [] h = every_nil
other_name x (y ∷ ts) (a ∷ []) h = every_nil
other_name x (y ∷ ts) (a ∷ b ∷ []) h = every_nil
other_name x (y ∷ ts) (a ∷ b ∷ c ∷ cs) (every_cons e h) = every_cons e (other_name x ts cs h)

pub names-recornered : (ts : List Triangle) (cs : List Corner) → Names ts → Names (recornered ts cs)
unfolding recornered same_triangle
names-recornered [] cs N = names_nil
names-recornered (x ∷ ts) [] N = names_nil
names-recornered (x ∷ ts) (a ∷ []) N = names_nil
names-recornered (x ∷ ts) (a ∷ b ∷ []) N = names_nil
names-recornered (x ∷ ts) (a ∷ b ∷ c ∷ cs) (names_cons h N) = names_cons (other_name x ts cs h) (names-recornered ts cs N)

-- ---- sound ones first

same_first : (x : Triangle) (l m : List Triangle) → l ≡ m → x ∷ l ≡ x ∷ m
same_first x l m e = λ i. x ∷ e i

pub first-recornered : (ss bs : List Triangle) (cs : List Corner) → length cs ≡ 3 * length (ss ++ bs) → take (length ss) (recornered (ss ++ bs) cs) ≡ recornered ss cs
unfolding recornered
first-recornered [] bs cs h = refl
first-recornered (x ∷ ss) bs [] h = absurd (omega (arith, h))
first-recornered (x ∷ ss) bs (a ∷ []) h = absurd (omega (arith, h))
first-recornered (x ∷ ss) bs (a ∷ b ∷ []) h = absurd (omega (arith, h))
first-recornered (x ∷ ss) bs (a ∷ b ∷ c ∷ cs) h = same_first _ _ _ (first-recornered ss bs cs (omega (arith, h)))

-- the first k of a list are kept by a test that passes none of the rest, and the rest by one that passes none of the first
pub keep-first : (p : Triangle → Bool) (l : List Triangle) (d : Triangle) (k : ℕ) → ((t : ℕ) → t < k → t < length l → p (get_or l t d) ≡ true) → ((t : ℕ) → k ≤ t → t < length l → p (get_or l t d) ≡ false) → keep p l ≡ take k l
unfolding keep
keep-first p [] d zero f g = refl
keep-first p [] d (suc k) f g = refl
keep-first p (x ∷ l) d zero f g = ap (λ (b : Bool). cond b (x ∷ keep p l) (keep p l)) (g 0 (omega arith) (omega arith)) ∙ keep-first p l d zero (λ t h j. absurd (omega (arith, h))) (λ t h j. g (suc t) (omega arith) (omega (arith, j)))
keep-first p (x ∷ l) d (suc k) f g = (λ i. cond (f 0 (omega arith) (omega arith) i) (x ∷ keep-first p l d k (λ t h j. f (suc t) (omega (arith, h)) (omega (arith, j))) (λ t h j. g (suc t) (omega (arith, h)) (omega (arith, j))) i) (keep p l))

pub keep-last : (p : Triangle → Bool) (l : List Triangle) (d : Triangle) (k : ℕ) → ((t : ℕ) → t < k → t < length l → p (get_or l t d) ≡ false) → ((t : ℕ) → k ≤ t → t < length l → p (get_or l t d) ≡ true) → keep p l ≡ drop k l
unfolding keep
keep-last p [] d zero f g = refl
keep-last p [] d (suc k) f g = refl
keep-last p (x ∷ l) d zero f g = (λ i. cond (g 0 (omega arith) (omega arith) i) (x ∷ keep-last p l d zero (λ t h j. absurd (omega (arith, h))) (λ t h j. g (suc t) (omega arith) (omega (arith, j))) i) (keep p l))
keep-last p (x ∷ l) d (suc k) f g = ap (λ (b : Bool). cond b (x ∷ keep p l) (keep p l)) (f 0 (omega arith) (omega arith)) ∙ keep-last p l d k (λ t h j. f (suc t) (omega (arith, h)) (omega (arith, j))) (λ t h j. g (suc t) (omega (arith, h)) (omega (arith, j)))
