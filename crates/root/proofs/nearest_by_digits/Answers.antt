-- `root::nearest_by_digits` meets its contract: it makes the comparison of the definition. Assumes nothing.
use Rattle.std.proofs.Common.{◌≡◌, ℕ, ◌+◌, ◌*◌, ◌<◌, ◌≤◌, sym, ◌∙◌, subst, add-one, arith, le-ltb, lt-ltb}
use Rattle.root.specs.Root.{root, to_nearest}
use Rattle.root.proofs.Products.{square-fits}
use Rattle.root.proofs.Roots.{root-small}
use Rattle.root.proofs.nearest_by_digits.Goals as goal

small : (c : goal.After-whole_root-q) → c.whole_root-q.result < 16777216
small c = subst (λ (q : ℕ). q < 16777216) (sym c.whole_root-q.ensures) (root-small c.args.n c.requires)

pub overflow_mul-h : goal.overflow_mul-h
overflow_mul-h c = omega (arith, small c)

pub overflow_add-h : goal.overflow_add-h
overflow_add-h c = omega (arith, small c)

pub overflow_mul-h-2 : goal.overflow_mul-h-2
overflow_mul-h-2 c = square-fits 33554432 (2 * c.whole_root-q.result + 1) tt (omega (arith, small c))

pub overflow_add-result : goal.overflow_add-result
overflow_add-result c = omega (arith, small c.before)

-- each arm is what the definition picks at the q that was found, which is the root
up : (n q r v : ℕ) → q ≡ r → (2 * q + 1) * (2 * q + 1) < 4 * n → v ≡ q + 1 → v ≡ to_nearest r n
up n q r v e h s = s ∙ subst (λ (x : ℕ). q + 1 ≡ to_nearest x n) e (simp (lt-ltb _ _ h) (add-one q))

stay : (n q r : ℕ) → q ≡ r → 4 * n ≤ (2 * q + 1) * (2 * q + 1) → q ≡ to_nearest r n
stay n q r e h = subst (λ (x : ℕ). q ≡ to_nearest x n) e (simp (le-ltb _ _ h))

pub returns-then-h-n : goal.returns-then-h-n
returns-then-h-n c = up c.args.n c.whole_root-q.result (root 24 c.args.n) _ c.whole_root-q.ensures c.if-h-n.true (omega arith)

pub returns-else-h-n : goal.returns-else-h-n
returns-else-h-n c = stay c.args.n c.whole_root-q.result (root 24 c.args.n) c.whole_root-q.ensures c.if-h-n.false
