-- `root::whole_root` meets its contract. The invariant: the root is at least lo and below hi. The measure is what lies between them.
-- Assumes nothing.
use Rattle.std.proofs.Common.{◌≡◌, ℕ, suc, ◌+◌, ◌-◌, ◌*◌, ◌/◌, ◌<◌, ◌≤◌, subst, arith}
use Rattle.root.specs.Root.{root}
use Rattle.root.proofs.Products.{square-fits}
use Rattle.root.proofs.Roots.{unique, root-law}
use Rattle.root.proofs.whole_root.Goals as goal

last : (n lo hi : ℕ) → lo < hi → hi - lo ≤ 1 → n < hi * hi → n < suc lo * suc lo
last n lo hi h k l = let e : hi ≡ suc lo = omega arith in subst (λ (x : ℕ). n < x * x) e l

pub overflow_mul-mid : goal.overflow_mul-mid
overflow_mul-mid c = let l = c.loop-hi in square-fits 16777216 (l.lo + (l.hi - l.lo) / 2) tt (omega arith)

pub returns : goal.returns
returns c =
    let n = c.args.n in
    let l = c.loop-hi in
    unique n l.lo (root 24 n) (l.invariant.2, last n l.lo l.hi l.invariant.0 c.loop-hi-test.false l.invariant.3) (root-law 24 n c.requires)
