-- `packed::wide` meets its contract. Assumes nothing.
use Prim.Native.Nat.{ℕ, ◌+◌, ◌≤◌, ◌<◌}
use native.Mathlib.Omega.{arith}
use mathlib.Core.Path.{◌≡◌, sym, ap, ◌∙◌}
use mathlib.Core.Bool.{Bool, cond}
use borrow.Author.Tests.{lt-ltb, le-ltb}
use Rattle.packed.specs.Component.{nothing}
use Rattle.packed.specs.Reader.{extended, wide}
use Rattle.packed.proofs.wide.Goals as goal

-- a number below 2 ^ 15, and one from it on
low : (n r : ℕ) → n < nothing → r ≡ n → r ≡ wide n
unfolding wide
low n r h e = e ∙ sym (ap (λ (b : Bool). cond b n (n + extended)) (lt-ltb n nothing h))

high : (n r : ℕ) → nothing ≤ n → r ≡ n + extended → r ≡ wide n
unfolding wide
high n r h e = e ∙ sym (ap (λ (b : Bool). cond b n (n + extended)) (le-ltb n nothing h))

pub returns-then-n-lt-NOTHING : goal.returns-then-n-lt-NOTHING
returns-then-n-lt-NOTHING c = low _ _ (omega (arith, c.if-n-lt-NOTHING.true)) (omega arith)

pub returns-else-n-lt-NOTHING : goal.returns-else-n-lt-NOTHING
returns-else-n-lt-NOTHING c = high _ _ (omega (arith, c.if-n-lt-NOTHING.false)) (omega arith)
