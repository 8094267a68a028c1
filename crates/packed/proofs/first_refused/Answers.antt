-- `packed::first_refused` meets its contract. Assumes nothing.
use native.Mathlib.Omega.{arith}
use Prim.Native.Nat.{ℕ}
use mathlib.Core.Path.{◌≡◌, refl}
use mathlib.Core.Bool.{true, false}
use Rattle.std.proofs.Common.{rules}
use borrow.Author.Tests.{tests}
use Rattle.std.proofs.lemmas.Iterator.{YieldsList-from_range, IsFirst-from_position}
use Rattle.packed.specs.Reader.{is_packed, seven_at}
use Rattle.packed.proofs.Runs.{found-is}
use Rattle.packed.proofs.first_refused.Goals as goal

pub returns : goal.returns
returns c =
    let a = c.args in
    let passes = λ (s : ℕ). is_packed (seven_at a.packed.now s) in
    found-is a.count passes _ (IsFirst-from_position _ _ _ (λ s. passes s ≡ false) (λ s. passes s ≡ true) c.position.ensures.ran (YieldsList-from_range 0 a.count a.count refl (omega arith)) (λ x q k. search (rules, tests)) (λ x q k. (search rules, search (rules, tests))))
