-- Proof that `open_at` meets its contract. Assumes nothing.
use native.Mathlib.Omega.{arith}
use mathlib.Core.Path.{refl}
use Rattle.groups.specs.Walk.{of_any, in_group}
use Rattle.groups.proofs.open_at.Goals as goal

pub returns-then-work-rows-ne0 : goal.returns-then-work-rows-ne0
returns-then-work-rows-ne0 c = of_any c.if-work-rows-ne0.true

pub returns-then-work-rows-ne0-2 : goal.returns-then-work-rows-ne0-2
returns-then-work-rows-ne0-2 c = in_group c.if-work-rows-ne0.false (λ z. omega (arith, z, c.if-work-rows-ne0-2.true))

pub returns : goal.returns
returns c = record { any = c.if-work-rows-ne0.false; free = omega (arith, c.if-work-rows-ne0-2.false); group = refl; begun = refl }
