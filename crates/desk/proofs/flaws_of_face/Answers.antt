-- `desk::flaws_of_face` meets its contract: a face takes slots where its size is 3 or 4. Assumes nothing.
use mathlib.Core.Path.{◌≡◌, sym, ap, ◌∙◌}
use mathlib.Core.Bool.{Bool, true, false, cond}
use mathlib.Core.Option.{Option, none}
use Prim.Native.Nat.{ℕ}
use native.Mathlib.Omega.{arith}
use Rattle.definition.specs.Handed.{used, slots_of}
use Rattle.std.specs.Prelude.{Option as Found}
use Rattle.desk.specs.Verdict.{found, unless_found}
use Rattle.desk.proofs.Bad.{at_last, takes_none, takes-some}
use Rattle.desk.proofs.flaws_of_face.Goals as goal

-- nothing new in a face that takes no slot
passed_over : (b : Found ℕ) (u : Bool) (o : Option ℕ) → u ≡ false → b ≡ found (unless_found b (cond u o none))
passed_over b u o e = at_last b ∙ ap (λ (x : Bool). found (unless_found b (cond x o none))) (sym e)

-- and all that is found in one that does
looked-at : (a b : Found ℕ) (u : Bool) (o : Option ℕ) → u ≡ true → a ≡ found (unless_found b o) → a ≡ found (unless_found b (cond u o none))
looked-at a b u o e f = f ∙ ap (λ (x : Bool). found (unless_found b (cond x o none))) (sym e)

pub returns-then-unused : goal.returns-then-unused
returns-then-unused c =
    let n = c.args.size in
    let z : slots_of n ≡ 0 = omega (arith, c.slots_of-unused.ensures.0, c.if-unused.true) in
    let e : used n ≡ false = takes_none n z in
    (passed_over _ _ _ e, passed_over _ _ _ e)

pub returns : goal.returns
returns c =
    let n = c.args.size in
    let e : used n ≡ true = takes-some n (λ h. omega (arith, h, c.slots_of-unused.ensures.0, c.if-unused.false)) in
    (looked-at _ _ _ _ e c.flaws_in.ensures.0, looked-at _ _ _ _ e c.flaws_in.ensures.1)
