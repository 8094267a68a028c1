-- `blocks::lose_one` meets its contract. Assumes nothing.
use native.Mathlib.Omega.{arith}
use Prim.Native.Nat.{ℕ, suc, ◌+◌, ◌-◌}
use mathlib.Core.Path.{◌≡◌, ◌∙◌, ap}
use mathlib.Core.List.{List}
use lib.ListN.{set, replicate, length-set}
use lib.Seq.{sets}
use Rattle.blocks.specs.Judged.{lost_words}
use Rattle.lists.proofs.Written.{part-cleared}
use Rattle.blocks.proofs.lose_one.Goals as goal

-- word 0, and the zeros after it
lost-is : (l u : List ℕ) (p wide : ℕ) → u ≡ sets (set l p 2) (p + 1) (replicate (wide - 1) 0) → u ≡ sets l p (lost_words wide)
unfolding lost_words
lost-is l u p wide h = h ∙ ap (λ (q : ℕ). sets (set l p 2) q (replicate (wide - 1) 0)) next
  where
    next : p + 1 ≡ suc p
    next = omega arith

pub returns : goal.returns
returns c =
    let a = c.args in
    lost-is a.answer.now _ a.p a.wide (part-cleared (set a.answer.now a.p 2) _ (a.p + 1) _ (a.wide - 1) (c.fill.ensures.after (λ y e. e)) (omega arith) (simp length-set (omega arith)))
