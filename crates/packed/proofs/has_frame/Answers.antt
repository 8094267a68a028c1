-- `packed::has_frame` meets its contract. Assumes nothing.
use Prim.Native.Nat.{◌+◌}
use native.Mathlib.Omega.{arith}
use mathlib.Core.Path.{ap, ◌∙◌}
use mathlib.Core.Bool.{Bool, true, ◌&&◌}
use lib.Dec.{eqb, leb}
use lib.ListN.{get_or, take, drop}
use lib.Seq.{get_or-take, get_or-drop}
use Rattle.std.proofs.Common.{rules}
use borrow.Author.Tests.{tests}
use Rattle.std.proofs.lemmas.Iterator.{YieldsList-from_slice}
use Rattle.std.proofs.lemmas.Iterator.Consumers.{fold_from_yields_List}
use Rattle.lists.specs.Parts.{part}
use Rattle.lists.proofs.Parts.{every-same, length_part}
use Rattle.packed.specs.Component.{within}
use Rattle.packed.specs.Packer.{has_frame}
use Rattle.packed.proofs.Runs.{fold-every}
use Rattle.packed.proofs.has_frame.Goals as goal

pub returns : goal.returns
unfolding has_frame part
returns c =
    let s = c.args.slot.now in
    ap (λ (b : Bool). eqb (get_or s 0 0) 1 && leb (get_or s 9 0) 1 && b)
    (fold-every within (take 6 (drop 1 s)) 6 _ (length_part 1 6 s (omega arith)) (fold_from_yields_List _ (λ b n. b && within n) true _ c.fold-six.ensures.ran (YieldsList-from_slice (take 6 (drop 1 s)) cc) (λ b x d q k. (search rules, search (rules, tests))))
    ∙ every-same 6 (λ k. within (get_or (take 6 (drop 1 s)) k 0)) (λ k. within (get_or s (1 + k) 0)) (λ k h. ap within (get_or-take 6 (drop 1 s) k 0 h ∙ get_or-drop 1 s k 0)))
