-- `words::get_words` meets its contract. Assumes nothing.
use native.Mathlib.Omega.{arith}
use Prim.Native.Nat.{◌+◌, ◌-◌}
use mathlib.Core.Path.{refl, ◌∙◌, ap}
use lib.ListN.{set, take, length-set}
use Rattle.lists.specs.Parts.{part}
use Rattle.lists.specs.Loops.{list_of}
use Rattle.lists.proofs.Parts.{length_part}
use Rattle.words.specs.Words.{words_at}
use Rattle.lists.proofs.Written.{part-written}
use Rattle.words.proofs.Words.{word-by, get_more, get_all, length-words}
use Rattle.words.proofs.get_words.Goals as goal

pub loop-i-init : goal.loop-i-init
unfolding part words_at list_of
loop-i-init c = (omega arith, refl, length_part c.args.to (c.args.to + c.args.count - c.args.to) c.args.words.now (omega arith) ∙ omega arith)

pub loop-i-preserved : goal.loop-i-preserved
loop-i-preserved c =
    let l = c.loop-i in
    let a = c.args in
    (omega arith, ap (λ w. take (l.i + 1) (set l.w-items l.i w)) (word-by _ _ (a.from + l.i) _ c.word_at.ensures (omega arith)) ∙ get_more a.bytes.now a.from l.w-items l.i (omega arith) l.invariant.1, length-set _ _ _ ∙ l.invariant.2)

pub returns : goal.returns
returns c =
    let l = c.loop-i in
    let a = c.args in
    let ws = words_at a.bytes.now a.from a.count in
    part-written a.words.now l.w-items ws a.to _ (get_all a.bytes.now a.from l.w-items l.i a.count (omega arith) (omega arith) l.invariant.1) (omega (arith, length-words a.bytes.now a.from a.count)) (omega arith)
