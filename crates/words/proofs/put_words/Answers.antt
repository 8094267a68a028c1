-- `words::put_words` meets its contract. Assumes nothing.
use native.Mathlib.Omega.{arith}
use Prim.Native.Nat.{◌+◌, ◌-◌, ◌*◌}
use mathlib.Core.Path.{◌≡◌, refl, ◌∙◌, ap}
use mathlib.Core.List.{flat_map}
use Rattle.std.proofs.lemmas.List.{length-take, length-drop}
use lib.ListN.{take}
use lib.Seq.{sets}
use Rattle.lists.specs.Parts.{sum_of, part}
use Rattle.words.specs.Words.{bytes_of}
use Rattle.lists.proofs.Parts.{length_part}
use Rattle.words.proofs.Words.{put_more, take-sum, part-taken}
use Rattle.words.proofs.put_words.Goals as goal

pub loop-i-init : goal.loop-i-init
unfolding bytes_of flat_map sum_of
loop-i-init c = (omega arith, refl, refl, omega arith, refl)

pub loop-i-preserved : goal.loop-i-preserved
loop-i-preserved c =
    let l = c.loop-i in
    let a = c.args in
    let w = c.from-sum.ensures in (
      omega (arith, simp (length-take, length-drop) at c.loop-i-test.true),
      c.put_word.ensures ∙ put_more a.bytes.now l.bytes _ a.to l.i _ c.loop-i-test.true refl l.invariant.1,
      take-sum _ l.i l.sum _ c.loop-i-test.true w l.invariant.2,
      omega arith,
      c.put_word.auto.bytes ∙ l.invariant.4,
    )

pub returns : goal.returns
unfolding part
returns c =
    let l = c.loop-i in
    let a = c.args in
    let long = length_part a.from (a.from + a.count - a.from) a.words.now (omega arith) in
    let all : l.i ≡ a.count = omega (arith, long) in
    let e : take l.i _ ≡ part a.from a.count a.words.now = part-taken a.from (a.from + a.count - a.from) l.i a.count a.words.now (omega arith) all in
    (l.invariant.1 ∙ ap (λ k. sets a.bytes.now (4 * a.to) (bytes_of k)) e, l.invariant.2 ∙ ap sum_of e, omega (arith, all))
