-- Proof that `find` meets its contract. The invariant: what is found from here on is what is found. Assumes nothing.
use Prim.Native.Nat.{suc, ◌-◌}
use native.Mathlib.Omega.{arith}
use mathlib.Core.Path.{◌≡◌, sym, ap, ◌∙◌}
use lib.ListN.{get_or}
use Rattle.table.specs.Table.{cell, column}
use Rattle.table.specs.Columns.{next_column}
use Rattle.table.proofs.Laws.{get_or-column}
use Rattle.definition.specs.Step4Order.{welded}
use Rattle.weld.proofs.Chains.{walking_start, walking-end, walking_here, walking-falls, walking-next}
use Rattle.weld.proofs.find.Goals as goal
use Rattle.weld.proofs.find.Tie as tie
use Rattle.weld.proofs.find.Lts as lts
use Rattle.weld.proofs.find.Reads as reads

abbrev At-In-loop-p : Type 0
At-In-loop-p = lts.In-loop tie.the-claims reads.Pre reads.Post goal.the-invariant-loop-p goal.the-decreases-loop-p

-- the word is that of a row
word-of-row : (c : At-In-loop-p) → let p = c.loop-p.p in p ≡ suc (p - 1)
word-of-row c = omega (arith, c.loop-p-test.true)

-- the word after the row
next : (c : At-In-loop-p) → let a = c.args in let r = c.loop-p.p - 1 in get_or (column a.rows next_column a.work.now) r 0 ≡ cell a.rows next_column r a.work.now
next c = let a = c.args in get_or-column a.rows a.work.now next_column (c.loop-p.p - 1) (omega (arith, c.loop-p.invariant.small))

pub loop-p-init : goal.loop-p-init
loop-p-init c = walking_start _ _ _ _ c.requires.1 c.requires.2

pub returns-then-same_corner : goal.returns-then-same_corner
returns-then-same_corner c =
    walking_here _ _ _ _ _ _ (word-of-row c.before.before.before.before) (sym (c.same_corner.ensures ∙ ap (welded _) c.corner_of-d.ensures) ∙ c.if-same_corner.true) c.loop-p.invariant

pub loop-p-smaller : goal.loop-p-smaller
loop-p-smaller c = walking-falls _ _ _ _ _ _ _ (word-of-row c.before.before.before.before.before) (next c.before.before.before.before.before) c.loop-p.invariant

pub loop-p-preserved : goal.loop-p-preserved
loop-p-preserved c =
    walking-next _ _ _ _ _ _ _ (word-of-row c.before.before.before.before.before) (sym (c.same_corner.ensures ∙ ap (welded _) c.corner_of-d.ensures) ∙ c.if-same_corner.false) (next c.before.before.before.before.before) c.loop-p.invariant

pub returns : goal.returns
returns c = walking-end _ _ _ _ _ c.loop-p-test.false c.loop-p.invariant
