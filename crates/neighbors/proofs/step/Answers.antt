-- `neighbors::step` meets its contract: each arm is a way in which the cursors move. Assumes nothing.
use Prim.Native.Nat.{ℕ}
use mathlib.Core.List.{List}
use native.Mathlib.Omega.{arith}
use mathlib.Core.Path.{◌≡◌, sym, ap, ◌∙◌}
use Rattle.table.specs.Table.{cell}
use Rattle.table.specs.Columns.{link_column}
use Rattle.std.specs.Prelude.{Option, is_some}
use mathlib.Core.Bool.{false}
use Rattle.neighbors.specs.Links.{link_of, side_at}
use Rattle.neighbors.proofs.Words.{unlinked}
use Rattle.neighbors.proofs.Turns.{passed, fetched, ended}
use Rattle.neighbors.proofs.step.Goals as goal

pub link_at-requires : goal.link_at-requires
link_at-requires c =
    let at = c.side_at-s in
    let R = c.requires.1.ready in
    (at.ensures.1, R.fits, R.long, R.links at.result at.ensures.1)

-- the side at `near` is unlinked
free : (rows near s : ℕ) (work : List ℕ) (l : Option ℕ) → s ≡ side_at rows work near → l ≡ link_of (cell rows link_column s work) → is_some l ≡ false → cell rows link_column (side_at rows work near) work ≡ 0
free rows near s work l p q e = unlinked _ (ap (λ (x : ℕ). is_some (link_of (cell rows link_column x work))) (sym p) ∙ sym (ap is_some q) ∙ e)

pub returns-then-is_some : goal.returns-then-is_some
returns-then-is_some c =
    let at = c.side_at-s in
    let a = c.args in
    passed a.rows a.n a.c.near a.c.far a.work.now c.requires.1 c.requires.0
    (ap (λ (x : ℕ). is_some (link_of (cell a.rows link_column x a.work.now))) (sym at.ensures.0) ∙ sym (ap is_some c.link_at.ensures.0) ∙ sym c.is_some.ensures ∙ c.if-is_some.true)

pub returns-then-c : goal.returns-then-c
returns-then-c c =
    let a = c.args in
    fetched a.rows a.n a.c.near a.c.far a.work.now c.requires.1 c.requires.0 c.if-c.true

pub returns-then-c-n : goal.returns-then-c-n
returns-then-c-n c =
    let a = c.args in
    ended a.rows a.n a.c.near a.c.far a.work.now c.requires.1 (free a.rows a.c.near _ a.work.now _ c.side_at-s.ensures.0 c.link_at.ensures.0 (sym c.is_some.ensures ∙ c.if-is_some.false)) (omega arith) c.if-c-n.true

pub look-requires : goal.look-requires
look-requires c =
    let at = c.side_at-s in
    record { near_lt_far = (c.if-c.false, omega (arith, c.requires.1.second), c.requires.1); s_value = (at.ensures.0, at.ensures.1, free c.args.rows c.args.c.near _ c.args.work.now _ at.ensures.0 c.link_at.ensures.0 (sym c.is_some.ensures ∙ c.if-is_some.false)) }
