-- `neighbors::look` meets its contract: each arm is a way in which the cursors move. Assumes nothing.
use Prim.Native.Nat.{ℕ}
use mathlib.Core.Path.{◌≡◌, sym, ◌∙◌}
use mathlib.Core.Bool.{Bool}
use Rattle.neighbors.specs.Links.{same_ends, suits}
use Rattle.neighbors.proofs.Turns.{parted, unsuited, linked-as}
use Rattle.neighbors.proofs.look.Goals as goal

-- the answer of a test, for the sides' places
told : (f : ℕ → ℕ → Bool) {s t u v : ℕ} {r q : Bool} → s ≡ t → u ≡ v → r ≡ f s u → r ≡ q → f t v ≡ q
told f p q e h = sym (λ k. f (p k) (q k)) ∙ sym e ∙ h

pub returns-then-not-same_ends : goal.returns-then-not-same_ends
returns-then-not-same_ends c =
    let at = c.side_at-u in
    let a = c.args in
    let p = c.requires in
    parted a.rows a.n a.c.near a.c.far a.work.now p.near_lt_far.2 p.s_value.2 p.near_lt_far.0 p.near_lt_far.1
    (told (λ x y. same_ends a.rows x y a.work.now) p.s_value.0 at.ensures.0 c.same_ends.ensures c.if-not-same_ends.true)

pub returns-then-not-fits : goal.returns-then-not-fits
returns-then-not-fits c =
    let at = c.side_at-u in
    let a = c.args in
    let p = c.requires in
    unsuited a.rows a.n a.c.near a.c.far a.work.now p.near_lt_far.2 p.s_value.2 p.near_lt_far.0 p.near_lt_far.1
    (told (λ x y. same_ends a.rows x y a.work.now) p.s_value.0 at.ensures.0 c.same_ends.ensures c.if-not-same_ends.false)
    (told (λ x y. suits a.rows x y a.work.now) p.s_value.0 at.ensures.0 c.suits-fits.ensures c.if-not-fits.true)

pub returns : goal.returns
returns c =
    let at = c.side_at-u in
    let a = c.args in
    let p = c.requires in
    linked-as a.rows a.n a.c.near a.c.far a.work.now p.near_lt_far.2 p.s_value.2 p.near_lt_far.0 p.near_lt_far.1
    (told (λ x y. same_ends a.rows x y a.work.now) p.s_value.0 at.ensures.0 c.same_ends.ensures c.if-not-same_ends.false)
    _ _ _ p.s_value.0 at.ensures.0 c.join.ensures
    (told (λ x y. suits a.rows x y a.work.now) p.s_value.0 at.ensures.0 c.suits-fits.ensures c.if-not-fits.false)
