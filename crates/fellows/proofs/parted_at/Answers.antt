-- `fellows::parted_at` meets its contract. Assumes nothing.
use Prim.Native.Nat.{◌*◌, ◌-◌, ◌<◌}
use native.Mathlib.Omega.{arith}
use Rattle.asked.proofs.Rows.{told-not}
use Rattle.fellows.proofs.Beside.{not-linked, not-firm, parted-tells}
use Rattle.fellows.proofs.parted_at.Goals as goal

pub returns-then-word-eq0 : goal.returns-then-word-eq0
returns-then-word-eq0 c = told-not (not-linked _ _ _ _ _ _ _ c.word_at-word.ensures c.if-word-eq0.true)

pub returns-then-not-firm_pair : goal.returns-then-not-firm_pair
returns-then-not-firm_pair c =
    told-not (not-firm _ _ _ _ _ _ _ c.word_at-word.ensures c.if-word-eq0.false (c.firm_pair.ensures.fails c.if-not-firm_pair.true))

pub ends_apart-requires : goal.ends_apart-requires
ends_apart-requires c =
    let p = c.requires in
    let k = c.firm_pair.ensures.holds c.if-not-firm_pair.false in
    let w = c.word_at-word.ensures in
    let q : c.word_at-word.result - 1 < 3 * c.args.tris = omega (arith, w, p.7, c.if-word-eq0.false) in
    (p.0, q, omega (arith, p.1, p.3), p.5, (λ z. p.8 _ p.0 (record { firm = k.near; free = z })), (λ z. p.8 _ q (record { firm = k.far; free = z })))

pub returns : goal.returns
returns c =
    let p = c.requires in
    let w = c.word_at-word.ensures in
    parted-tells _ _ _ _ _ _ _ w c.if-word-eq0.false _ (omega (arith, w, p.7)) (c.firm_pair.ensures.holds c.if-not-firm_pair.false) c.ends_apart.ensures
