-- `worth::countable` meets its contract. Assumes nothing.
use native.Mathlib.Omega.{arith}
use Rattle.worth.proofs.Outcomes.{is-broken, is-endless, is-tight, is_none}
use Rattle.worth.proofs.countable.Goals as goal
use Rattle.worth.proofs.countable.Goals.{then-ragged-via-then-ragged, then-ragged-via-else-ragged+then-count-gt-MOST_SLOTS}

pub returns-then-ragged : goal.returns-then-ragged
returns-then-ragged c =
    let a = c.args in
    elim c.then-ragged.branch [
      | then-ragged-via-then-ragged w ↦ is-broken a.words a.room (λ e. omega (arith, e, w.if-ragged.true))
      | then-ragged-via-else-ragged+then-count-gt-MOST_SLOTS w ↦
          is-endless a.words a.room (omega (arith, w.if-ragged.false)) (omega (arith, w.if-count-gt-MOST_SLOTS.true))
    ]

pub returns-then-room-count : goal.returns-then-room-count
returns-then-room-count c =
    let a = c.args in
    is-tight a.words a.room (omega (arith, c.if-ragged.false)) (omega (arith, c.if-count-gt-MOST_SLOTS.false)) (omega (arith, c.if-room-count.true))

pub returns : goal.returns
returns c =
    let a = c.args in
    (is_none a.words a.room (omega (arith, c.if-ragged.false)) (omega (arith, c.if-count-gt-MOST_SLOTS.false)) (omega (arith, c.if-room-count.false)), omega arith)
