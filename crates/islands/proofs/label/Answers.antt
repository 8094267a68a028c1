-- Proof that `label` meets its contract. Assumes nothing.
use Prim.Native.Nat.{ℕ, ◌*◌, ◌≤◌}
use mathlib.Core.List.{List}
use Rattle.table.specs.Columns.{columns, rows_of}
use native.Mathlib.Omega.{arith}
use mathlib.Core.Path.{◌≡◌, ◌∙◌}
use lib.ListN.{length}
use Rattle.definition.specs.Limits.{face_limit}
use Rattle.unions.proofs.Stores.{alone-down}
use Rattle.islands.proofs.Labels.{readable, labels-are}
use Rattle.islands.proofs.label.Goals as goal

-- so few faces are listed, in a list as long as the one that is lent
module _ (n k : ℕ) (w u : List ℕ) (few : n ≤ face_limit) (listed : k ≤ n) (long : columns * rows_of n ≤ length w) (size : length u ≡ length w) where
  room : (4 * k ≤ 6 * n) × (126 * n ≤ length u) × (n ≤ face_limit)
  room = (omega arith, omega arith, few)

pub overflow_mul-k : goal.overflow_mul-k
overflow_mul-k c = let f = room _ _ _ _ c.requires.0 c.list_faces-k.ensures.0.few c.requires.2 c.list_faces-k.ensures.1.size in omega (arith, f.0, f.2)

pub weld-requires : goal.weld-requires
weld-requires c = let f = room _ _ _ _ c.requires.0 c.list_faces-k.ensures.0.few c.requires.2 c.list_faces-k.ensures.1.size in (f.0, omega (arith, f.1), omega (arith, f.2))

pub overflow_mul-k-2 : goal.overflow_mul-k-2
overflow_mul-k-2 c = let f = room _ _ _ _ c.requires.0 c.list_faces-k.ensures.0.few c.requires.2 c.list_faces-k.ensures.1.size in omega (arith, f.0, f.2)

pub unite_rows-requires : goal.unite_rows-requires
unite_rows-requires c =
    let w = c.weld.ensures.0 in
    let f = room _ _ _ _ c.requires.0 c.list_faces-k.ensures.0.few c.requires.2 c.list_faces-k.ensures.1.size in
    let a = c.alone.ensures in
    (omega (arith, f.0), omega (arith, f.1, w.only.size), omega (arith, a.beyond.size, c.requires.1), alone-down _ _ _ a, readable _ _ _ _ c.list_faces-k.ensures.0 w _ (omega arith))

pub settle-requires : goal.settle-requires
settle-requires c =
    (omega (arith, c.unite_rows.ensures.beyond.size, c.alone.ensures.beyond.size, c.requires.1), c.unite_rows.ensures.down)

pub strike-requires : goal.strike-requires
strike-requires c =
    omega (arith, c.settle.ensures.beyond.size, c.unite_rows.ensures.beyond.size, c.alone.ensures.beyond.size, c.requires.1)

-- both lists are as long as they were
pub shape_of-labels : goal.shape_of-labels
shape_of-labels c =
    c.strike.ensures.beyond.size ∙ c.settle.ensures.beyond.size ∙ c.unite_rows.ensures.beyond.size ∙ c.alone.ensures.beyond.size

pub shape_of-work : goal.shape_of-work
shape_of-work c =
    c.weld.ensures.0.only.size ∙ c.list_faces-k.ensures.1.size

pub returns : goal.returns
returns c =
    let w = c.weld.ensures.0 in
    (labels-are _ _ _ _ c.list_faces-k.ensures.0 w _ _ _ _ _ _ c.requires.1 c.alone.ensures c.unite_rows.ensures c.settle.ensures c.strike.ensures (omega arith), w.only.size ∙ c.list_faces-k.ensures.1.size, w.only.rest ∙ c.list_faces-k.ensures.1.rest)
