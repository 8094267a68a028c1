-- Proof that `put_firsts` meets its contract. Assumes nothing.
use native.Mathlib.Omega.{arith}
use mathlib.Core.Path.{refl}
use mathlib.Core.List.{[], ◌∷◌}
use Rattle.table.specs.Columns.{head_column}
use Rattle.view.proofs.Frame.{only-trans, only-more}
use Rattle.firsts.specs.Firsts.{sort_columns, first_columns}
use Rattle.firsts.proofs.put_firsts.Goals as goal

pub put_heads-requires : goal.put_heads-requires
put_heads-requires c =
    let p = c.requires in
    let e = c.order_rows.ensures in
    (p.0, omega (arith, p.1, e.only.size), p.2, p.3, e.in_order)

pub returns : goal.returns
returns c =
    let e = c.order_rows.ensures in
    let f = c.put_heads.ensures in
    record { firsts = f.firsts; only = only-trans first_columns _ _ _ _ (only-more sort_columns first_columns _ _ _ refl e.only) (only-more (head_column ∷ []) first_columns _ _ _ refl f.only) }
