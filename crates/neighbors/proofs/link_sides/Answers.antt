-- `neighbors::link_sides` meets its contract. Assumes nothing.
use Prim.Native.Nat.{◌+◌, ◌*◌}
use native.Mathlib.Omega.{arith}
use mathlib.Core.Path.{refl, sym, subst}
use Rattle.table.specs.Columns.{vertex_column}
use Rattle.definition.specs.Step5Links.{links}
use Rattle.view.specs.Links.{Linked}
use Rattle.neighbors.proofs.Placed.{only-three}
use Rattle.neighbors.proofs.Whole.{ready-two, links-are}
use Rattle.neighbors.proofs.link_sides.Goals as goal

pub link_all-requires : goal.link_all-requires
link_all-requires c =
    ready-two c.args.rows c.args.tris c.args.work.now _ _ c.requires.0 c.requires.1 c.requires.2 c.order_sides.ensures.is c.order_sides.ensures.sorted

pub returns : goal.returns
returns c =
    let a = c.args in record { linked = λ ss d e N S W. subst (Linked a.rows ss d (links ss)) (sym c.link_all.ensures.work) (links-are a.rows a.tris a.work.now _ _ c.requires.0 c.requires.1 c.requires.2 c.order_sides.ensures.is c.order_sides.ensures.sorted (λ r h. omega (arith, c.slice_known-1.given (vertex_column * a.rows + r))) ss d e N S W); range = λ r h. c.link_all.ensures.ready.links r h; only = only-three a.rows vertex_column a.tris a.work.now _ _ refl c.requires.0 c.requires.1 c.order_sides.ensures.is c.order_sides.ensures.sorted.only _ c.link_all.ensures.only }
