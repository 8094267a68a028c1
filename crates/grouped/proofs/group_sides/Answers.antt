-- `grouped::group_sides` meets its contract. Assumes nothing.
use native.Mathlib.Omega.{arith}
use Rattle.grouped.proofs.Grouped.{sides-grouped}
use Rattle.grouped.proofs.group_sides.Goals as goal

pub build_4_rule_groups-counts-requires : goal.build_4_rule_groups-counts-requires
build_4_rule_groups-counts-requires c =
    (omega (arith, c.requires.0), c.requires.1, c.requires.2, λ r h. omega (arith, c.requires.3 r (omega (arith, h))))

pub returns : goal.returns
returns c =
    let a = c.args in
    sides-grouped a.rows a.triangles.sound a.triangles.all c.build_4_rule_groups-counts.result.groups c.build_4_rule_groups-counts.result.members _ _ _ c.requires.0 (λ ss d ls B e N S A. c.build_4_rule_groups-counts.ensures.grouped ss d ls B (omega (arith, e)) N S A) c.order_members.ensures.ordered c.build_4_rule_groups-counts.ensures.only c.order_members.ensures.only (omega (arith, c.build_4_rule_groups-counts.ensures.few.0, c.requires.0)) c.build_4_rule_groups-counts.ensures.few.1
