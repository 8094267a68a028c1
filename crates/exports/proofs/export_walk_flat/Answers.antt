-- `exports::export_walk_flat` meets its contract. Assumes nothing.
use Rattle.exports.proofs.export_walk_flat.Goals as goal

pub build_4_rule_groups-requires : goal.build_4_rule_groups-requires
build_4_rule_groups-requires c = c.may_walk.ensures c.if-may_walk.true
