use Rattle.std.proofs.Common.{◌≡◌, drop}
use Rattle.std.specs.List.{list_all}
use Rattle.block_list.specs.Blocks.{joined}
use Rattle.fleet_audit.specs.Audited.{is_wanted}
use Rattle.fleet_audit.proofs.sound.stores_nothing_else.Given as goal

abbrev pub invariant-loop-block : goal.invariant-loop-block
invariant-loop-block l = list_all (is_wanted l.log l.device) (joined (drop l.block-index l.block-items)) ≡ list_all (is_wanted l.log l.device) l.device.store
