use Rattle.std.proofs.Common.{arith}
use Rattle.fleet_steps.proofs.Between.{may_pull_ahead}
use Rattle.tool_memory_counts.proofs.pulls.on_devices.Goals as goal

pub takes-requires : goal.takes-requires
takes-requires c =
    let cut = c.split_at_mut-front.ensures in
    may_pull_ahead c.args.devices.now c.split_at_mut-front.result.0.now c.split_at_mut-front.result.1.now 1 0 c.index-back-0.result c.index-front-0.result c.requires.ready cut.value cut.front_len (omega arith) (omega arith)
