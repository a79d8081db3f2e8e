use Rattle.fleet_steps.proofs.Settled.{settled_same}
use Rattle.tool_call_refusals.proofs.Ready.{settled_all}
use Rattle.tool_call_refusals.proofs.pulls.runs_on.Goals as goal

pub returns : goal.returns
returns c =
    let settled = settled_all c.args.devices.now c.requires.settled in
    record { kept = λ _. settled_same c.args.devices.now c.run_on.new.devices settled (c.in-Err.ensures.staged settled) c.in-Err.ensures.err }
