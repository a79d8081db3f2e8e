use Rattle.std.proofs.Common.{None}
use Rattle.fleet_audit.specs.Current.{is_outdated}
use Rattle.fleet_audit.specs.Audited.{is_held}
use Rattle.fleet_audit.proofs.Lists.{stops, goes_on, ends}
use Rattle.fleet_audit.proofs.kept.is_kept.Goals as goal

pub returns-then-not-are_held : goal.returns-then-not-are_held
returns-then-not-are_held c =
    let split = c.split_at.ensures in
    stops (is_outdated (None) c.args.log.now) (is_held c.args.devices.now) c.args.log.now c.by_picture-rest.result.now c.loop-rest.rest.now c.by_picture-rest.ensures.same c.loop-rest.invariant
    c.split_at.result.0.now c.split_at.result.1.now c.current_of.result.now c.stretch_len.result c.are_held.result split.front split.back c.current_of.ensures c.are_held.ensures c.if-not-are_held.true

pub loop-rest-preserved : goal.loop-rest-preserved
loop-rest-preserved c =
    let split = c.split_at.ensures in
    goes_on (is_outdated (None) c.args.log.now) (is_held c.args.devices.now) c.args.log.now c.by_picture-rest.result.now c.loop-rest.rest.now c.by_picture-rest.ensures.same c.loop-rest.invariant
    c.split_at.result.0.now c.split_at.result.1.now c.current_of.result.now c.stretch_len.result c.are_held.result split.front split.back c.current_of.ensures c.are_held.ensures c.if-not-are_held.false

pub returns : goal.returns
returns c =
    ends (is_outdated (None) c.args.log.now) (is_held c.args.devices.now) c.args.log.now c.by_picture-rest.result.now c.loop-rest.rest.now c.by_picture-rest.ensures.same c.loop-rest.invariant
    c.is_empty.result c.is_empty.ensures c.loop-rest-test.false
