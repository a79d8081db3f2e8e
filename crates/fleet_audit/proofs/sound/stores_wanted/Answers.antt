use Rattle.std.proofs.Common.{Some}
use Rattle.fleet_audit.specs.Current.{is_outdated}
use Rattle.fleet_audit.specs.Audited.{is_placed}
use Rattle.fleet_audit.proofs.Lists.{stops, goes_on, ends}
use Rattle.fleet_audit.proofs.sound.stores_wanted.Goals as goal

pub returns-then-not-are_placed : goal.returns-then-not-are_placed
returns-then-not-are_placed c =
    let split = c.split_at.ensures in
    stops (is_outdated (Some c.args.device.now) c.args.log.now) (is_placed c.args.device.now) c.args.log.now c.by_picture-rest.result.now c.loop-rest.rest.now c.by_picture-rest.ensures.same c.loop-rest.invariant
    c.split_at.result.0.now c.split_at.result.1.now c.current_of.result.now c.stretch_len.result c.are_placed.result split.front split.back c.current_of.ensures c.are_placed.ensures c.if-not-are_placed.true

pub loop-rest-preserved : goal.loop-rest-preserved
loop-rest-preserved c =
    let split = c.split_at.ensures in
    goes_on (is_outdated (Some c.args.device.now) c.args.log.now) (is_placed c.args.device.now) c.args.log.now c.by_picture-rest.result.now c.loop-rest.rest.now c.by_picture-rest.ensures.same c.loop-rest.invariant
    c.split_at.result.0.now c.split_at.result.1.now c.current_of.result.now c.stretch_len.result c.are_placed.result split.front split.back c.current_of.ensures c.are_placed.ensures c.if-not-are_placed.false

pub returns : goal.returns
returns c =
    ends (is_outdated (Some c.args.device.now) c.args.log.now) (is_placed c.args.device.now) c.args.log.now c.by_picture-rest.result.now c.loop-rest.rest.now c.by_picture-rest.ensures.same c.loop-rest.invariant
    c.is_empty.result c.is_empty.ensures c.loop-rest-test.false
