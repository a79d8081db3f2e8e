use Rattle.std.proofs.Common.{◌∙◌, ap, arith}
use Rattle.std.specs.Arc.{arc_value}
use Rattle.fleet_workers.specs.Jobs.{jobs_of}
use Rattle.fleet_workers.proofs.Owned.{jobs_of-last}
use Rattle.fleet_workers.proofs.Crewed.{may_last, may_others, promised, countable_joined, all_joined}
use Rattle.fleet_workers.proofs.crew.+run_crew.Goals as goal

pub start-requires-clause-start : goal.start-requires-clause-start
start-requires-clause-start g t c κs within =
    let all = ap jobs_of c.in-Some.ensures.items ∙ jobs_of-last c.pop.new.self.items c.in-Some.jobs in
    may_last (arc_value c.args.shared.now.script) (jobs_of c.args.groups.items) (jobs_of c.pop.new.self.items) c.in-Some.jobs.items c.args.share.now all c.requires.start

pub run_crew-others-requires-clause-start : goal.run_crew-others-requires-clause-start
run_crew-others-requires-clause-start g t c κs within =
    let all = ap jobs_of c.in-Some.ensures.items ∙ jobs_of-last c.pop.new.self.items c.in-Some.jobs in
    may_others (arc_value c.args.shared.now.script) (jobs_of c.args.groups.items) (jobs_of c.pop.new.self.items) c.in-Some.jobs.items c.args.share.now _ all c.requires.start c.in_ok-running.ensures.share

pub gather-requires : goal.gather-requires
gather-requires g t c =
    let script = arc_value c.args.shared.now.script in
    let all = ap jobs_of c.in-Some.ensures.items ∙ jobs_of-last c.pop.new.self.items c.in-Some.jobs in
    let promise = c.in_ok-running.ensures.ok in
    let f = c.in_ok-finished.finished in
    countable_joined script (jobs_of c.args.groups.items) (jobs_of c.pop.new.self.items) c.in-Some.jobs.items c.in_ok-done.done.items f.done.items c.args.share.now c.start.new.share c.run_crew-others.new.share f.share
    (record {
      is = all;
      start = c.requires.start;
      split = c.in_ok-running.ensures.share;
      others_have = c.in_ok-done.ensures.ok;
      last_has = promised script _ c.in-Some.jobs c.in_ok-running.running.handle.promise.jobs.value f.done.items f.share promise.0 promise.1 c.in_ok-finished.ensures.ok;
    }) c.left-left.ensures.countable

pub returns-clause-ok : goal.returns-clause-ok
returns-clause-ok g t c =
    let script = arc_value c.args.shared.now.script in
    let all = ap jobs_of c.in-Some.ensures.items ∙ jobs_of-last c.pop.new.self.items c.in-Some.jobs in
    let promise = c.in_ok-running.ensures.ok in
    let f = c.in_ok-finished.finished in
    all_joined c.gather.result script (jobs_of c.args.groups.items) (jobs_of c.pop.new.self.items) c.in-Some.jobs.items c.in_ok-done.done.items f.done.items c.args.share.now c.start.new.share c.run_crew-others.new.share f.share c.gather.new.share
    (record {
      is = all;
      start = c.requires.start;
      split = c.in_ok-running.ensures.share;
      others_have = c.in_ok-done.ensures.ok;
      last_has = promised script _ c.in-Some.jobs c.in_ok-running.running.handle.promise.jobs.value f.done.items f.share promise.0 promise.1 c.in_ok-finished.ensures.ok;
    }) (let parts = c.requires.parts in let items = c.in-Some.ensures.items in omega (arith, parts)) c.gather.ensures.done c.gather.ensures.share
