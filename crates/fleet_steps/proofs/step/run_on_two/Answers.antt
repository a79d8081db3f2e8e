use Rattle.std.proofs.Common.{◌<◌, get_or, ◌∙◌, arith}
use Rattle.std.proofs.lemmas.List.{set_comm}
use Rattle.fleet_steps.proofs.Between.{may_pull_behind, may_pull_ahead, front_at, back_at, both_set, two_within, two_show, two_tell}
use Rattle.fleet_steps.proofs.Settled.{two_as_they_were}
use Rattle.fleet_steps.proofs.step.run_on_two.Goals as goal

pub run_between-requires-clause-pull : goal.run_between-requires-clause-pull
run_between-requires-clause-pull c =
    let cut = c.split_at_mut-front.ensures in
    let within = two_within c.args.command.now c.args.devices.now c.args.target c.args.source c.requires.first c.requires.second c.requires.within in
    may_pull_behind c.args.devices.now c.split_at_mut-front.result.0.now c.split_at_mut-front.result.1.now c.args.target c.args.source c.index-front-target.result c.index-back-0.result c.requires.ready cut.value cut.front_len c.if-target-source.true within.source

pub run_between-requires-else-target-source-clause-pull : goal.run_between-requires-else-target-source-clause-pull
run_between-requires-else-target-source-clause-pull c =
    let cut = c.split_at_mut-front-else-target-source.ensures in
    let within = two_within c.args.command.now c.args.devices.now c.args.target c.args.source c.requires.first c.requires.second c.requires.within in
    let apart = within.apart in
    may_pull_ahead c.args.devices.now c.split_at_mut-front-else-target-source.result.0.now c.split_at_mut-front-else-target-source.result.1.now c.args.target c.args.source c.index-back-0-else-target-source.result c.index-front-source.result c.requires.ready cut.value cut.front_len (within.ahead c.if-target-source.false) within.target

pub returns-then-target-source-clause-devices : goal.returns-then-target-source-clause-devices
returns-then-target-source-clause-devices c =
    let xs = c.args.devices.now in
    let t = c.args.target in
    let s = c.args.source in
    let within = two_within c.args.command.now xs t s c.requires.first c.requires.second c.requires.within in
    let front = c.split_at_mut-front.result.0.now in
    let back = c.split_at_mut-front.result.1.now in
    let cut = c.split_at_mut-front.ensures in
    let d = c.index-front-target.result in
    let e = c.index-back-0.result in
    let a = c.run_between.new.target in
    let b = c.run_between.new.source in
    two_show c.run_between.result xs _ c.args.command.now t s d e (get_or front t d) (get_or back 0 e) a b (front_at xs front back t d cut.value (omega arith)) (back_at xs front back s e cut.value cut.front_len) within.target within.source
    (both_set xs front back t s a b cut.value cut.front_len c.if-target-source.true) c.requires.first c.requires.second c.run_between.ensures.target c.run_between.ensures.source

pub returns-then-target-source-clause-report : goal.returns-then-target-source-clause-report
returns-then-target-source-clause-report c =
    let xs = c.args.devices.now in
    let t = c.args.target in
    let s = c.args.source in
    let within = two_within c.args.command.now xs t s c.requires.first c.requires.second c.requires.within in
    let front = c.split_at_mut-front.result.0.now in
    let back = c.split_at_mut-front.result.1.now in
    let cut = c.split_at_mut-front.ensures in
    let d = c.index-front-target.result in
    let e = c.index-back-0.result in
    two_tell c.run_between.result xs c.args.command.now t s d e (get_or front t d) (get_or back 0 e) (front_at xs front back t d cut.value (omega arith)) (back_at xs front back s e cut.value cut.front_len) within.target within.source c.requires.first c.requires.second c.run_between.ensures.report

pub returns-then-target-source-clause-err : goal.returns-then-target-source-clause-err
returns-then-target-source-clause-err c =
    let xs = c.args.devices.now in
    let t = c.args.target in
    let s = c.args.source in
    let within = two_within c.args.command.now xs t s c.requires.first c.requires.second c.requires.within in
    let front = c.split_at_mut-front.result.0.now in
    let back = c.split_at_mut-front.result.1.now in
    let cut = c.split_at_mut-front.ensures in
    let d = c.index-front-target.result in
    let e = c.index-back-0.result in
    let a = c.run_between.new.target in
    let b = c.run_between.new.source in
    two_as_they_were c.run_between.result xs _ t s d e (get_or front t d) (get_or back 0 e) a b (front_at xs front back t d cut.value (omega arith)) (back_at xs front back s e cut.value cut.front_len) within.apart
    (both_set xs front back t s a b cut.value cut.front_len c.if-target-source.true) c.run_between.ensures.target_kept c.run_between.ensures.source_kept

pub returns-else-target-source-clause-devices : goal.returns-else-target-source-clause-devices
returns-else-target-source-clause-devices c =
    let xs = c.args.devices.now in
    let t = c.args.target in
    let s = c.args.source in
    let within = two_within c.args.command.now xs t s c.requires.first c.requires.second c.requires.within in
    let front = c.split_at_mut-front-else-target-source.result.0.now in
    let back = c.split_at_mut-front-else-target-source.result.1.now in
    let cut = c.split_at_mut-front-else-target-source.ensures in
    let d = c.index-back-0-else-target-source.result in
    let e = c.index-front-source.result in
    let a = c.run_between-else-target-source.new.target in
    let b = c.run_between-else-target-source.new.source in
    let behind : s < t = within.ahead c.if-target-source.false in
    two_show c.run_between-else-target-source.result xs _ c.args.command.now t s d e (get_or back 0 d) (get_or front s e) a b (back_at xs front back t d cut.value cut.front_len) (front_at xs front back s e cut.value (omega arith)) within.target within.source
    (both_set xs front back s t b a cut.value cut.front_len behind ∙ set_comm xs s t b a within.apart) c.requires.first c.requires.second c.run_between-else-target-source.ensures.target c.run_between-else-target-source.ensures.source

pub returns-else-target-source-clause-report : goal.returns-else-target-source-clause-report
returns-else-target-source-clause-report c =
    let xs = c.args.devices.now in
    let t = c.args.target in
    let s = c.args.source in
    let within = two_within c.args.command.now xs t s c.requires.first c.requires.second c.requires.within in
    let front = c.split_at_mut-front-else-target-source.result.0.now in
    let back = c.split_at_mut-front-else-target-source.result.1.now in
    let cut = c.split_at_mut-front-else-target-source.ensures in
    let d = c.index-back-0-else-target-source.result in
    let e = c.index-front-source.result in
    two_tell c.run_between-else-target-source.result xs c.args.command.now t s d e (get_or back 0 d) (get_or front s e) (back_at xs front back t d cut.value cut.front_len) (front_at xs front back s e cut.value (omega arith)) within.target within.source c.requires.first c.requires.second c.run_between-else-target-source.ensures.report

pub returns-else-target-source-clause-err : goal.returns-else-target-source-clause-err
returns-else-target-source-clause-err c =
    let xs = c.args.devices.now in
    let t = c.args.target in
    let s = c.args.source in
    let within = two_within c.args.command.now xs t s c.requires.first c.requires.second c.requires.within in
    let front = c.split_at_mut-front-else-target-source.result.0.now in
    let back = c.split_at_mut-front-else-target-source.result.1.now in
    let cut = c.split_at_mut-front-else-target-source.ensures in
    let d = c.index-back-0-else-target-source.result in
    let e = c.index-front-source.result in
    let a = c.run_between-else-target-source.new.target in
    let b = c.run_between-else-target-source.new.source in
    let behind : s < t = within.ahead c.if-target-source.false in
    two_as_they_were c.run_between-else-target-source.result xs _ t s d e (get_or back 0 d) (get_or front s e) a b (back_at xs front back t d cut.value cut.front_len) (front_at xs front back s e cut.value (omega arith)) within.apart
    (both_set xs front back s t b a cut.value cut.front_len behind ∙ set_comm xs s t b a within.apart) c.run_between-else-target-source.ensures.target_kept c.run_between-else-target-source.ensures.source_kept
