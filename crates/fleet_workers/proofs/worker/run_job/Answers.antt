use Rattle.std.proofs.Common.{◌≡◌, ◌∙◌, ◌-◌, ◌≤◌, length, ap, sym, subst}
use Rattle.std.specs.Prelude.{Some, slice_get}
use Rattle.std.specs.Arc.{arc_value}
use Rattle.fleet_model.specs.Contents.{Contents}
use Rattle.work_ledger.specs.Counting.{CanCount, counted}
use Rattle.fleet_workers.proofs.Owned.{ready_command, numbered, within_script}
use Rattle.fleet_workers.proofs.Workings.{command_here, job_countable, has_worked}
use Rattle.fleet_workers.proofs.worker.run_job.Goals as goal

pub command-requires-clause-first : goal.command-requires-clause-first
command-requires-clause-first g c = numbered (arc_value c.args.shared.now.script) c.args.job c.requires.0.0

pub command-requires-clause-within : goal.command-requires-clause-within
command-requires-clause-within g c =
    subst (λ (s : Contents). c.args.job.number ≤ length s.commands) (sym c.script.ensures) (within_script (arc_value c.args.shared.now.script) c.args.job c.requires.0.0)

pub run_one-requires : goal.run_one-requires
run_one-requires g c =
    let script = arc_value c.args.shared.now.script in
    let job = c.args.job in
    let command = c.command.result.now in
    let at = subst (λ (s : Contents). slice_get s.commands (job.number - 1) ≡ Some command) c.script.ensures c.command.ensures.command in
    ready_command script job command c.requires.0.0 (command_here script job command c.requires.0.0 at)

pub count-requires : goal.count-requires
count-requires g c =
    let script = arc_value c.args.shared.now.script in
    let job = c.args.job in
    let command = c.command.result.now in
    let at = subst (λ (s : Contents). slice_get s.commands (job.number - 1) ≡ Some command) c.script.ensures c.command.ensures.command in
    let is = command_here script job command c.requires.0.0 at in
    subst (λ k. CanCount k c.args.share.now.left) (sym c.kind_of.ensures)
    (job_countable script job command c.in_ok-done.done c.args.share.now is (ready_command script job command c.requires.0.0 is) c.in_ok-done.ensures c.requires)

pub returns : goal.returns
returns g c =
    let script = arc_value c.args.shared.now.script in
    let job = c.args.job in
    let command = c.command.result.now in
    let at = subst (λ (s : Contents). slice_get s.commands (job.number - 1) ≡ Some command) c.script.ensures c.command.ensures.command in
    let is = command_here script job command c.requires.0.0 at in
    has_worked script job command c.in_ok-done.done c.args.share.now c.glance.new.share is (ready_command script job command c.requires.0.0 is) c.in_ok-done.ensures c.requires
    (c.glance.ensures.same ∙ c.count.ensures ∙ ap (λ k. counted k c.args.share.now) c.kind_of.ensures)
