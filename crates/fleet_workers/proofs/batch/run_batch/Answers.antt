use Rattle.std.proofs.Common.{◌≡◌, ◌∙◌, ap, sym, subst, length, arith}
use Rattle.std.specs.Arc.{arc_value}
use Rattle.std.specs.List.{AllByRecursion}
use Rattle.fleet_model.specs.declared.tally.Tally.{Tally}
use Rattle.fleet_model.specs.Contents.{Contents}
use Rattle.photo_batcher.specs.Related.{IsNumber}
use Rattle.work_ledger.specs.Stakes.{Stake, Within}
use Rattle.fleet_workers.specs.Batch.{AreApart, IsOfCommand, all_slots}
use Rattle.fleet_workers.specs.Dealing.{IsDealt}
use Rattle.fleet_workers.specs.Jobs.{jobs_of, numbers_of}
use Rattle.fleet_workers.proofs.Batched.{of_commands}
use Rattle.fleet_workers.proofs.Counting.{tally-permuted}
use Rattle.fleet_workers.proofs.Progressed.{long_here, long_reports, ready_groups, after_batch}
use Rattle.fleet_workers.proofs.batch.run_batch.Goals as goal

pub deal-requires-clause-numbers : goal.deal-requires-clause-numbers
deal-requires-clause-numbers g c = subst (λ (s : Contents). AllByRecursion (IsNumber s) c.args.members.now) (sym c.script.ensures) c.requires.numbers

pub deal-requires-clause-apart : goal.deal-requires-clause-apart
deal-requires-clause-apart g c = subst (λ (s : Contents). AreApart s c.args.members.now) (sym c.script.ensures) c.requires.apart

pub deal-requires-clause-long : goal.deal-requires-clause-long
deal-requires-clause-long g c =
    let script = arc_value c.args.shared.now.script in
    let state = c.requires.state in
    long_here script state.0 c.args.slots c.args.share.now state.2 ∙ ap (λ (s : Contents). length s.names) (sym c.script.ensures)

pub deal-requires-clause-here : goal.deal-requires-clause-here
deal-requires-clause-here g c = let state = c.requires.state in (state.2.devices, state.2.here)

pub deal-requires-clause-count : goal.deal-requires-clause-count
deal-requires-clause-count g c = λ some. let one = c.count.ensures.range.0 in let is = c.min-count.ensures in omega (arith, some, one, is)

pub run_crew-requires-clause-start : goal.run_crew-requires-clause-start
run_crew-requires-clause-start g c κs within =
    let script = arc_value c.args.shared.now.script in
    let state = c.requires.state in
    let dealt = subst (λ (s : Contents). IsDealt s c.args.members.now state.2.devices c.min-count.result c.in_ok-groups.groups.items c.deal.new.slots.items) c.script.ensures (c.in_ok-groups.ensures state.2.devices state.2.here) in (
      ready_groups script state.0 c.args.members.now c.args.slots c.deal.new.slots.items c.args.share.now c.min-count.result c.in_ok-groups.groups.items c.requires.script state.1 state.2 dealt,
      subst (λ (t : Tally). Within t c.args.share.now.left) (sym (tally-permuted script c.args.members.now (numbers_of (jobs_of c.in_ok-groups.groups.items)) dealt.all)) c.requires.left,
    )

pub run_crew-requires-clause-parts : goal.run_crew-requires-clause-parts
run_crew-requires-clause-parts g c κs within =
    let state = c.requires.state in
    let dealt = c.in_ok-groups.ensures state.2.devices state.2.here in
    let many : length c.in_ok-groups.groups.items ≡ _ = dealt.many in
    let is = c.min-count.ensures in
    let few = c.count.ensures.range.1 in
    let parts = ap (λ (s : Stake). s.parts) state.2.counted in
    omega (arith, many, is, few, parts)

pub take_back-requires-clause-numbers : goal.take_back-requires-clause-numbers
take_back-requires-clause-numbers g c =
    let script = arc_value c.args.shared.now.script in
    let state = c.requires.state in
    let dealt = subst (λ (s : Contents). IsDealt s c.args.members.now state.2.devices c.min-count.result c.in_ok-groups.groups.items c.deal.new.slots.items) c.script.ensures (c.in_ok-groups.ensures state.2.devices state.2.here) in
    let ready = ready_groups script state.0 c.args.members.now c.args.slots c.deal.new.slots.items c.args.share.now c.min-count.result c.in_ok-groups.groups.items c.requires.script state.1 state.2 dealt in
    subst (λ (s : Contents). AllByRecursion (IsOfCommand s) c.in_ok-done.done.items) (sym c.script-2.ensures) (of_commands script (jobs_of c.in_ok-groups.groups.items) c.in_ok-done.done.items ready c.in_ok-done.ensures.ok.0)

pub take_back-requires-clause-devices : goal.take_back-requires-clause-devices
take_back-requires-clause-devices g c =
    let script = arc_value c.args.shared.now.script in
    let state = c.requires.state in
    let dealt = c.in_ok-groups.ensures state.2.devices state.2.here in
    dealt.out.long ∙ state.2.to.long ∙ ap (λ (s : Contents). length s.names) (sym c.script-2.ensures)

pub take_back-requires-clause-reports : goal.take_back-requires-clause-reports
take_back-requires-clause-reports g c =
    let script = arc_value c.args.shared.now.script in
    let state = c.requires.state in
    long_reports script state.0 c.args.slots c.args.share.now state.2 ∙ ap (λ (s : Contents). length s.commands) (sym c.script-2.ensures)

pub returns-clause-ok : goal.returns-clause-ok
returns-clause-ok g c = λ front few run.
    let script = arc_value c.args.shared.now.script in
    let dealt = subst (λ (s : Contents). IsDealt s c.args.members.now run.devices c.min-count.result c.in_ok-groups.groups.items c.deal.new.slots.items) c.script.ensures (c.in_ok-groups.ensures run.devices run.here) in
    let back = c.in_ok-take_back.ensures in
    after_batch script front c.args.members.now c.args.slots c.take_back.new.slots c.deal.new.slots.items c.args.share.now c.run_crew.new.share c.min-count.result c.in_ok-groups.groups.items c.in_ok-done.done.items c.requires.script few c.requires.apart run dealt c.in_ok-done.ensures.ok.0
    (back.devices ∙ ap (λ (s : Contents). all_slots s c.in_ok-done.done.items c.deal.new.slots.items) c.script-2.ensures) back.reports back.log c.in_ok-done.ensures.ok.1
