use Rattle.std.proofs.Common.{◌≡◌, ◌∙◌, ◌-◌, ap, sym, subst}
use Rattle.std.specs.Prelude.{IfOk}
use Rattle.fleet_model.specs.Contents.{Contents}
use Rattle.fleet_model.specs.declared.tally.Tally.{Tally}
use Rattle.work_ledger.specs.Stakes.{stake, less, nothing_done}
use Rattle.fleet_workers.specs.Counting.{tally_at}
use Rattle.fleet_workers.specs.Jobs.{AreReadyJobs, numbers_of}
use Rattle.fleet_workers.proofs.Batched.{always}
use Rattle.fleet_workers.proofs.crew.start.Goals as goal

pub spawn-requires-clause-ready : goal.spawn-requires-clause-ready
spawn-requires-clause-ready g c κs within = subst (λ (s : Contents). AreReadyJobs s c.args.jobs.items) (sym c.in_ok-shared.ensures) c.requires.start.0

pub spawn-requires-clause-share : goal.spawn-requires-clause-share
spawn-requires-clause-share g c κs within =
    c.split-share.ensures.new ∙ ap (λ (x : Tally). stake 1 x nothing_done) (c.tally.ensures ∙ ap (λ (s : Contents). tally_at s (numbers_of c.args.jobs.items)) c.script.ensures)

pub returns-clause-ok : goal.returns-clause-ok
returns-clause-ok g c =
    subst (λ (s : Contents). IfOk c.spawn.result (λ r. (r.handle.promise.script.value ≡ s) × (r.handle.promise.jobs.value ≡ c.args.jobs))) c.in_ok-shared.ensures c.spawn.ensures.ok

pub returns-clause-share : goal.returns-clause-share
returns-clause-share g c =
    let share = c.args.share.now in
    let of = c.tally.ensures ∙ ap (λ (s : Contents). tally_at s (numbers_of c.args.jobs.items)) (c.script.ensures ∙ c.in_ok-shared.ensures) in
    always c.spawn.result _ (c.split-share.ensures.rest ∙ ap (λ (x : Tally). stake (share.parts - 1) (less share.left x) share.done) of)
