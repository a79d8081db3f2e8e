use Rattle.std.proofs.Common.{rules, ◌<◌, ◌++◌, ◌∷◌, [], ap, ◌∙◌, length}
use Rattle.std.proofs.lemmas.List.{get_or_default}
use Rattle.fleet_workers.proofs.Dealt.{put_in_row}
use Rattle.fleet_workers.proofs.deal.add_job.Goals as goal

pub returns-clause-jobs : goal.returns-clause-jobs
returns-clause-jobs c =
    let old = c.args.groups.now.items in
    let new = c.push.new.self in
    let below : c.args.place < length old = search rules in
    let was = c.index_mut.ensures.value ∙ get_or_default old c.args.place c.index_mut.result.now new below in
    let is = c.in_ok-push.ensures.items ∙ ap (λ v. v.items ++ c.args.job ∷ []) was in
    put_in_row old c.args.place new c.args.job below is
