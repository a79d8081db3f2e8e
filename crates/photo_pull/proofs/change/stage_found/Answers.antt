use Rattle.std.proofs.Common.{ap, ◌∙◌, subst}
use Rattle.std.specs.Prelude.{filter}
use Rattle.photo_device.specs.Staging.{HasStaged, gained, versions_in}
use Rattle.photo_pull.specs.OnHeld.{is_selected}
use Rattle.photo_pull.proofs.Asked.{may_stage, staged_found, gained_found}
use Rattle.photo_pull.proofs.change.stage_found.Goals as goal

pub stage-requires : goal.stage-requires
stage-requires c =
    let h = c.requires.delta in
    let takes = c.new-takes.ensures ∙ c.taken_of.ensures ∙ ap (λ tree. filter (is_selected tree) c.args.delta.heard.items) c.filter.ensures in
    let gains = gained_found c.args.target.now c.args.source.now c.args.delta h c.in_ok-told.told (gained c.gain_of-gain.result) c.in_ok-told.ensures.learned c.in_ok-told.ensures.told c.gain_of-gain.ensures.told c.gain_of-gain.ensures.all in
    record { may = may_stage c.args.target.now c.args.source.now c.args.delta h c.new-takes.result takes _ gains }

pub returns-in-Ok-clause-staged : goal.returns-in-Ok-clause-staged
returns-in-Ok-clause-staged c =
    let h = c.requires.delta in
    let takes = c.new-takes.ensures ∙ c.taken_of.ensures ∙ ap (λ tree. filter (is_selected tree) c.args.delta.heard.items) c.filter.ensures in
    let gains = gained_found c.args.target.now c.args.source.now c.args.delta h c.in_ok-told.told (gained c.gain_of-gain.result) c.in_ok-told.ensures.learned c.in_ok-told.ensures.told c.gain_of-gain.ensures.told c.gain_of-gain.ensures.all in
    let staged = subst (λ n. HasStaged (versions_in c.args.delta.dropped) c.new-takes.result (gained c.gain_of-gain.result) n c.args.target.now c.stage.new.self) (c.len.ensures ∙ c.args.delta.handed.ok.0) c.in-Ok.ensures.staged in
    staged_found c.args.target.now c.args.source.now c.args.delta h c.new-takes.result takes _ gains c.stage.new.self staged
