use Rattle.std.proofs.Common.{◌∙◌, ap, rules}
use Rattle.std.specs.Prelude.{filter}
use Rattle.std.proofs.lemmas.Fn.{filter_same}
use Rattle.photo_filter_rules.specs.Matching.{matches}
use Rattle.photo_device.specs.declared.held.Held.{Held}
use Rattle.live_fleet.specs.Moving.{is_new_to}
use Rattle.live_fleet.proofs.questions.moving.taken_between.Goals as goal

pub returns : goal.returns
returns c =
    let tree = c.args.target.now.tree in
    filter_same _ (λ (h : Held). matches tree h.content) _ (λ x b f k. search rules) _ _ c.retain.ensures.filtered
    ∙ ap (filter (λ h. matches tree h.content)) (c.in_ok-taken.ensures.items ∙ ap (filter (is_new_to c.args.target.now)) c.store.ensures.value)
