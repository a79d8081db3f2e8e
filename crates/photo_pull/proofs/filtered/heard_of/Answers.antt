use Rattle.std.proofs.Common.{◌||◌, rules}
use Rattle.std.proofs.lemmas.Fn.{filter_same}
use Rattle.photo_device.specs.declared.held.Held.{Held}
use Rattle.photo_pull.specs.OnHeld.{is_selected, selection_below}
use Rattle.photo_pull.proofs.filtered.heard_of.Goals as goal

pub returns : goal.returns
returns c =
    filter_same _ (λ (w : Held). is_selected c.args.wanted.now w || selection_below c.args.dropped.now w) _ (λ x b f k. search rules) _ _ c.retain.ensures.filtered
