use Rattle.std.proofs.Common.{rules}
use Rattle.std.proofs.lemmas.Fn.{filter_same}
use Rattle.photo_pull.specs.OnHeld.{is_selected}
use Rattle.photo_pull.proofs.filtered.taken_of.Goals as goal

pub returns : goal.returns
returns c = filter_same _ (is_selected c.args.wanted.now) _ (λ x b f k. search rules) _ _ c.retain.ensures.filtered
