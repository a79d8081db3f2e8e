use Rattle.std.proofs.Common.{[], ◌∷◌, ap, ◌∙◌}
use Rattle.std.proofs.lemmas.Fn.{filter_same}
use Rattle.block_list.proofs.kept.retain_block.Goals as goal

pub returns-clause-items : goal.returns-clause-items
returns-clause-items g c = λ p h.
    filter_same _ p _
    (λ x b f' k.
    let w = (g.met.P.FnMut.1.post_iff _ _ _).0 k.called.met.0 in
    ((h.at ((k.shown, tt) ∷ []) _ _ w.1).0 ∙ ap p k.shows, k.called.met.1)) _ _ c.retain.ensures.filtered
