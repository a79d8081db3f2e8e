use Rattle.std.proofs.Common.{◌∷◌, [], ◌∙◌, ap, sym}
use Rattle.std.specs.Option.{option_copied}
use Rattle.block_list.specs.Blocks.{passes}
use Rattle.block_list.proofs.search.passes.Goals as goal

pub returns-in-Some : goal.returns-in-Some
returns-in-Some g c = λ p h.
    let called = (g.met.P.FnMut.1.post_iff _ _ _).0 c.pred.ensures in
    (h.at ((c.in-Some.item, tt) ∷ []) _ _ called.1).0 ∙ ap (λ o. passes p (option_copied o)) (sym c.in-Some.is)
