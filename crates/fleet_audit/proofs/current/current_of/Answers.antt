use Rattle.std.proofs.Common.{sym, ap, ◌∙◌}
use Rattle.std.specs.Option.{option_copied}
use Rattle.std.proofs.lemmas.List.{take_rest, get_or_default}
use Rattle.photo_device.specs.declared.held.Held.{Held}
use Rattle.fleet_audit.proofs.Stretches.{last_current}
use Rattle.fleet_audit.proofs.current.current_of.Goals as goal

pub returns : goal.returns
returns c =
    let stretch = c.args.stretch.now in
    let first = c.index-stretch-0.result in
    let h = c.as_held.result.now in
    let count = c.outdated-count.result in
    take_rest stretch count
    ∙ last_current (option_copied c.args.viewer) c.args.log.now c.of_same-made.result.now stretch h.picture count c.requires.stretch
    (λ d. ap (λ (x : Held). x.picture) (get_or_default stretch 0 d first c.requires.some ∙ sym c.index-stretch-0.is ∙ sym c.as_held.ensures))
    c.of_same-made.ensures c.outdated-count.ensures.passed
