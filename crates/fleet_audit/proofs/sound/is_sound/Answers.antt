use Rattle.std.proofs.Common.{◌&&◌, sym, ap, ◌∙◌}
use Rattle.std.specs.List.{list_all, AllByRecursion}
use Rattle.photo_device.specs.Own.{IsKnownBy}
use Rattle.fleet_audit.specs.Audited.{is_wanted}
use Rattle.fleet_audit.proofs.Shown.{IsAbove, each_from_index, each_of, sound_alike}
use Rattle.fleet_audit.proofs.sound.is_sound.Goals as goal

pub returns-then-stores_wanted : goal.returns-then-stores_wanted
returns-then-stores_wanted c = λ m shows.
    let log = c.args.log.now in
    let d = c.args.device.now in
    let above : AllByRecursion IsAbove log = each_from_index IsAbove log c.by_picture-versions.ensures.above in
    let stored : AllByRecursion IsAbove d.store = each_of (IsKnownBy d.knowledge) IsAbove d.store (λ h k. k.above) c.store-store.ensures.device.store_known in
    c.stores_nothing_else.ensures
    ∙ ap (λ b. b && list_all (is_wanted log d) d.store) (sym c.if-stores_wanted.true ∙ c.stores_wanted.ensures)
    ∙ sound_alike log above d m shows stored

pub returns-else-stores_wanted : goal.returns-else-stores_wanted
returns-else-stores_wanted c = λ m shows.
    let log = c.args.log.now in
    let d = c.args.device.now in
    let above : AllByRecursion IsAbove log = each_from_index IsAbove log c.by_picture-versions.ensures.above in
    let stored : AllByRecursion IsAbove d.store = each_of (IsKnownBy d.knowledge) IsAbove d.store (λ h k. k.above) c.store-store.ensures.device.store_known in
    c.if-stores_wanted.false
    ∙ ap (λ b. b && list_all (is_wanted log d) d.store) (sym c.if-stores_wanted.false ∙ c.stores_wanted.ensures)
    ∙ sound_alike log above d m shows stored
