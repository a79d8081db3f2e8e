use Rattle.std.proofs.Common.{◌≡◌, ◌∙◌, [], ◌∷◌, ◌++◌, List, map, ap, sym, append_assoc, append-nil, arith}
use Rattle.std.specs.Prelude.{Option, Some}
use Rattle.std.proofs.lemmas.Grind.{common_steps}
use Rattle.std.specs.Vec.Iter.{into_iter_items}
use Rattle.photo_device.specs.Device.{Kept}
use Rattle.fleet_workers.proofs.fleet.slots_of.Goals as goal

pub loop-device-preserved : goal.loop-device-preserved
loop-device-preserved c =
    let rest = into_iter_items c.next.new.self in
    let next = c.in-Some.ensures.steps.0 in
    ap (λ (l : List (Option Kept)). l ++ map Some rest) (c.in_ok-push.ensures.items ∙ ap (λ (d : Kept). c.loop-device.slots.items ++ Some d ∷ []) c.in_ok-new.ensures) ∙ append_assoc c.loop-device.slots.items (Some c.in-Some.device ∷ []) (map Some rest)
    ∙ ap (λ (l : List Kept). c.loop-device.slots.items ++ map Some l) (sym next) ∙ c.loop-device.invariant

pub returns : goal.returns
returns c =
    let none : into_iter_items c.loop-device.device-iterator ≡ [] = grind (arith, common_steps) in
    sym (append-nil c.loop-device.slots.items) ∙ ap (λ (l : List Kept). c.loop-device.slots.items ++ map Some l) (sym none) ∙ c.loop-device.invariant
