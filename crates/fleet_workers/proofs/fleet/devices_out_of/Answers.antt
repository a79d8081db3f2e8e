use Rattle.std.proofs.Common.{◌≡◌, ◌∙◌, [], ◌∷◌, ◌++◌, List, map, ap, sym, subst, arith}
use Rattle.std.specs.Prelude.{Option, Some}
use Rattle.std.proofs.lemmas.Grind.{common_steps}
use Rattle.std.specs.Vec.Iter.{into_iter_items}
use Rattle.photo_device.specs.Device.{Kept}
use Rattle.fleet_workers.proofs.Opened.{IsLeft, left_some, left_more, left_none}
use Rattle.fleet_workers.proofs.fleet.devices_out_of.Goals as goal

pub loop-slot-init : goal.loop-slot-init
loop-slot-init c =
    let gives : into_iter_items c.into_iter-slot-iterator.result ≡ c.args.slots.items = grind (arith, common_steps) in
    (c.requires.0, gives ∙ c.requires.1, c.requires.1 ∙ ap (λ (l : List Kept). map Some (l ++ c.requires.0)) (sym c.new-all.ensures.items))

pub loop-slot-preserved : goal.loop-slot-preserved
loop-slot-preserved c =
    let rest = into_iter_items c.next.new.self in
    left_more c.args.slots.items c.loop-slot.all.items c.push.new.self.items c.in-Some-slot.parcel (into_iter_items c.loop-slot.slot-iterator) rest (c.in-Some.ensures.steps.0 ∙ ap (λ (s : Option Kept). s ∷ rest) c.in-Some-slot.is) (c.in_ok-push.ensures.items ∙ ap (λ (d : Kept). c.loop-slot.all.items ++ d ∷ []) c.open.ensures) c.loop-slot.invariant

pub unreachable-requires : goal.unreachable-requires
unreachable-requires c =
    let rest = into_iter_items c.next.new.self in
    left_some c.args.slots.items c.loop-slot.all.items rest
    (subst (IsLeft c.args.slots.items c.loop-slot.all.items) (c.in-Some.ensures.steps.0 ∙ ap (λ (s : Option Kept). s ∷ rest) c.in_default.is) c.loop-slot.invariant)

pub returns : goal.returns
returns c =
    let none : into_iter_items c.loop-slot.slot-iterator ≡ [] = grind (arith, common_steps) in
    left_none c.args.slots.items c.loop-slot.all.items (into_iter_items c.loop-slot.slot-iterator) none c.loop-slot.invariant
