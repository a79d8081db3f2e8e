use Rattle.std.proofs.Common.{List, refl, sym, subst}
use Rattle.std.specs.Prelude.{Option, IfSome, IsSome, slice_index_or}
use Rattle.photo_device.specs.Device.{Kept}
use Rattle.fleet_workers.specs.Batch.{IsTaken}
use Rattle.fleet_workers.proofs.Owned.{number_of}
use Rattle.fleet_workers.proofs.Dealt.{first_here, second_here, job_taken, slots_taken}
use Rattle.fleet_workers.proofs.deal.take_job.Goals as goal

pub take_device-first-requires-clause-here : goal.take_device-first-requires-clause-here
take_device-first-requires-clause-here c =
    let script = c.args.script.now in
    let n = c.args.number in
    let is = number_of script n c.command.result.now c.requires.number.0 c.command.ensures.command in
    first_here script n c.command.result.now c.places_of-place.result.0 c.args.slots.now.items is c.command.ensures.known c.requires.long c.places_of-place.ensures.first c.requires.here

pub take_second-second-requires-clause-here : goal.take_second-second-requires-clause-here
take_second-second-requires-clause-here c =
    let script = c.args.script.now in
    let n = c.args.number in
    let is = number_of script n c.command.result.now c.requires.number.0 c.command.ensures.command in
    subst (λ (s : List (Option Kept)). IfSome c.places_of-place.result.1 (λ k. (x : Option Kept) → IsSome (slice_index_or s k x))) (sym c.take_device-first.ensures.slots)
    (second_here script n c.command.result.now c.places_of-place.result.0 c.places_of-place.result.1 c.args.slots.now.items is c.command.ensures.known c.requires.long c.places_of-place.ensures.first c.places_of-place.ensures.second c.requires.here)

pub returns-clause-job : goal.returns-clause-job
returns-clause-job c = λ devices same here.
    let script = c.args.script.now in
    let n = c.args.number in
    let is = number_of script n c.command.result.now c.requires.number.0 c.command.ensures.command in
    let taken = subst (λ (s : List (Option Kept)). IsTaken c.places_of-place.result.1 s c.take_second-second.result) c.take_device-first.ensures.slots c.take_second-second.ensures.device in
    job_taken script n c.command.result.now c.args.slots.now.items devices c.places_of-place.result.0 c.places_of-place.result.1 _ is c.command.ensures.known c.requires.long same c.places_of-place.ensures.first c.places_of-place.ensures.second refl c.take_device-first.ensures.device taken here

pub returns-clause-slots : goal.returns-clause-slots
returns-clause-slots c =
    let script = c.args.script.now in
    let n = c.args.number in
    let is = number_of script n c.command.result.now c.requires.number.0 c.command.ensures.command in
    slots_taken script n c.command.result.now c.places_of-place.result.0 c.places_of-place.result.1 c.args.slots.now.items c.take_device-first.new.slots.items c.take_second-second.new.slots.items is c.places_of-place.ensures.first c.places_of-place.ensures.second c.take_device-first.ensures.slots c.take_second-second.ensures.slots
