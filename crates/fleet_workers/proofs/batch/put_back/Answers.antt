use Rattle.fleet_workers.proofs.Batched.{always, slots_are}
use Rattle.fleet_workers.proofs.batch.put_back.Goals as goal

pub returns-in-Some-clause-devices : goal.returns-in-Some-clause-devices
returns-in-Some-clause-devices c =
    always c.log_entry.result _ (slots_are c.args.script.now c.args.done c.command.result.now c.args.slots.now.devices.items c.set_device.new.devices.items c.set_second.new.devices.items _ _ c.requires.number.0 c.command.ensures.command c.places_of-place.ensures.first c.places_of-place.ensures.second c.set_device.ensures c.set_second.ensures)
