use Rattle.std.specs.Prelude.{◌≡◌, length}
use Rattle.std.specs.List.{AllByRecursion}
use Rattle.std.specs.Vec.Iter.{into_iter_items}
use Rattle.fleet_workers.specs.Batch.{IsOfCommand, all_slots, all_reports, all_logged}
use Rattle.fleet_workers.proofs.batch.take_back.Given as goal

abbrev pub invariant-loop-it : goal.invariant-loop-it
invariant-loop-it l =
    let rest = into_iter_items l.it-iterator in record {
      numbers : AllByRecursion (IsOfCommand l.script) rest;
      names : length l.slots.devices.items ≡ length l.script.names;
      commands : length l.slots.reports.items ≡ length l.script.commands;
      devices : all_slots l.script rest l.slots.devices.items ≡ all_slots l.script l.fn.done.items l.fn.slots.devices.items;
      reports : all_reports rest l.slots.reports.items ≡ all_reports l.fn.done.items l.fn.slots.reports.items;
      log : all_logged rest l.slots.log.items ≡ all_logged l.fn.done.items l.fn.slots.log.items;
    }
