use Rattle.std.proofs.Common.{◌≡◌, ◌∙◌, List, ℕ, ◌++◌, ◌≤◌, length, map, take, drop, get_or, subst, sym, ap, arith}
use Rattle.std.specs.Prelude.{replicate, IsPermutation}
use Rattle.std.specs.List.{AllZip, AllByRecursion}
use Rattle.photo_device.specs.Held.{entries_of}
use Rattle.photo_model.specs.Device.{ModelDevice}
use Rattle.photo_device.specs.Device.{Kept, Shows}
use Rattle.fleet_model.specs.Contents.{IsScript}
use Rattle.photo_script.specs.declared.report.Report.{Report}
use Rattle.photo_script.specs.declared.report.Report.TheVariants.{NotHeld}
use Rattle.photo_script.specs.Reports.{Tells, answer_of}
use Rattle.fleet_model.specs.Runs.{run, reports_of}
use Rattle.fleet_model.specs.Tallies.{max_moved}
use Rattle.photo_script.specs.Tallies.{moved_by}
use Rattle.photo_batcher.specs.Related.{IsNumber}
use Rattle.photo_batcher.proofs.Checked.{taken_more, taken_all}
use Rattle.fleet_model.specs.Steps.{effect_on}
use Rattle.fleet_steps.specs.Between.{AreReady, HaveRoom, HaveRun}
use Rattle.fleet_steps.proofs.Between.{written_back}
use Rattle.fleet_steps.specs.Running.{RunsTo, HasRun}
use Rattle.fleet_steps.proofs.InOrder.{runs_none, runs_more, runs_ready, runs_room, runs_all, order_number, few_in, long_slots}
use Rattle.fleet_steps.proofs.FewMoved.{pulls_move_few, small_enough}
use Rattle.fleet_model.proofs.SoundRuns.{stays_sound_and_kept}
use Rattle.fleet_steps.proofs.ordered.run_ordered.Goals as goal

pub loop-number-init : goal.loop-number-init
loop-number-init c =
    let script = c.args.script.now in
    runs_none script c.in_ok-devices.devices.items c.in_ok-reports.reports.items c.new-issued.result.items c.in_ok-devices.ensures.shown c.in_ok-devices.ensures.long
    (c.in_ok-reports.ensures ∙ ap (λ (n : ℕ). replicate n NotHeld) c.commands.ensures.count) c.new-issued.ensures.items

pub run_and_log-requires-clause-ready : goal.run_and_log-requires-clause-ready
run_and_log-requires-clause-ready c =
    let script = c.args.script.now in
    let order = c.args.order.now in
    let l = c.loop-number in
    let opened = c.in_ok-devices.ensures in
    let is : IsScript script = record { devices = opened.few; filtered = opened.filtered; commands = omega (arith, c.commands.ensures.at_most, c.commands.ensures.count); known = c.commands.ensures.known; in_range = c.commands.ensures.in_range } in
    subst AreReady (sym c.as_mut_slice.ensures.value) (runs_ready script (take l.number-index order) l.devices.items l.reports.items l.issued.items is (few_in script order l.number-index is c.requires c.loop-number-test.true) l.invariant)

pub run_and_log-requires-clause-room : goal.run_and_log-requires-clause-room
run_and_log-requires-clause-room c =
    let script = c.args.script.now in
    let order = c.args.order.now in
    let l = c.loop-number in
    let opened = c.in_ok-devices.ensures in
    let is : IsScript script = record { devices = opened.few; filtered = opened.filtered; commands = omega (arith, c.commands.ensures.at_most, c.commands.ensures.count); known = c.commands.ensures.known; in_range = c.commands.ensures.in_range } in
    subst HaveRoom (sym c.as_mut_slice.ensures.value) (runs_room script (take l.number-index order) l.devices.items l.reports.items l.issued.items (few_in script order l.number-index is c.requires c.loop-number-test.true) l.invariant)

pub index_mut-requires : goal.index_mut-requires
index_mut-requires c =
    let script = c.args.script.now in
    let order = c.args.order.now in
    let l = c.loop-number in
    let number : IsNumber script (get_or order l.number-index 0) = order_number script order l.number-index c.requires c.loop-number-test.true in
    let above = number.0 in
    let within = number.1 in
    let long : length l.reports.items ≡ length script.commands = long_slots script (take l.number-index order) l.devices.items l.reports.items l.issued.items l.invariant in
    omega (arith, l.reports.ok)

pub loop-number-preserved : goal.loop-number-preserved
loop-number-preserved c =
    let script = c.args.script.now in
    let order = c.args.order.now in
    let l = c.loop-number in
    let i = l.number-index in
    let items = l.devices.items in
    let new = c.run_and_log.new.devices in
    let command = c.command-command.result.now in
    let given = c.as_mut_slice.ensures in
    let number : IsNumber script (get_or order i 0) = order_number script order i c.requires c.loop-number-test.true in
    let same : length new ≡ length items = c.run_and_log.auto.devices ∙ ap length given.value in
    let whole : take l.devices.len (new ++ drop (length new) items) ≡ new = written_back new items l.devices.len same (sym given.len ∙ ap length given.value) in
    let shows = subst (λ (d : List Kept). HaveRun command d new) given.value c.in_ok-report.ensures.devices in
    let tells = subst (λ (d : List Kept). (models : List ModelDevice) → AllZip Shows d models → Tells (answer_of c.in_ok-report.report) (effect_on models command).report) given.value c.in_ok-report.ensures.report in
    let logs = subst (λ (d : List Kept). (models : List ModelDevice) → AllZip Shows d models → entries_of c.run_and_log.new.log.items ≡ entries_of l.issued.items ++ (effect_on models command).entries) given.value c.in_ok-report.ensures.log in
    rw (whole, taken_more order i c.loop-number-test.true)
    (runs_more script (take i order) (get_or order i 0) items new l.reports.items l.issued.items c.run_and_log.new.log.items command c.in_ok-report.report number.0 l.invariant c.command-command.ensures.command c.command-command.ensures.known shows tells logs)

pub totals_of-totals-requires-clause-few : goal.totals_of-totals-requires-clause-few
totals_of-totals-requires-clause-few c =
    let script = c.args.script.now in
    let l = c.loop-number in
    let long : length l.reports.items ≡ length script.commands = long_slots script (take l.number-index c.args.order.now) l.devices.items l.reports.items l.issued.items l.invariant in
    let is : length c.as_slice.result.now ≡ length l.reports.items = ap length c.as_slice.ensures.value in
    omega (arith, c.commands.ensures.at_most, c.commands.ensures.count)

pub totals_of-totals-requires-clause-each : goal.totals_of-totals-requires-clause-each
totals_of-totals-requires-clause-each c =
    let script = c.args.script.now in
    let order = c.args.order.now in
    let l = c.loop-number in
    let opened = c.in_ok-devices.ensures in
    let is : IsScript script = record { devices = opened.few; filtered = opened.filtered; commands = omega (arith, c.commands.ensures.at_most, c.commands.ensures.count); known = c.commands.ensures.known; in_range = c.commands.ensures.in_range } in
    let to : RunsTo script order l.devices.items l.reports.items l.issued.items = subst (λ (front : List ℕ). RunsTo script front l.devices.items l.reports.items l.issued.items) (taken_all order l.number-index c.loop-number-test.false) l.invariant in
    let r : HasRun script l.devices.items l.reports.items l.issued.items = runs_all script order l.devices.items l.reports.items l.issued.items is.commands to c.requires (c.lawful_orders_are_the_run.ensures script order c.requires) in
    subst (λ (x : List Report). AllByRecursion (λ a. moved_by a ≤ max_moved) (map answer_of x)) (sym c.as_slice.ensures.value) (small_enough _ (pulls_move_few script (map answer_of l.reports.items) is r.right))

pub returns-clause-log : goal.returns-clause-log
returns-clause-log c =
    let order = c.args.order.now in
    let l = c.loop-number in
    ap entries_of c.in_ok-log.ensures ∙ (subst (λ (front : List ℕ). RunsTo c.args.script.now front l.devices.items l.reports.items l.issued.items) (taken_all order l.number-index c.loop-number-test.false) l.invariant).logged

pub returns-clause-ok : goal.returns-clause-ok
returns-clause-ok c =
    let script = c.args.script.now in
    let order = c.args.order.now in
    let l = c.loop-number in
    let opened = c.in_ok-devices.ensures in
    let is : IsScript script = record { devices = opened.few; filtered = opened.filtered; commands = omega (arith, c.commands.ensures.at_most, c.commands.ensures.count); known = c.commands.ensures.known; in_range = c.commands.ensures.in_range } in
    let to : RunsTo script order l.devices.items l.reports.items l.issued.items = subst (λ (front : List ℕ). RunsTo script front l.devices.items l.reports.items l.issued.items) (taken_all order l.number-index c.loop-number-test.false) l.invariant in
    let r : HasRun script l.devices.items l.reports.items l.issued.items = runs_all script order l.devices.items l.reports.items l.issued.items is.commands to c.requires (c.lawful_orders_are_the_run.ensures script order c.requires) in
    let each : length l.reports.items ≡ length script.commands = long_slots script order l.devices.items l.reports.items l.issued.items to in
    record {
      devices = r.devices_are;
      reports = r.right;
      each = each;
      about = r.about;
      few = omega (arith, c.commands.ensures.at_most, c.commands.ensures.count);
      totals = c.totals_of-totals.ensures (run script) (subst (λ (x : List Report). AllZip Tells (map answer_of x) (reports_of (run script))) (sym c.as_slice.ensures.value) r.right);
      log = subst (IsPermutation (run script).log) (sym (ap entries_of c.in_ok-log.ensures)) r.logged;
      sound = λ n. stays_sound_and_kept script n is;
    }
