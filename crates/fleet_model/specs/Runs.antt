-- What commands do to devices, and what a run gives.
use Rattle.std.specs.Prelude.{ℕ, zero, suc, ◌+◌, ◌-◌, false, List, [], ◌∷◌, ◌++◌, length, replicate, slice_index_or, slice_set, fold, if◌then◌else◌, Option, Some, None}
use Rattle.std.specs.List.{flat_map}
use Rattle.std.specs.Option.{option_map, option_to_list}
use Rattle.photo_record.specs.declared.record.Record.{Record}
use Rattle.photo_record.specs.declared.record.Record.TheVariants.{Removed}
use Rattle.photo_filter_text.specs.Tree.{Tree, All}
use Rattle.photo_filter_rules.specs.Covers.{covers}
use Rattle.photo_version.specs.Author.{author}
use Rattle.photo_model.specs.Entry.{Entry}
use Rattle.photo_model.specs.Device.{ModelDevice, known, opening, made, new_entry, next_version, new_place, is_held, narrowed, moved}
use Rattle.photo_model.specs.Refiltered.{refiltered}
use Rattle.photo_model.specs.Conflicts.{conflicts_of}
use Rattle.photo_model.specs.Pull.{pulled, handed_over, counts_of}
use Rattle.photo_model.specs.declared.counts.PullCounts.{PullCounts}
use Rattle.fleet_model.specs.Contents.{Contents, command_of, devices_of}
use Rattle.fleet_model.specs.Answers.{Made, NotHeld, NotNarrower, Narrowed, Refiltered, Pulled, Preview, Listed, Conflicts, Knows, ModelReport, Exactly, KnowledgeIs}
use Rattle.fleet_model.specs.declared.command.Command.{Command}
use Rattle.fleet_model.specs.declared.command.Command.TheVariants as command

-- what a command does: its devices afterwards, its report, and the entries that it adds to the log
pub record Effect : Type 0 where
  pub first : ModelDevice
  pub second : Option ModelDevice
  pub report : ModelReport
  pub entries : List Entry

-- the first device makes a version of the picture
abbrev pub making : ModelDevice → Option ModelDevice → ℕ → Record → Effect
making d other picture content = record {
  first = made d picture content;
  second = other;
  report = Exactly (Made (next_version d) (new_place d content));
  entries = new_entry d picture content ∷ [];
}

-- no device changes; there is only a report
abbrev pub telling : ModelDevice → Option ModelDevice → ModelReport → Effect
telling d other report = record { first = d; second = other; report = report; entries = [] }

-- the first device makes a version if it holds one of the picture, else nothing changes
abbrev pub changing : ModelDevice → Option ModelDevice → ℕ → Record → Effect
changing d other picture content = if is_held d picture then making d other picture content else telling d other (Exactly NotHeld)

-- the counts of a pull that moves nothing
abbrev pub nothing_moved : PullCounts
nothing_moved = record { taken = 0; handed = 0; notices = 0; dropped = 0; learned = false }

-- the first device pulls from the second; a pull always has a second device
abbrev pub pulling : ModelDevice → Option ModelDevice → Effect
pulling d None = telling d None (Exactly (Pulled nothing_moved))
pulling d (Some s) = record {
  first = pulled d s;
  second = Some (handed_over d s);
  report = Exactly (Pulled (counts_of d s));
  entries = [];
}

-- the first device takes a narrower tree, which its own has to cover; else nothing changes
abbrev pub narrowing : ModelDevice → Option ModelDevice → Tree → Effect
narrowing d other tree =
    if covers d.tree tree then record {
      first = narrowed tree d;
      second = other;
      report = Exactly (Narrowed (moved tree d));
      entries = [];
    } else telling d other (Exactly NotNarrower)

-- the first device takes any tree and begins its next epoch
abbrev pub refiltering : ModelDevice → Option ModelDevice → Tree → Effect
refiltering d other tree = record {
  first = refiltered tree d;
  second = other;
  report = Exactly (Refiltered (length (refiltered tree d).store) (length (refiltered tree d).out));
  entries = [];
}

-- what a pull of the first device from the second would give; a preview always has a second device
abbrev pub previewing : ModelDevice → Option ModelDevice → Effect
previewing d None = telling d None (Exactly (Preview nothing_moved))
previewing d (Some s) = telling d (Some s) (Exactly (Preview (counts_of d s)))

abbrev pub effect : Command → ModelDevice → Option ModelDevice → Effect
effect (command.New n picture content) d other = making d other picture content
effect (command.Edit n picture content) d other = changing d other picture content
effect (command.Remove n picture) d other = changing d other picture Removed
effect (command.Pull target source) d other = pulling d other
effect (command.Narrow n tree) d other = narrowing d other tree
effect (command.Refilter n tree) d other = refiltering d other tree
effect (command.Preview target source) d other = previewing d other
effect (command.List n) d other = telling d other (Exactly (Listed n d.store d.out))
effect (command.Conflicts n) d other = telling d other (Exactly (Conflicts n (conflicts_of d)))
effect (command.Knowledge n) d other = telling d other (KnowledgeIs n (known d))
effect (command.Knows n picture v) d other = telling d other (Exactly (Knows (known d picture v)))

-- the devices in order of declaration; a slot for each command's report, by its number; and the log of all versions made,
-- oldest first
pub record Fleet : Type 0 where
  pub devices : List ModelDevice
  pub reports : List (Option ModelReport)
  pub log : List Entry

-- the device at that place, in order of declaration
abbrev pub device_at : List ModelDevice → ℕ → ModelDevice
device_at devices n = slice_index_or devices n (opening (author n) All)

-- the list with the second device replaced, if there is one
abbrev pub with_second : Option ℕ → Option ModelDevice → List ModelDevice → List ModelDevice
with_second (Some place) (Some d) devices = slice_set devices place d
with_second (Some place) None devices = devices
with_second None second devices = devices

-- the fleet after that command ran on its devices
abbrev pub after_command : Fleet → ℕ → Command → Fleet
after_command fleet number c =
    let places = devices_of c in
    let done = effect c (device_at fleet.devices places.0) (option_map (device_at fleet.devices) places.1) in
    record {
      devices = with_second places.1 done.second (slice_set fleet.devices places.0 done.first);
      reports = slice_set fleet.reports (number - 1) (Some done.report);
      log = fleet.log ++ done.entries;
    }

-- the fleet after the command of that number, unchanged if there is none
abbrev pub step : Contents → Fleet → ℕ → Fleet
step script fleet number = by_cases (command_of script number)
  where
    by_cases : Option Command → Fleet
    by_cases None = fleet
    by_cases (Some c) = after_command fleet number c

-- a new device for each filter, numbered from n
abbrev pub opening_from : ℕ → List Tree → List ModelDevice
opening_from n [] = []
opening_from n (filter ∷ filters) = opening (author n) filter ∷ opening_from (n + 1) filters

abbrev pub opening_fleet : Contents → Fleet
opening_fleet script = record {
  devices = opening_from 0 script.filters;
  reports = replicate (length script.commands) None;
  log = [];
}

-- the fleet after the commands of these numbers, in this order
abbrev pub run_in_order : Contents → List ℕ → Fleet
run_in_order script numbers = fold (step script) (opening_fleet script) numbers

-- the numbers from 1 to n
abbrev pub numbers_to : ℕ → List ℕ
numbers_to zero = []
numbers_to (suc n) = numbers_to n ++ suc n ∷ []

-- the fleet after all commands in order
abbrev pub run : Contents → Fleet
run script = run_in_order script (numbers_to (length script.commands))

-- the reports of the commands that ran, by number
abbrev pub reports_of : Fleet → List ModelReport
reports_of fleet = flat_map option_to_list fleet.reports
