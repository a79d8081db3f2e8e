-- Worked examples of fleets that are given commands by hand.
use Rattle.std.specs.Prelude.{◌≡◌, ℕ, true, false, pos, List, [], ◌∷◌, map, Some, None}
use Rattle.std.specs.List.{list_all}
use Rattle.photo_record.specs.declared.record.Record.{Record}
use Rattle.photo_record.specs.declared.record.Record.TheVariants.{Picture}
use Rattle.photo_filter_text.specs.declared.tree.Cmp.TheVariants.{AtLeast}
use Rattle.photo_filter_text.specs.Tree.{All, Rate}
use Rattle.photo_version.specs.Author.{author}
use Rattle.photo_version.specs.Version.{Version, version}
use Rattle.photo_device.specs.declared.held.Held.{Held}
use Rattle.photo_model.specs.declared.place.Place.TheVariants.{Store, Out}
use Rattle.photo_model.specs.Conflicts.{conflicts_of}
use Rattle.photo_device.specs.Device.{Kept}
use Rattle.photo_model.specs.declared.counts.PullCounts.{PullCounts}
use Rattle.fleet_model.specs.declared.command.Command.{Command}
use Rattle.fleet_model.specs.declared.command.Command.TheVariants as command
use Rattle.fleet_model.specs.Answers.{Made, Pulled, Exactly}
use Rattle.fleet_model.specs.Runs.{device_at, after_command, reports_of}
use Rattle.fleet_model.specs.Sound.{is_sound, is_kept}
use Rattle.fleet_model.specs.Contents.{contents}
use Rattle.live_fleet.specs.Answers.{change_answer, narrow_answer}
use Rattle.live_fleet.specs.Fleets.{KeptFleet, ModelFleet, CameAbout, after_commands, with_device}
use Rattle.live_fleet.specs.Faults.{IsDueTo, IsDueToNumber}
use Rattle.live_fleet.specs.declared.fault.FleetFault.{FleetFault}
use Rattle.live_fleet.specs.declared.fault.FleetFault.TheVariants.{NoDevice, NoCommand, Full}

abbrev pub rated : ℕ → Record
rated rating = Picture rating (pos 19_844) []

-- the version with that number of the device at that place
abbrev pub nth : ℕ → ℕ → Version
nth place number = version (author place) number

-- the counts of a pull that takes one version from a device that keeps everything
abbrev pub one_taken : PullCounts
one_taken = record { taken = 1; handed = 0; notices = 0; dropped = 0; learned = true }

-- two devices keep everything: the first makes a picture, the second pulls it, both edit it, and the first pulls again
abbrev pub both_edit : List Command
both_edit = command.New 0 7 (rated 3) ∷ command.Pull 1 0 ∷ command.Edit 0 7 (rated 4) ∷ command.Edit 1 7 (rated 4) ∷ command.Pull 0 1 ∷ []

abbrev pub edited : ModelFleet
edited = after_commands (All ∷ All ∷ []) both_edit

-- In the end the first device holds both edits. Each was made with the first version and without the other edit, and each is in
-- the log.
pub record EditedOnBoth : Type 0 where
  pub reports : reports_of edited
      ≡ Exactly (Made (nth 0 1) Store) ∷ Exactly (Pulled one_taken) ∷ Exactly (change_answer (Some (nth 0 2, Store)))
      ∷ Exactly (change_answer (Some (nth 1 1, Store))) ∷ Exactly (Pulled one_taken) ∷ []
  pub log : map (λ e. e.version) edited.log ≡ nth 0 1 ∷ nth 0 2 ∷ nth 1 1 ∷ []
  pub made_with : map (λ e. e.history (nth 0 1)) edited.log ≡ false ∷ true ∷ true ∷ []
  pub made_without : map (λ e. e.history (nth 0 2)) edited.log ≡ false ∷ false ∷ false ∷ []
  pub conflict : conflicts_of (device_at edited.devices 0) ≡ record { picture = 7; versions = nth 0 2 ∷ nth 1 1 ∷ [] } ∷ []
  pub none : conflicts_of (device_at edited.devices 1) ≡ []
  pub sound : list_all (is_sound edited.log) edited.devices ≡ true
  pub kept : is_kept edited.log edited.devices ≡ true

-- One device removes a picture that it doesn't hold, makes it, gets a narrower filter, and then one that isn't narrower. It
-- makes the picture again and removes it.
abbrev pub changes : List Command
changes =
    command.Remove 0 7 ∷ command.New 0 7 (rated 3) ∷ command.Narrow 0 (Rate AtLeast 4) ∷ command.Narrow 0 (Rate AtLeast 3)
    ∷ command.New 0 7 (rated 5) ∷ command.Remove 0 7 ∷ []

abbrev pub changed : ModelFleet
changed = after_commands (All ∷ []) changes

pub record ChangedByHand : Type 0 where
  pub reports : reports_of changed
      ≡ Exactly (change_answer None) ∷ Exactly (Made (nth 0 1) Store) ∷ Exactly (narrow_answer (Some 1)) ∷ Exactly (narrow_answer None)
      ∷ Exactly (Made (nth 0 2) Store) ∷ Exactly (change_answer (Some (nth 0 3, Out))) ∷ []
  pub log : map (λ e. e.version) changed.log ≡ nth 0 1 ∷ nth 0 2 ∷ nth 0 3 ∷ []
  pub tree : (device_at changed.devices 0).tree ≡ Rate AtLeast 4
  pub store : (device_at changed.devices 0).store ≡ []
  pub out : map (λ e. e.version) (device_at changed.devices 0).out ≡ nth 0 3 ∷ []
  pub sound : list_all (is_sound changed.log) changed.devices ≡ true
  pub kept : is_kept changed.log changed.devices ≡ true

-- A second device joins after the first one has made a picture, and pulls it. The result is as if it had been there from the
-- beginning.
abbrev pub joined_later : ModelFleet
joined_later = after_command (with_device All (after_commands (All ∷ []) (command.New 0 7 (rated 3) ∷ []))) 2 (command.Pull 1 0)

abbrev pub there_from_the_beginning : ModelFleet
there_from_the_beginning = after_commands (All ∷ All ∷ []) (command.New 0 7 (rated 3) ∷ command.Pull 1 0 ∷ [])

pub record JoinsLater : Type 0 where
  pub author : (device_at joined_later.devices 1).author ≡ author 1
  pub store : map (λ e. e.version) (device_at joined_later.devices 1).store ≡ nth 0 1 ∷ []
  pub same : (device_at joined_later.devices 1).store ≡ (device_at there_from_the_beginning.devices 1).store
  pub log : map (λ e. e.version) joined_later.log ≡ nth 0 1 ∷ []
  pub sound : list_all (is_sound joined_later.log) joined_later.devices ≡ true

-- what a device holds after it made one picture, while another device did nothing

abbrev pub first_held : Held
first_held = record { picture = 7; version = nth 0 1; made_with = []; content = rated 3 }

abbrev pub first_device : Kept
first_device = record {
  author = author 0;
  tree = All;
  counter = 1;
  store = first_held ∷ [];
  out = [];
  knowledge = record { pictures = []; entries = (0, 1) ∷ [] } ∷ [];
  staged = None;
}

abbrev pub second_device : Kept
second_device = record {
  author = author 1;
  tree = All;
  counter = 0;
  store = [];
  out = [];
  knowledge = record { pictures = []; entries = [] } ∷ [];
  staged = None;
}

abbrev pub with_log : List Held → KeptFleet
with_log log = record { devices = first_device ∷ second_device ∷ []; log = log; commands = 1 }

-- A fleet with that log came about by commands. None came about whose log lacks a version that a device holds, or has it twice.
pub record ComesAboutAsTold : Type 0 where
  pub logged : CameAbout (with_log (first_held ∷ []))
  pub unlogged : CameAbout (with_log []) → ⊥
  pub twice : CameAbout (with_log (first_held ∷ first_held ∷ [])) → ⊥

abbrev pub full : KeptFleet
full = record (with_log []) { commands = 4_294_967_295 }

-- the faults that are due to commands of a fleet of two devices
pub record FaultsAreDueAsTold : Type 0 where
  pub taken : (fault : FleetFault) → IsDueTo (command.Pull 1 0) (with_log []) fault → ⊥
  pub absent : IsDueTo (command.List 2) (with_log []) NoDevice
  pub of_itself : IsDueTo (command.Pull 1 1) (with_log []) NoDevice
  pub no_room : IsDueTo (command.List 1) full Full
  pub absent_first : IsDueTo (command.List 2) full Full → ⊥
  pub no_number : IsDueToNumber (contents ([] ∷ [] ∷ []) (All ∷ All ∷ []) (command.List 1 ∷ [])) 2 (with_log []) NoCommand
  pub no_zero : IsDueToNumber (contents ([] ∷ [] ∷ []) (All ∷ All ∷ []) (command.List 1 ∷ [])) 0 (with_log []) NoCommand
  pub one_device_less : IsDueToNumber (contents ([] ∷ []) (All ∷ []) (command.List 0 ∷ [])) 1 (with_log []) NoCommand
