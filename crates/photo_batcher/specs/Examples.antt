-- Worked plans and orders.
use Rattle.std.specs.Prelude.{◌≡◌, ℕ, pos, false, true, List, [], ◌∷◌, Ok, codes}
use Rattle.photo_record.specs.declared.record.Record.{Record}
use Rattle.photo_record.specs.declared.record.Record.TheVariants.{Picture}
use Rattle.photo_filter_text.specs.Tree.{All}
use Rattle.photo_version.specs.Author.{author}
use Rattle.photo_version.specs.Version.{version}
use Rattle.photo_model.specs.Entry.{Entry}
use Rattle.photo_model.specs.declared.place.Place.TheVariants.{Store}
use Rattle.fleet_model.specs.declared.command.Command.TheVariants as command
use Rattle.fleet_model.specs.Contents.{Contents, contents}
use Rattle.script_reader.specs.Reading.{script_of}
use Rattle.fleet_model.specs.Answers.{Made, Listed, Pulled, ModelReport, Exactly}
use Rattle.fleet_model.specs.Runs.{run_in_order, run, reports_of}
use Rattle.fleet_model.specs.Tallies.{totals_of}
use Rattle.photo_batcher.specs.Orders.{IsLawful}
use Rattle.photo_batcher.specs.Batches.{IsLongestChainTo, IsJustBelow}
use Rattle.photo_batcher.specs.Plans.{planned, Planned, batch_in, IsPlan}

abbrev pub rated : ℕ → Record
rated rating = Picture rating (pos 19_723) []

-- two devices make a picture each; each is pulled by another device, and then by a third
abbrev pub four_devices : Contents
four_devices = contents (codes "a" ∷ codes "b" ∷ codes "c" ∷ codes "d" ∷ []) (All ∷ All ∷ All ∷ All ∷ [])
    (command.New 0 1 (rated 5) ∷ command.New 2 2 (rated 4) ∷ command.Pull 1 0 ∷ command.Pull 3 2 ∷ command.Pull 2 1
    ∷ command.List 0 ∷ command.Pull 3 0 ∷ [])

abbrev pub four_planned : Planned
four_planned = planned (0 ∷ 0 ∷ 1 ∷ 1 ∷ 2 ∷ 2 ∷ 3 ∷ []) (0 ∷ 0 ∷ 1 ∷ 2 ∷ 4 ∷ 3 ∷ 6 ∷ [])
    ((1 ∷ 2 ∷ []) ∷ (3 ∷ 4 ∷ []) ∷ (5 ∷ 6 ∷ []) ∷ (7 ∷ []) ∷ [])

-- the script's plan: the last command ends a chain of four; the fifth command could go after two others, and goes after the
-- later one
pub record FourBatches : Type 0 where
  pub script : script_of (codes "device a all\ndevice b all\ndevice c all\ndevice d all\nnew a 1 5 2024-01-01 -\nnew c 2 4 2024-01-01 -\npull b a\npull d c\npull c b\nlist a\npull d a\n") ≡ Ok four_devices
  pub plan : IsPlan four_devices four_planned
  pub longest : IsLongestChainTo four_devices 7 (1 ∷ 3 ∷ 6 ∷ 7 ∷ [])
  pub tied : IsJustBelow four_devices (batch_in four_planned) 5 3
  pub later : IsJustBelow four_devices (batch_in four_planned) 5 4
  pub shorter : IsLongestChainTo four_devices 5 (2 ∷ 4 ∷ 5 ∷ [])

abbrev pub first_entry : Entry
first_entry = record { picture = 1; version = version (author 0) 1; history = λ v. false; content = rated 5 }

abbrev pub second_entry : Entry
second_entry = record { picture = 2; version = version (author 2) 1; history = λ v. false; content = rated 4 }

abbrev pub one_taken : ModelReport
one_taken = Exactly (Pulled (record { taken = 1; handed = 0; notices = 0; dropped = 0; learned = true }))

-- the reports, which are the same in both orders
abbrev pub four_reports : List ModelReport
four_reports = Exactly (Made (version (author 0) 1) Store) ∷ Exactly (Made (version (author 2) 1) Store) ∷ one_taken ∷ one_taken ∷ one_taken
    ∷ Exactly (Listed 0 (first_entry ∷ []) []) ∷ one_taken ∷ []

-- a lawful order of the commands and what it gives; and orders that aren't lawful: one out of order, one without a number, and
-- one with a number too many
pub record FourInOrder : Type 0 where
  pub lawful : IsLawful four_devices (2 ∷ 1 ∷ 4 ∷ 3 ∷ 6 ∷ 5 ∷ 7 ∷ [])
  pub same_reports : reports_of (run_in_order four_devices (2 ∷ 1 ∷ 4 ∷ 3 ∷ 6 ∷ 5 ∷ 7 ∷ [])) ≡ four_reports
  pub other_log : (run_in_order four_devices (2 ∷ 1 ∷ 4 ∷ 3 ∷ 6 ∷ 5 ∷ 7 ∷ [])).log ≡ second_entry ∷ first_entry ∷ []
  pub reports : reports_of (run four_devices) ≡ four_reports
  pub log : (run four_devices).log ≡ first_entry ∷ second_entry ∷ []
  pub counts : totals_of four_devices (run four_devices) ≡ record { changes = 2; pulls = 4; reports = 1; moved = 4 }
  pub too_early : IsLawful four_devices (3 ∷ 1 ∷ 2 ∷ 4 ∷ 5 ∷ 6 ∷ 7 ∷ []) → ⊥
  pub missing : IsLawful four_devices (1 ∷ 2 ∷ 3 ∷ 4 ∷ 5 ∷ 6 ∷ []) → ⊥
  pub twice : IsLawful four_devices (1 ∷ 1 ∷ 2 ∷ 3 ∷ 4 ∷ 5 ∷ 6 ∷ 7 ∷ []) → ⊥

-- the first command names a version of device b, on which it doesn't work
abbrev pub named : Contents
named = contents (codes "a" ∷ codes "b" ∷ []) (All ∷ All ∷ []) (command.Knows 0 7 (version (author 1) 1) ∷ command.New 1 7 (rated 5) ∷ [])

-- a command doesn't work on a device that only a version names
pub record NamedInAVersion : Type 0 where
  pub plan : IsPlan named (planned (0 ∷ 0 ∷ []) (0 ∷ 0 ∷ []) ((1 ∷ 2 ∷ []) ∷ []))
  pub lawful : IsLawful named (2 ∷ 1 ∷ [])

-- plans and orders without commands
pub record NothingPlanned : Type 0 where
  pub empty : IsPlan (contents [] [] []) (planned [] [] [])
  pub silent : IsPlan (contents (codes "a" ∷ []) (All ∷ []) []) (planned [] [] [])
  pub lawful : IsLawful (contents [] [] []) []
