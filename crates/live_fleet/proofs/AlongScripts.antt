-- A fleet that runs the commands of a script by their numbers.
use Rattle.std.proofs.Common.{◌≡◌, ℕ, suc, ◌+◌, [], ◌∷◌, sym, ap, ◌∙◌, subst, add-one}
use Rattle.std.specs.Prelude.{Some, slice_get}
use Rattle.std.proofs.lemmas.List.Sums.{fold-append}
use Rattle.fleet_model.specs.declared.command.Command.{Command}
use Rattle.fleet_model.specs.Contents.{Contents, command_of}
use Rattle.fleet_model.specs.Runs.{Fleet, after_command, opening_fleet, step, run_in_order, numbers_to}
use Rattle.fleet_model.proofs.EachCommand.{stepped}
use Rattle.live_fleet.specs.Fleets.{KeptFleet, ShowsFleet, RunsAlongScripts}

after_next : (script : Contents) (n : ℕ) (c : Command) → slice_get script.commands n ≡ Some c → run_in_order script (numbers_to (suc n)) ≡ after_command (run_in_order script (numbers_to n)) (suc n) c
after_next script n c here = fold-append (step script) (opening_fleet script) (numbers_to n) (suc n ∷ []) ∙ stepped script (run_in_order script (numbers_to n)) n c here

-- a command's number affects only the reports
shown_again : (f : KeptFleet) (m : Fleet) (j k : ℕ) (c : Command) → ShowsFleet f (after_command m j c) → ShowsFleet f (after_command m k c)
shown_again f m j k c shown = record { devices = shown.devices; log = shown.log }

pub along_scripts : RunsAlongScripts
along_scripts script n c old new here before ran =
    let next : n + 1 ≡ suc n = add-one n in
    let at : slice_get script.commands n ≡ Some c = ap (command_of script) (sym next) ∙ here in
    let shown = shown_again new (run_in_order script (numbers_to n)) new.commands (suc n) c (ran.shows (run_in_order script (numbers_to n)) before) in
    subst (λ (m : ℕ). ShowsFleet new (run_in_order script (numbers_to m))) (sym next) (subst (ShowsFleet new) (sym (after_next script n c at)) shown)
