use Rattle.std.proofs.Common.{◌≡◌, ◌∙◌, ap, ap₂, refl, true}
use Rattle.std.proofs.lemmas.Result.{IfOk-weaker}
use Rattle.clap.specs.Words.{App, app_of, with_subcommand}
use Rattle.clap.specs.Simple.{app_of_fields}
use Rattle.photofleet_cli.specs.CommandLine.{bare_program, plain_command, run_command, batches_command, replay_command}
use Rattle.photofleet_cli.proofs.CommandLines.{no_globals}
use Rattle.photofleet_cli.proofs.words.command_line.Goals as goal

abbrev requiring : App → App
requiring a = record a { top = record a.top { subcommand_required = true } }

abbrev versioned : App → App
versioned a = record a { top = record a.top { has_version = true } }

pub returns : goal.returns
returns c =
    let bare_is : app_of c.subcommand_required.result ≡ bare_program =
    ap app_of_fields c.subcommand_required.ensures ∙ ap requiring (ap app_of_fields c.after_help.ensures ∙ (ap app_of_fields c.version.ensures ∙ ap versioned (ap app_of_fields c.about.ensures ∙ c.new.ensures.app))) in
    let plain_is : app_of c.in_ok-subcommand.field-0 ≡ with_subcommand bare_program plain_command.top =
    c.in_ok-subcommand.ensures.shape (no_globals _ plain_command c.in_ok-plain_command.ensures refl)
    ∙ ap₂ with_subcommand bare_is (ap (λ (a : App). a.top) c.in_ok-plain_command.ensures) in
    let run_is : app_of c.in_ok-command.command ≡ with_subcommand (with_subcommand bare_program plain_command.top) run_command.top =
    c.in_ok-command.ensures.shape (no_globals _ run_command c.in_ok-run_command.ensures refl)
    ∙ ap₂ with_subcommand plain_is (ap (λ (a : App). a.top) c.in_ok-run_command.ensures) in
    let batches_is : app_of c.in_ok-subcommand-2.field-0 ≡ with_subcommand (with_subcommand (with_subcommand bare_program plain_command.top) run_command.top) batches_command.top =
    c.in_ok-subcommand-2.ensures.shape (no_globals _ batches_command c.in_ok-batches_command.ensures refl)
    ∙ ap₂ with_subcommand run_is (ap (λ (a : App). a.top) c.in_ok-batches_command.ensures) in
    IfOk-weaker c.subcommand-4.result _ _ (λ command h.
    h.shape (no_globals _ replay_command c.in_ok-replay_command.ensures refl)
    ∙ ap₂ with_subcommand batches_is (ap (λ (a : App). a.top) c.in_ok-replay_command.ensures)) c.subcommand-4.ensures
