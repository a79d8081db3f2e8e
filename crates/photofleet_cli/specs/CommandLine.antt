-- The program's command line as `clap` sees it, and the errors that `clap` finds in words.
use Rattle.std.specs.Prelude.{List, Some, true, pos, codes}
use Rattle.clap.specs.Words.{App, Rule, Text, Kinds, new_app, new_rule, with_rule, with_subcommand, fault_of}
use Rattle.clap.specs.Lexer.{usize_max}
use Rattle.clap.specs.declared.builder.action.ArgAction.TheVariants.{Set, Append}
use Rattle.clap.specs.declared.builder.value_parser.ValueParser.TheVariants.{Signed}
use Rattle.fleet_workers.specs.Limits.{max_workers}

-- the file with the script
abbrev pub file_argument : Rule
file_argument = record (new_rule (codes "FILE")) { required = true; action = Some Set }

-- `--workers N`: required, and N is the number of workers
abbrev pub workers_argument : Rule
workers_argument = record (new_rule (codes "workers")) {
  long = Some (codes "workers");
  value_names = 1;
  required = true;
  action = Some Set;
  parser = Some (Signed (pos 1) (pos max_workers));
}

-- numbers from 1 to 100,000; there may be none
abbrev pub order_argument : Rule
order_argument = record (new_rule (codes "ORDER")) {
  range = Some (record { start_inclusive = 0; end_inclusive = usize_max });
  action = Some Append;
  parser = Some (Signed (pos 1) (pos 100000));
}

-- `plain FILE`
abbrev pub plain_command : App
plain_command = with_rule (new_app (codes "plain")) file_argument

-- `run --workers N FILE`
abbrev pub run_command : App
run_command = with_rule (with_rule (new_app (codes "run")) workers_argument) file_argument

-- `batches FILE`
abbrev pub batches_command : App
batches_command = with_rule (new_app (codes "batches")) file_argument

-- `replay FILE ORDER...`
abbrev pub replay_command : App
replay_command = with_rule (with_rule (new_app (codes "replay")) file_argument) order_argument

-- `photofleet`, which requires one command and has a version
abbrev pub bare_program : App
bare_program =
    let bare = new_app (codes "photofleet") in
    record bare { top = record bare.top { subcommand_required = true; has_version = true } }

-- `photofleet` with its commands
abbrev pub program : App
program =
    with_subcommand (with_subcommand (with_subcommand (with_subcommand bare_program plain_command.top) run_command.top)
    batches_command.top) replay_command.top

-- the kinds of error that the words may have; none where the words are accepted
abbrev pub errors_of : List Text → Kinds
errors_of words = fault_of program words
