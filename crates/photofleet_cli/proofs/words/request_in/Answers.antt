use Rattle.std.proofs.Common.{◌∙◌, ap, sym, codes}
use Rattle.std.specs.Prelude.{Some, option_map, option_and_then}
use Rattle.clap.specs.Words.{found_of, rows_of}
use Rattle.clap.specs.declared.parser.matches.ArgMatches.TheViews.{out-ArgMatches}
use Rattle.clap.proofs.WalkLemmas.{first_value-rows}
use Rattle.photofleet_cli.specs.Asked.{asked_in, work_of}
use Rattle.photofleet_cli.proofs.CommandLines.{command_met, asked_some, asked_none}
use Rattle.photofleet_cli.proofs.words.request_in.Goals as goal

pub returns-in_default-get_str : goal.returns-in_default-get_str
returns-in_default-get_str c =
    let rows = rows_of (found_of c.in-Some.given.now) in
    let met = command_met (out-ArgMatches c.args.matches.now).subcommand c.in-Some.name.now rows c.in-Some.ensures.name c.in-Some.ensures.rows in
    asked_none c.in-Some.name.now rows (c.in_default-get_str.ensures ∙ first_value-rows (found_of c.in-Some.given.now) (codes "FILE")) ∙ sym (ap (option_and_then asked_in) met)

pub returns-in-Some-2 : goal.returns-in-Some-2
returns-in-Some-2 c =
    let rows = rows_of (found_of c.in-Some.given.now) in
    let met = command_met (out-ArgMatches c.args.matches.now).subcommand c.in-Some.name.now rows c.in-Some.ensures.name c.in-Some.ensures.rows in
    let file = c.in-Some-get_str.ensures ∙ first_value-rows (found_of c.in-Some.given.now) (codes "FILE") in
    asked_some c.in-Some.name.now rows c.in-Some-get_str.file.now (Some (work_of c.in-Some-2.job)) file (sym (ap (option_map work_of) c.in-Some-2.is) ∙ c.in_ok-job.ensures) ∙ sym (ap (option_and_then asked_in) met)
