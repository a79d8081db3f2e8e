-- What `clap` found on the command line, and what the words ask for.
use Rattle.std.proofs.Common.{◌≡◌, ◌≢◌, true, false, List, sym, ap, ap₂, ◌∙◌, subst, inl, inr, codes, refl}
use Rattle.std.specs.Prelude.{Option, Some, None, Box, Bool, not, option_map, option_and_then, unwrap_or}
use Rattle.std.specs.Box.{box_value}
use Rattle.clap.specs.Words.{App, Row, Text, HasKind, app_of, fault_of, first_of, found_of, kind_of, rows_of, subcommand_rows, is_simple_and_free}
use Rattle.clap.specs.declared.builder.command.Command.{Command}
use Rattle.clap.specs.declared.builder.command.Command.TheViews.{out-Command}
use Rattle.clap.specs.declared.error.Error.{Error}
use Rattle.clap.specs.declared.error.kind.ErrorKind.TheVariants.{OutOfMemory}
use Rattle.clap.specs.declared.parser.matches.SubCommand.{SubCommand}
use Rattle.clap.specs.declared.parser.matches.ArgMatches.TheViews.{out-SubCommand}
use Rattle.clap.proofs.OnLiterals.{clap_on_literals}
use Rattle.clap.proofs.WalkLemmas.{both}
use Rattle.photofleet_cli.specs.CommandLine.{program}
use Rattle.photofleet_cli.specs.Asked.{Work, IsRefusal, asked_in, work_in}

program_is_free : is_simple_and_free program ≡ true
unfolding clap_on_literals
program_is_free = refl

-- `clap` refuses the words
pub refused : (a : App) (words : List Text) (e : Error) → a ≡ program → (is_simple_and_free a ≡ true → HasKind (fault_of a words) e) → kind_of e ≢ OutOfMemory → IsRefusal words (kind_of e)
refused a words e is fails other =
    let kinds = subst (λ (b : App). HasKind (fault_of b words) e) is (fails (ap is_simple_and_free is ∙ program_is_free)) in
    elim kinds [ inl memory ↦ absurd (other memory) | inr among ↦ inl among ]

-- the subcommand that `clap` found, by its name and its rows
pub command_met : {Z : Type 0} (sub : Option (Box SubCommand Z)) (name : Text) (rows : List Row) → Some name ≡ option_map (λ b. (out-SubCommand (box_value b)).name.now) sub
    → Some rows ≡ option_map (λ p. p.1) (subcommand_rows sub) → subcommand_rows sub ≡ Some (name, rows)
command_met None name rows named given = cc
command_met (Some b) name rows named given =
    let name_is : (out-SubCommand (box_value b)).name.now ≡ name = sym (ap (λ (o : Option Text). unwrap_or o name) named) in
    let rows_is : rows_of (found_of (out-SubCommand (box_value b)).matches) ≡ rows = sym (ap (λ (o : Option (List Row)). unwrap_or o rows) given) in
    ap₂ (λ (n : Text) (rs : List Row). Some (n, rs)) name_is rows_is

-- a command with a file asks for its work on that file
pub asked_some : (name : Text) (rows : List Row) (file : Text) (work : Option Work) → Some file ≡ first_of (codes "FILE") rows → work ≡ work_in name rows
    → option_map (λ w. (file, w)) work ≡ asked_in (name, rows)
asked_some name rows file work given is =
    ap (λ (o : Option Work). option_map (λ w. (file, w)) o) is ∙ ap (λ (o : Option Text). option_and_then (λ f. option_map (λ w. (f, w)) (work_in name rows)) o) given

pub asked_none : (name : Text) (rows : List Row) → None ≡ first_of (codes "FILE") rows → None ≡ asked_in (name, rows)
asked_none name rows given = ap (λ (o : Option Text). option_and_then (λ f. option_map (λ w. (f, w)) (work_in name rows)) o) given

-- a plain command has no global argument
not_true : (b : Bool) → not b ≡ true → b ≡ false
not_true false e = refl
not_true true e = cc

pub no_globals : (c : Command) (a : App) → app_of c ≡ a → a.top.is_plain ≡ true → (out-Command c).has_globals ≡ false
no_globals c a is plain =
    let tests = ap (λ (x : App). x.top.is_plain) is ∙ plain in
    let more = (both _ _ tests).1 in
    let rest = (both _ _ more).1 in
    not_true _ (both _ _ rest).0
