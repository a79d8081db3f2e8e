-- Worked examples of command lines.
use Rattle.std.specs.Prelude.{◌≡◌, ℕ, List, [], ◌∷◌, codes}
use Rattle.clap.specs.declared.error.kind.ErrorKind.TheVariants.{DisplayHelp, DisplayVersion, MissingSubcommand, UnknownArgument, InvalidSubcommand, MissingRequiredArgument, ArgumentConflict, ValueValidation}
use Rattle.photofleet_cli.specs.CommandLine.{errors_of}
use Rattle.photofleet_cli.specs.Asked.{Asks, plain, run, replay, batches}

abbrev pub words_of : List (List ℕ) → List (List ℕ)
words_of more = codes "photofleet" ∷ more

-- command lines that ask for a run, for help, or for nothing that the program does
pub record WordsAreAsTold : Type 0 where
  pub run : Asks (words_of (codes "plain" ∷ codes "script" ∷ [])) (codes "script") plain
  pub dashed : Asks (words_of (codes "plain" ∷ codes "--" ∷ codes "--help" ∷ [])) (codes "--help") plain
  pub help : errors_of (words_of (codes "--help" ∷ [])) ≡ DisplayHelp ∷ []
  pub version : errors_of (words_of (codes "--version" ∷ [])) ≡ DisplayVersion ∷ []
  pub short_version : errors_of (words_of (codes "-V" ∷ [])) ≡ DisplayVersion ∷ []
  pub standard_input : Asks (words_of (codes "plain" ∷ codes "-" ∷ [])) (codes "-") plain
  pub help_of_plain : errors_of (words_of (codes "plain" ∷ codes "--help" ∷ [])) ≡ DisplayHelp ∷ []
  pub none : errors_of (words_of []) ≡ MissingSubcommand ∷ []
  pub unknown : errors_of (words_of (codes "frob" ∷ [])) ≡ UnknownArgument ∷ InvalidSubcommand ∷ []
  pub no_file : errors_of (words_of (codes "plain" ∷ [])) ≡ MissingRequiredArgument ∷ []
  pub two_files : errors_of (words_of (codes "plain" ∷ codes "script" ∷ codes "more" ∷ [])) ≡ UnknownArgument ∷ []
  pub flag : errors_of (words_of (codes "plain" ∷ codes "--frob" ∷ codes "script" ∷ [])) ≡ UnknownArgument ∷ []

-- the words of a run by workers; the given word says their number
abbrev pub run_words : List ℕ → List (List ℕ)
run_words number = words_of (codes "run" ∷ codes "--workers" ∷ number ∷ codes "script" ∷ [])

-- command lines that ask for a run by workers: the number is required and is from 1 to 256
pub record WorkersAreAsked : Type 0 where
  pub asked : Asks (run_words (codes "4")) (codes "script") (run 4)
  pub least : Asks (run_words (codes "1")) (codes "script") (run 1)
  pub most : Asks (run_words (codes "256")) (codes "script") (run 256)
  pub signed : Asks (run_words (codes "+07")) (codes "script") (run 7)
  pub joined : Asks (words_of (codes "run" ∷ codes "script" ∷ codes "--workers=2" ∷ [])) (codes "script") (run 2)
  pub zero_workers : errors_of (run_words (codes "0")) ≡ ValueValidation ∷ []
  pub too_many : errors_of (run_words (codes "257")) ≡ ValueValidation ∷ []
  pub huge : errors_of (run_words (codes "18446744073709551617")) ≡ ValueValidation ∷ []
  pub negative : errors_of (run_words (codes "-1")) ≡ UnknownArgument ∷ []
  pub negative_joined : errors_of (words_of (codes "run" ∷ codes "--workers=-1" ∷ codes "script" ∷ [])) ≡ ValueValidation ∷ []
  pub no_number : errors_of (run_words (codes "four")) ≡ ValueValidation ∷ []
  pub empty : errors_of (run_words []) ≡ ValueValidation ∷ []
  pub twice : errors_of (words_of (codes "run" ∷ codes "--workers" ∷ codes "1" ∷ codes "--workers" ∷ codes "1" ∷ codes "script" ∷ [])) ≡ ArgumentConflict ∷ []
  pub help : errors_of (words_of (codes "run" ∷ codes "--help" ∷ [])) ≡ DisplayHelp ∷ []
  pub no_workers : errors_of (words_of (codes "run" ∷ codes "script" ∷ [])) ≡ MissingRequiredArgument ∷ []
  pub no_file : errors_of (words_of (codes "run" ∷ codes "--workers" ∷ codes "4" ∷ [])) ≡ MissingRequiredArgument ∷ []

-- command lines that ask for a plan
pub record BatchesAreAsked : Type 0 where
  pub asked : Asks (words_of (codes "batches" ∷ codes "script" ∷ [])) (codes "script") batches
  pub help : errors_of (words_of (codes "batches" ∷ codes "--help" ∷ [])) ≡ DisplayHelp ∷ []
  pub no_file : errors_of (words_of (codes "batches" ∷ [])) ≡ MissingRequiredArgument ∷ []
  pub two_files : errors_of (words_of (codes "batches" ∷ codes "script" ∷ codes "1" ∷ [])) ≡ UnknownArgument ∷ []

-- the words of a run in an order
abbrev pub replay_words : List (List ℕ) → List (List ℕ)
replay_words order = words_of (codes "replay" ∷ codes "script" ∷ order)

-- command lines that ask for a run in an order: its numbers are from 1 to 100,000, in any order and with repetitions; there may
-- be none
pub record OrdersAreAsked : Type 0 where
  pub asked : Asks (replay_words (codes "2" ∷ codes "1" ∷ codes "2" ∷ [])) (codes "script") (replay (2 ∷ 1 ∷ 2 ∷ []))
  pub none : Asks (replay_words []) (codes "script") (replay [])
  pub least_and_most : Asks (replay_words (codes "1" ∷ codes "100000" ∷ [])) (codes "script") (replay (1 ∷ 100000 ∷ []))
  pub signed : Asks (replay_words (codes "+7" ∷ codes "007" ∷ [])) (codes "script") (replay (7 ∷ 7 ∷ []))
  pub zero_number : errors_of (replay_words (codes "0" ∷ [])) ≡ ValueValidation ∷ []
  pub too_large : errors_of (replay_words (codes "100001" ∷ [])) ≡ ValueValidation ∷ []
  pub huge : errors_of (replay_words (codes "18446744073709551617" ∷ [])) ≡ ValueValidation ∷ []
  pub later : errors_of (replay_words (codes "1" ∷ codes "100001" ∷ [])) ≡ ValueValidation ∷ []
  pub no_number : errors_of (replay_words (codes "one" ∷ [])) ≡ ValueValidation ∷ []
  pub negative : errors_of (replay_words (codes "-1" ∷ [])) ≡ UnknownArgument ∷ []
  pub help : errors_of (words_of (codes "replay" ∷ codes "--help" ∷ [])) ≡ DisplayHelp ∷ []
  pub no_file : errors_of (words_of (codes "replay" ∷ [])) ≡ MissingRequiredArgument ∷ []
