-- What the words of a command line ask for.
use Rattle.std.specs.Prelude.{◌≡◌, ◌⊎◌, ℕ, List, [], ◌∷◌, map, Option, Some, None, IfSome, codes, if◌then◌else◌, option_map, option_and_then, unwrap_or}
use Rattle.std.specs.Borrow.{Bor}
use Rattle.std.specs.Str.{bytes_eq}
use Rattle.std.specs.Str.Parse.{digits_value, without_leading_plus}
use Rattle.clap.specs.ValueTests.{is_unsigned_in}
use Rattle.clap.specs.Words.{Row, Text, IsAmong, all_of, subcommand_of, first_of, one_of}
use Rattle.clap.specs.declared.error.kind.ErrorKind.{ErrorKind}
use Rattle.clap.specs.declared.error.kind.ErrorKind.TheVariants.{MissingSubcommand}
use Rattle.fleet_workers.specs.Limits.{max_workers}
use Rattle.script_programs.specs.Helps.{IsWish}
use Rattle.photofleet_cli.specs.CommandLine.{program, errors_of}
use Rattle.photofleet_cli.specs.declared.words.Job.{Job}
use Rattle.photofleet_cli.specs.declared.words.Job.TheVariants as job
use Rattle.photofleet_cli.specs.declared.words.Request.{Request}

-- what is done with a script: run it command by command, run it by that many workers, run it in an order, or plan it
pub data Work : Type 0 where
  plain : Work
  run : ℕ → Work
  replay : List ℕ → Work
  batches : Work

-- the number that a word writes, if it fits in 32 bits
abbrev pub number_in : Text → Option ℕ
number_in word = if is_unsigned_in 0 4294967295 word then Some (digits_value 10 (without_leading_plus word)) else None

-- the numbers that the words write, if each writes one
abbrev pub numbers_in : List Text → Option (List ℕ)
numbers_in [] = Some []
numbers_in (word ∷ more) = option_and_then (λ n. option_map (λ ns. n ∷ ns) (numbers_in more)) (number_in word)

-- the order that `replay` got
abbrev pub order_in : List Row → Option (List ℕ)
order_in rows = numbers_in (unwrap_or (all_of (codes "ORDER") rows) [])

-- the number of workers that a word writes, if there may be as many
abbrev pub workers_of : Text → Option ℕ
workers_of word = if is_unsigned_in 1 max_workers word then Some (digits_value 10 (without_leading_plus word)) else None

-- the number of workers that `run` got
abbrev pub workers_in : List Row → Option ℕ
workers_in rows = option_and_then workers_of (one_of (codes "workers") rows)

-- what the command of that name does with a script, with its arguments
abbrev pub work_in : Text → List Row → Option Work
work_in name rows =
    if bytes_eq name (codes "plain") then Some plain
    else (if bytes_eq name (codes "run") then option_map run (workers_in rows)
    else (if bytes_eq name (codes "replay") then option_map replay (order_in rows)
    else (if bytes_eq name (codes "batches") then Some batches else None)))

-- the file that the command got, and what it does with the script
abbrev pub asked_in : Text × List Row → Option (Text × Work)
asked_in (name, rows) = option_and_then (λ file. option_map (λ work. (file, work)) (work_in name rows)) (first_of (codes "FILE") rows)

-- what the words name: a file, and what is done with its script
abbrev pub asked_of : List Text → Option (Text × Work)
asked_of words = option_and_then asked_in (subcommand_of program words)

-- the words are accepted, and ask for that work on that file
pub record Asks (words : List Text) (file : Text) (work : Work) : Type 0 where
  pub accepted : errors_of words ≡ []
  pub named : asked_of words ≡ Some (file, work)

-- the words ask for help or for the version
abbrev pub AsksForHelp : List Text → Type 0
AsksForHelp words = (k : ErrorKind) × IsWish k × IsAmong k (errors_of words)

-- `clap` may refuse the words with an error of that kind
abbrev pub IsRefusal : List Text → ErrorKind → Type 0
IsRefusal words k = IsAmong k (errors_of words) ⊎ ((k ≡ MissingSubcommand) × ((errors_of words ≡ []) × (asked_of words ≡ None)))

-- the words have an error that isn't a request for help or for the version
abbrev pub AreRefused : List Text → Type 0
AreRefused words = (k : ErrorKind) × (IsWish k → ⊥) × IsRefusal words k

-- the words ask for some work on a file, and the file's bytes, if they are known, satisfy `IsSuch` for that work
pub record OfFile (content : List ℕ → Option (List ℕ)) (words : List Text) (IsSuch : Work → List ℕ → Type 0) : Type 0 where
  pub file : Text
  pub work : Work
  pub asked : Asks words file work
  pub bytes : IfSome (content file) (IsSuch work)

-- the code's value as a value of the definitions
abbrev pub work_of : Job → Work
work_of job.Plain = plain
work_of (job.Run workers) = run workers
work_of (job.Replay order) = replay order.items
work_of job.Batches = batches

abbrev pub request_shown : Request → Text × Work
request_shown request = (request.file.now, work_of request.job)

abbrev pub AsksRequest : List Text → Request → Type 0
AsksRequest words request = Asks words request.file.now (work_of request.job)

abbrev pub texts : List (Bor Text) → List Text
texts = map (λ s. s.now)
