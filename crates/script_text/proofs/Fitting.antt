-- A script is printable exactly if its parts are.
use Rattle.std.proofs.Common.{◌≡◌, ℕ, ◌≤◌, true, List, [], ◌∷◌, ◌++◌, length, map, Ok, IsUtf8, ap, subst, ◌∙◌, arith}
use Rattle.std.specs.List.{AllByRecursion}
use Rattle.photo_filter_text.specs.Tree.{Tree}
use Rattle.fleet_model.specs.Contents.{Contents, IsScript}
use Rattle.script_reader.specs.Fields.{is_name}
use Rattle.script_reader.specs.Limits.{max_text_bytes}
use Rattle.script_reader.specs.Reading.{script_of}
use Rattle.fleet_model.specs.declared.command.Command.{Command}
use Rattle.script_text.specs.Texts.{line_of_command, lines_of_devices, text_of_script}
use Rattle.script_text.specs.Printable.{FitsFilter, FitsCommand, IsShort, HasValues, AllDiffer, pictures_made, IsPrintable}
use Rattle.script_text.specs.Parts.{FitDevices, FitsLine}
use Rattle.script_text.proofs.Printed.{short-front, short-rest, printed-is-read}

short-both : (xs ys : List (List ℕ)) → AllByRecursion IsShort xs → AllByRecursion IsShort ys → AllByRecursion IsShort (xs ++ ys)
short-both [] ys h g = g
short-both (x ∷ xs) ys h g = (h.0, short-both xs ys h.1 g)

-- devices

devices-from : (names : List (List ℕ)) (filters : List Tree) → AllByRecursion FitsFilter filters → AllByRecursion IsShort (lines_of_devices names filters) → FitDevices names filters
devices-from [] filters fit short = tt
devices-from (name ∷ names) [] fit short = tt
devices-from (name ∷ names) (filter ∷ filters) fit short = ((fit.0, short.0), devices-from names filters fit.1 short.1)

pub filters-fit : (names : List (List ℕ)) (filters : List Tree) → length filters ≡ length names → FitDevices names filters → AllByRecursion FitsFilter filters
filters-fit names [] same h = tt
filters-fit [] (filter ∷ filters) same h = absurd (omega arith)
filters-fit (name ∷ names) (filter ∷ filters) same h = (h.0.0, filters-fit names filters (omega arith) h.1)

pub devices-short : (names : List (List ℕ)) (filters : List Tree) → FitDevices names filters → AllByRecursion IsShort (lines_of_devices names filters)
devices-short [] filters h = tt
devices-short (name ∷ names) [] h = tt
devices-short (name ∷ names) (filter ∷ filters) h = (h.0.1, devices-short names filters h.1)

-- commands

commands-from : (s : Contents) (commands : List Command) → AllByRecursion (FitsCommand s) commands → AllByRecursion IsShort (map (line_of_command s) commands) → AllByRecursion (FitsLine s) commands
commands-from s [] fit short = tt
commands-from s (x ∷ xs) fit short = ((fit.0, short.0), commands-from s xs fit.1 short.1)

commands-fit : (s : Contents) (commands : List Command) → AllByRecursion (FitsLine s) commands → AllByRecursion (FitsCommand s) commands
commands-fit s [] h = tt
commands-fit s (x ∷ xs) h = (h.0.0, commands-fit s xs h.1)

commands-short : (s : Contents) (commands : List Command) → AllByRecursion (FitsLine s) commands → AllByRecursion IsShort (map (line_of_command s) commands)
commands-short s [] h = tt
commands-short s (x ∷ xs) h = (h.0.1, commands-short s xs h.1)

pub fit-devices : (s : Contents) → IsPrintable s → FitDevices s.names s.filters
fit-devices s h = devices-from s.names s.filters h.filters (short-front (lines_of_devices s.names s.filters) (map (line_of_command s) s.commands) h.lines)

pub fit-commands : (s : Contents) → IsPrintable s → AllByRecursion (FitsLine s) s.commands
fit-commands s h = commands-from s s.commands h.commands (short-rest (lines_of_devices s.names s.filters) (map (line_of_command s) s.commands) h.lines)

-- all parts are within the limits
pub record PartsFit (s : Contents) : Type 0 where
  pub named : AllByRecursion (λ name. is_name name ≡ true) s.names
  pub apart : AllDiffer s.names
  pub made_once : AllDiffer (pictures_made s.commands)
  pub devices : FitDevices s.names s.filters
  pub commands : AllByRecursion (FitsLine s) s.commands
  pub values : AllByRecursion HasValues s.commands

pub printable : (s : Contents) → IsScript s → PartsFit s → length (text_of_script s) ≤ max_text_bytes → IsPrintable s
printable s script fit small = record {
  named = fit.named;
  apart = fit.apart;
  filters = filters-fit s.names s.filters script.filtered fit.devices;
  commands = commands-fit s s.commands fit.commands;
  made_once = fit.made_once;
  lines = short-both (lines_of_devices s.names s.filters) (map (line_of_command s) s.commands) (devices-short s.names s.filters fit.devices) (commands-short s s.commands fit.commands);
  small = small;
}

pub whole-printable : (s : Contents) (text : List ℕ) → IsScript s → PartsFit s → text ≡ text_of_script s → length text ≤ max_text_bytes → IsPrintable s
whole-printable s text script fit is small = printable s script fit (subst (λ t. length t ≤ max_text_bytes) is small)

pub read-whole : (s : Contents) (text : List ℕ) → IsScript s → PartsFit s → text ≡ text_of_script s → IsUtf8 text → length text ≤ max_text_bytes → script_of text ≡ Ok s
read-whole s text script fit is utf8 small =
    ap script_of is ∙ printed-is-read s script (record { commands = fit.values; utf8 = subst IsUtf8 is utf8 }) (whole-printable s text script fit is small)
