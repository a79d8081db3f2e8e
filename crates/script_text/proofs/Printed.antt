-- The text of a script reads as that script.
use Rattle.std.proofs.Common.{◌≡◌, ℕ, true, List, [], ◌∷◌, ◌++◌, length, map, Ok, refl, sym, ap, subst, ◌∙◌, arith}
use Rattle.std.specs.Prelude.{IfSome}
use Rattle.std.specs.List.{AllByRecursion}
use Rattle.std.proofs.lemmas.List.{append-nil}
use Rattle.std.proofs.lemmas.List.Concat.{flat_map-append}
use Rattle.photo_filter_text.specs.Tree.{Tree}
use Rattle.photo_filter_rules.specs.Matching.{IsInRange}
use Rattle.fleet_model.specs.Contents.{Contents, IsWithin, record_of}
use Rattle.script_reader.specs.Earlier.{declared_by, filter_declared_by, names_of, filters_of, commands_of}
use Rattle.script_reader.specs.Fields.{is_name}
use Rattle.script_reader.specs.Lines.{fields_of, third_field_on}
use Rattle.script_reader.specs.Reading.{sayings, commands_said, script_of_commands, script_of_lines}
use Rattle.fleet_model.specs.declared.command.Command.{Command}
use Rattle.script_reader.proofs.Whole.{script_of-text}
use Rattle.script_text.specs.Laws.{PrintedIsRead}
use Rattle.script_text.specs.Texts.{line_of_command, lines_of_devices, lines_of_script, text_of_script}
use Rattle.script_text.specs.Printable.{FitsFilter, FitsCommand, IsShort, HasValues, AllDiffer, pictures_made}
use Rattle.script_text.proofs.Bytes.{is_from}
use Rattle.script_text.proofs.Cuts.{lines-ended}
use Rattle.script_text.proofs.CommandLines.{command-line}
use Rattle.script_text.proofs.Adding.{AreDeviceLines, device-said, devices-said, names-devices, filters-devices, pictures-devices, commands-devices, AreCommandLines, names-commands, filters-commands, commands-are-said}

pub short-front : (xs ys : List (List ℕ)) → AllByRecursion IsShort (xs ++ ys) → AllByRecursion IsShort xs
short-front [] ys h = tt
short-front (x ∷ xs) ys h = (h.0, short-front xs ys h.1)

pub short-rest : (xs ys : List (List ℕ)) → AllByRecursion IsShort (xs ++ ys) → AllByRecursion IsShort ys
short-rest [] ys h = h
short-rest (x ∷ xs) ys h = short-rest xs ys h.1

pub device-lines : (names : List (List ℕ)) (filters : List Tree) → length filters ≡ length names → AllByRecursion (λ name. is_name name ≡ true) names → AllByRecursion FitsFilter filters → AllByRecursion IsShort (lines_of_devices names filters) → AreDeviceLines names filters
device-lines [] filters same named fit short = tt
device-lines (name ∷ names) [] same named fit short = absurd (omega arith)
device-lines (name ∷ names) (filter ∷ filters) same named fit short = (device-said name filter named.0 fit.0 short.0, device-lines names filters (omega arith) named.1 fit.1 short.1)

command-lines : (s : Contents) → AllByRecursion (λ name. is_name name ≡ true) s.names → AllDiffer s.names → (commands : List Command) → AllByRecursion (IsWithin (length s.names)) commands → AllByRecursion (λ x. IfSome (record_of x) IsInRange) commands
    → AllByRecursion (FitsCommand s) commands → AllByRecursion HasValues commands → AllByRecursion IsShort (map (line_of_command s) commands) → AreCommandLines s commands
command-lines s named apart [] within range fit has short = tt
command-lines s named apart (x ∷ xs) within range fit has short =
    (command-line s named apart x within.0 range.0 fit.0 has.0 short.0, command-lines s named apart xs within.1 range.1 fit.1 has.1 short.1)

plain-devices : (names : List (List ℕ)) (filters : List Tree) → AreDeviceLines names filters → AllByRecursion (λ l. is_from 32 l ≡ true) (lines_of_devices names filters)
plain-devices [] filters lines = tt
plain-devices (name ∷ names) [] lines = absurd lines
plain-devices (name ∷ names) (filter ∷ filters) lines = (lines.0.plain, plain-devices names filters lines.1)

plain-commands : (s : Contents) (commands : List Command) → AreCommandLines s commands → AllByRecursion (λ l. is_from 32 l ≡ true) (map (line_of_command s) commands)
plain-commands s [] lines = tt
plain-commands s (x ∷ xs) lines = (lines.0.plain, plain-commands s xs lines.1)

pub plain-both : (xs ys : List (List ℕ)) → AllByRecursion (λ l. is_from 32 l ≡ true) xs → AllByRecursion (λ l. is_from 32 l ≡ true) ys → AllByRecursion (λ l. is_from 32 l ≡ true) (xs ++ ys)
plain-both [] ys h g = g
plain-both (x ∷ xs) ys h g = (h.0, plain-both xs ys h.1 g)

pub printed-is-read : PrintedIsRead
printed-is-read s script values fits =
    let devices = lines_of_devices s.names s.filters in
    let changes = map (line_of_command s) s.commands in
    let lines = lines_of_script s in
    let d = device-lines s.names s.filters script.filtered fits.named fits.filters (short-front devices changes fits.lines) in
    let c = command-lines s fits.named fits.apart s.commands script.known script.in_range fits.commands values.commands (short-rest devices changes fits.lines) in
    let names : names_of lines ≡ s.names =
    flat_map-append (λ l. declared_by (fields_of l)) devices changes ∙ ap (λ n. names_of devices ++ n) (names-commands s s.commands c) ∙ append-nil (names_of devices) ∙ names-devices s.names s.filters d in
    let filters : filters_of lines ≡ s.filters =
    flat_map-append (λ l. filter_declared_by (fields_of l) (third_field_on l)) devices changes ∙ ap (λ n. filters_of devices ++ n) (filters-commands s s.commands c) ∙ append-nil (filters_of devices) ∙ filters-devices s.names s.filters script.filtered d in
    let room = script.devices in
    let first = devices-said 1 [] s.names s.filters changes refl (omega arith) fits.apart d in
    let none : commands_of devices ≡ 0 = commands-devices [] s.names s.filters refl d in
    let few = script.commands in
    let made = subst (λ ps. AllDiffer (ps ++ pictures_made s.commands)) (sym (pictures-devices s.names s.filters d)) fits.made_once in
    let said : commands_said 1 (sayings [] lines) ≡ Ok s.commands = first.1 ∙ commands-are-said s first.0 devices s.commands (names-devices s.names s.filters d) (omega arith) made c in
    script_of-text (text_of_script s) fits.small values.utf8
    ∙ ap script_of_lines (lines-ended lines (plain-both devices changes (plain-devices s.names s.filters d) (plain-commands s s.commands c)))
    ∙ ap (λ n. script_of_commands n (filters_of lines) (commands_said 1 (sayings [] lines))) names
    ∙ ap (λ f. script_of_commands s.names f (commands_said 1 (sayings [] lines))) filters
    ∙ ap (script_of_commands s.names s.filters) said
