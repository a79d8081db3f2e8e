-- Only a script within the limits is read back from its text.
use Rattle.std.proofs.Common.{◌≡◌, ℕ, suc, ◌+◌, ◌≤◌, true, not, ltb, List, [], ◌∷◌, ◌++◌, length, map, Option, Some, None, Result, Ok, Err, refl, sym, ap, subst, ◌∙◌, append_assoc, length-append, arith}
use Rattle.std.specs.Prelude.{IfSome}
use Rattle.std.specs.List.{AllByRecursion}
use Rattle.std.specs.Option.{option_to_list}
use Rattle.std.specs.Str.{is_utf8}
use Rattle.std.proofs.lemmas.Bool.{ltb-false}
use Rattle.std.proofs.lemmas.List.{append-nil}
use Rattle.std.proofs.lemmas.List.Concat.{flat_map-append}
use Rattle.photo_filter_text.specs.Tree.{Tree}
use Rattle.photo_filter_text.specs.Printed.{IsSound}
use Rattle.photo_filter_rules.specs.Matching.{IsInRange}
use Rattle.fleet_model.specs.Contents.{Contents, contents, IsWithin, record_of}
use Rattle.script_reader.specs.Earlier.{earlier, made_by, names_of, filters_of, pictures_of}
use Rattle.script_reader.specs.Fields.{is_name}
use Rattle.script_reader.specs.Limits.{max_text_bytes}
use Rattle.script_reader.specs.Lines.{lines_of, fields_of}
use Rattle.script_reader.specs.Reading.{sayings, commands_said, script_of_commands, script_of}
use Rattle.script_reader.specs.Saying.{said}
use Rattle.fleet_model.specs.declared.command.Command.{Command}
use Rattle.script_reader.specs.declared.fault.LineFault.{LineFault}
use Rattle.script_reader.specs.declared.fault.ScriptFault.{ScriptFault}
use Rattle.script_reader.specs.declared.fault.ScriptFault.TheVariants.{TooLarge, NotUtf8}
use Rattle.script_text.specs.Laws.{HasTyped, ReadIsPrintable}
use Rattle.script_text.specs.Texts.{line_of_command, line_of_device, lines_of_devices, lines_of_script, text_of_script}
use Rattle.script_text.specs.Printable.{HasValues, AllDiffer, pictures_made, made_in}
use Rattle.script_text.specs.Parts.{FitDevices, FitsLine}
use Rattle.script_text.proofs.Accepting.{passed, line-parts, first-said, accepted-good}
use Rattle.script_text.proofs.Adding.{names-more, names-devices, pictures-devices, AreCommandLines}
use Rattle.script_text.proofs.Bytes.{is_from}
use Rattle.script_text.proofs.CommandLines.{command-line}
use Rattle.script_text.proofs.Cuts.{lines-ended}
use Rattle.script_text.proofs.Fitting.{filters-fit, devices-short, PartsFit, printable}
use Rattle.script_text.proofs.LineNeeds.{device-needs, Needs, command-needs, device-plain}
use Rattle.script_text.proofs.Printed.{device-lines, plain-both}

-- the lines of devices

plain-devices : (s : Contents) (all : AllByRecursion (λ name. is_name name ≡ true) s.names) (names : List (List ℕ)) (filters : List Tree) → AllByRecursion (λ name. is_name name ≡ true) names → AllByRecursion IsSound filters → AllByRecursion (λ l. is_from 32 l ≡ true) (lines_of_devices names filters)
plain-devices s all [] filters named sound = tt
plain-devices s all (name ∷ names) [] named sound = tt
plain-devices s all (name ∷ names) (filter ∷ filters) named sound = (device-plain s all name filter named.0 sound.0, plain-devices s all names filters named.1 sound.1)

devices-needed : (n : ℕ) (done names : List (List ℕ)) (filters : List Tree) (more : List (List ℕ)) (commands : List Command) → AllByRecursion (λ name. is_name name ≡ true) names → AllByRecursion IsSound filters
    → commands_said n (sayings done (lines_of_devices names filters ++ more)) ≡ Ok commands → FitDevices names filters × ((m : ℕ) × (commands_said m (sayings (done ++ lines_of_devices names filters) more) ≡ Ok commands))
devices-needed n done [] filters more commands named sound h = (tt, (n, ap (λ d. commands_said n (sayings d more)) (append-nil done) ∙ h))
devices-needed n done (name ∷ names) [] more commands named sound h = (tt, (n, ap (λ d. commands_said n (sayings d more)) (append-nil done) ∙ h))
devices-needed n done (name ∷ names) (filter ∷ filters) more commands named sound h =
    let line = line_of_device name filter in
    let later = lines_of_devices names filters in
    let f = first-said n (said (earlier done) line) (sayings (done ++ line ∷ []) (later ++ more)) commands h in
    let d = device-needs (earlier done) name filter f.one named.0 sound.0 f.says in
    let same : f.others ≡ commands = sym (ap (λ o. option_to_list o ++ f.others) d.1) ∙ f.whole in
    let r = devices-needed (n + 1) (done ++ line ∷ []) names filters more commands named.1 sound.1 (f.go_on ∙ ap Ok same) in
    ((d.0, r.0), (r.1.0, ap (λ ds. commands_said r.1.0 (sayings ds more)) (sym (append_assoc done (line ∷ []) later)) ∙ r.1.1))

-- the lines of commands

one-few : (o : Option Command) → length (option_to_list o) ≤ 1
one-few None = omega arith
one-few (Some x) = omega arith

few-said : (n : ℕ) (rs : List (Result (Option Command) LineFault)) (commands : List Command) → commands_said n rs ≡ Ok commands → length commands ≤ length rs
few-said n [] commands h = let none : [] ≡ commands = cc in omega (arith, ap length none)
few-said n (r ∷ rs) commands h =
    let f = first-said n r rs commands h in
    let one = one-few f.one in
    let rest = few-said (n + 1) rs f.others f.go_on in
    omega (arith, ap length f.whole, length-append (option_to_list f.one) f.others)

length-sayings : (done lines : List (List ℕ)) → length (sayings done lines) ≡ length lines
length-sayings done [] = refl
length-sayings done (line ∷ lines) = ap suc (length-sayings (done ++ line ∷ []) lines)

length-lines : (s : Contents) (commands : List Command) → length (map (line_of_command s) commands) ≡ length commands
length-lines s [] = refl
length-lines s (x ∷ xs) = ap suc (length-lines s xs)

pick : (o : Option Command) (others : List Command) (x : Command) (xs : List Command) → option_to_list o ++ others ≡ x ∷ xs → length others ≤ length xs → (o ≡ Some x) × (others ≡ xs)
pick None others x xs e few = absurd (omega (arith, ap length e))
pick (Some z) others x xs e few = let same : z ≡ x = cc in (ap Some same, cc)

abbrev AllNeed : Contents → List Command → Type 0
AllNeed s commands = AllByRecursion (Needs s) commands

commands-needed : (s : Contents) (named : AllByRecursion (λ name. is_name name ≡ true) s.names) (apart : AllDiffer s.names) (n : ℕ) (done : List (List ℕ)) (commands : List Command) → names_of done ≡ s.names
    → AllByRecursion (IsWithin (length s.names)) commands → AllByRecursion (λ x. IfSome (record_of x) IsInRange) commands → AllByRecursion HasValues commands → AllNeed s commands
    → commands_said n (sayings done (map (line_of_command s) commands)) ≡ Ok commands → AllByRecursion (FitsLine s) commands × AreCommandLines s commands
commands-needed s named apart n done [] names within range has need h = (tt, tt)
commands-needed s named apart n done (x ∷ xs) names within range has need h =
    let line = line_of_command s x in
    let f = first-said n (said (earlier done) line) (sayings (done ++ line ∷ []) (map (line_of_command s) xs)) (x ∷ xs) h in
    let few = few-said (n + 1) (sayings (done ++ line ∷ []) (map (line_of_command s) xs)) f.others f.go_on in
    let p = pick f.one f.others x xs f.whole (omega (arith, length-sayings (done ++ line ∷ []) (map (line_of_command s) xs), length-lines s xs)) in
    let says : said (earlier done) line ≡ Ok (Some x) = f.says ∙ ap Ok p.0 in
    let fits = need.0.needs (earlier done) names says in
    let short = (line-parts (earlier done) line (Some x) says).0 in
    let is = command-line s named apart x within.0 range.0 fits has.0 short in
    let names' : names_of (done ++ line ∷ []) ≡ s.names = names-more done line ∙ ap (λ ns. names_of done ++ ns) is.no_name ∙ append-nil (names_of done) ∙ names in
    let rest = commands-needed s named apart (n + 1) (done ++ line ∷ []) xs names' within.1 range.1 has.1 need.1 (f.go_on ∙ ap Ok p.1) in
    (((fits, short), rest.0), (is, rest.1))

all-need : (s : Contents) (named : AllByRecursion (λ name. is_name name ≡ true) s.names) (commands : List Command) → AllByRecursion (IsWithin (length s.names)) commands → AllByRecursion (λ x. IfSome (record_of x) IsInRange) commands → AllByRecursion HasValues commands → AllByRecursion HasTyped commands → AllNeed s commands
all-need s named [] within range has typed = tt
all-need s named (x ∷ xs) within range has typed = (command-needs s named x within.0 range.0 has.0 typed.0, all-need s named xs within.1 range.1 has.1 typed.1)

plain-commands : (s : Contents) (commands : List Command) → AllNeed s commands → AllByRecursion (λ l. is_from 32 l ≡ true) (map (line_of_command s) commands)
plain-commands s [] need = tt
plain-commands s (x ∷ xs) need = (need.0.plain, plain-commands s xs need.1)

pictures-commands : (s : Contents) (commands : List Command) → AreCommandLines s commands → pictures_of (map (line_of_command s) commands) ≡ pictures_made commands
pictures-commands s [] lines = refl
pictures-commands s (x ∷ xs) lines = ap (λ ps. ps ++ pictures_of (map (line_of_command s) xs)) lines.0.makes ∙ ap (λ ps. made_in x ++ ps) (pictures-commands s xs lines.1)

-- The whole text

record IsAccepted (text : List ℕ) (s : Contents) : Type 0 where
  small : length text ≤ max_text_bytes
  names : names_of (lines_of text) ≡ s.names
  said : commands_said 1 (sayings [] (lines_of text)) ≡ Ok s.commands

of-commands : (names : List (List ℕ)) (filters : List Tree) (r : Result (List Command) ScriptFault) (s : Contents) → script_of_commands names filters r ≡ Ok s → (names ≡ s.names) × (r ≡ Ok s.commands)
of-commands names filters (Err e) s h = cc
of-commands names filters (Ok commands) s h = let same : contents names filters commands ≡ s = cc in (ap (λ c. c.names) same, ap (λ c. Ok c.commands) same)

accepted : (text : List ℕ) (s : Contents) → script_of text ≡ Ok s → IsAccepted text s
unfolding script_of
accepted text s h =
    let large = passed (ltb max_text_bytes (length text)) TooLarge _ s h in
    let utf8 = passed (not (is_utf8 text)) NotUtf8 _ s large.1 in
    let parts = of-commands (names_of (lines_of text)) (filters_of (lines_of text)) (commands_said 1 (sayings [] (lines_of text))) s utf8.1 in
    record { small = ltb-false max_text_bytes (length text) large.0; names = parts.0; said = parts.1 }

pub read-is-printable : ReadIsPrintable
read-is-printable s script values typed h =
    let devices = lines_of_devices s.names s.filters in
    let changes = map (line_of_command s) s.commands in
    let a = accepted (text_of_script s) s h in
    let good = accepted-good (lines_of (text_of_script s)) s.commands a.said in
    let named = subst (AllByRecursion (λ name. is_name name ≡ true)) a.names good.named in
    let apart = subst AllDiffer a.names good.apart in
    let need = all-need s named s.commands script.known script.in_range values.commands typed.commands in
    let lines : lines_of (text_of_script s) ≡ lines_of_script s = lines-ended (lines_of_script s) (plain-both devices changes (plain-devices s named s.names s.filters named typed.filters) (plain-commands s s.commands need)) in
    let said : commands_said 1 (sayings [] (devices ++ changes)) ≡ Ok s.commands = ap (λ ls. commands_said 1 (sayings [] ls)) (sym lines) ∙ a.said in
    let first = devices-needed 1 [] s.names s.filters changes s.commands named typed.filters said in
    let d = device-lines s.names s.filters script.filtered named (filters-fit s.names s.filters script.filtered first.0) (devices-short s.names s.filters first.0) in
    let rest = commands-needed s named apart first.1.0 devices s.commands (names-devices s.names s.filters d) script.known script.in_range values.commands need first.1.1 in
    let pictures : pictures_of (lines_of (text_of_script s)) ≡ pictures_made s.commands =
    ap pictures_of lines ∙ flat_map-append (λ l. made_by (fields_of l)) devices changes ∙ ap (λ ps. ps ++ pictures_of changes) (pictures-devices s.names s.filters d) ∙ pictures-commands s s.commands rest.1 in
    let fit : PartsFit s = record { named = named; apart = apart; made_once = subst AllDiffer pictures good.made; devices = first.0; commands = rest.0; values = values.commands } in
    printable s script fit a.small
