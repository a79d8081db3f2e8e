-- What the printed lines of a script say, one after another.
use Rattle.std.proofs.Common.{◌≡◌, ℕ, ◌+◌, ◌<◌, ◌≤◌, true, false, cond, eqb, List, [], ◌∷◌, ◌++◌, length, get_or, map, Option, Some, None, Result, Ok, Err, codes, refl, sym, ap, subst, ◌∙◌, append_assoc, length-append, zero-add, arith}
use Rattle.std.specs.List.{AllByRecursion, list_any}
use Rattle.std.specs.Option.{option_to_list}
use Rattle.std.proofs.lemmas.Bool.{ne_eqb}
use Rattle.std.proofs.lemmas.List.{append-nil, get_or_at, get_or_append_left}
use Rattle.std.proofs.lemmas.List.Concat.{flat_map-append}
use Rattle.std.proofs.lemmas.List.Elements.{All-from_get_or}
use Rattle.std.proofs.lemmas.List.Folds.{list_any_none}
use Rattle.std.proofs.lemmas.List.Sums.{sum_by-append}
use Rattle.photo_filter_text.specs.Tree.{Tree}
use Rattle.photo_filter_text.specs.Printed.{◌␣◌, text_of}
use Rattle.photo_filter_rules.specs.Filters.{filter_of}
use Rattle.photo_filter_rules.proofs.Found.{found}
use Rattle.fleet_model.specs.Contents.{Contents}
use Rattle.script_reader.specs.Earlier.{Earlier, earlier, declared_by, filter_declared_by, made_by, is_command, names_of, filters_of, pictures_of, commands_of}
use Rattle.script_reader.specs.Fields.{is_name, place_of}
use Rattle.fleet_model.specs.Limits.{max_devices, max_commands}
use Rattle.script_reader.specs.Lines.{fields_of, third_field_on}
use Rattle.script_reader.specs.Reading.{sayings, with_front, commands_said}
use Rattle.script_reader.specs.Saying.{said, fields_said}
use Rattle.fleet_model.specs.declared.command.Command.{Command}
use Rattle.script_reader.specs.declared.fault.LineFault.{LineFault}
use Rattle.script_reader.specs.declared.fault.ScriptFault.{ScriptFault}
use Rattle.script_text.specs.Laws.{IsBefore}
use Rattle.script_text.specs.Texts.{line_of_command, line_of_device, lines_of_devices}
use Rattle.script_text.specs.Printable.{FitsFilter, made_in, pictures_made, AllDiffer, IsShort}
use Rattle.script_text.proofs.Bytes.{is_from, from-append}
use Rattle.script_text.proofs.Cuts.{field-first, third-on}
use Rattle.script_text.proofs.FilterBytes.{filter-plain, filter-begins}
use Rattle.script_text.proofs.NameBytes.{name-field, unplaced}
use Rattle.script_text.proofs.SaidKinds.{device-line}
use Rattle.script_text.proofs.CommandLines.{IsLineOf, fields-said, field-plain, word}

-- One more line

pub names-more : (lines : List (List ℕ)) (line : List ℕ) → names_of (lines ++ line ∷ []) ≡ names_of lines ++ declared_by (fields_of line)
names-more lines line = flat_map-append (λ l. declared_by (fields_of l)) lines (line ∷ []) ∙ ap (λ n. names_of lines ++ n) (append-nil (declared_by (fields_of line)))

pub pictures-more : (lines : List (List ℕ)) (line : List ℕ) → pictures_of (lines ++ line ∷ []) ≡ pictures_of lines ++ made_by (fields_of line)
pictures-more lines line = flat_map-append (λ l. made_by (fields_of l)) lines (line ∷ []) ∙ ap (λ n. pictures_of lines ++ n) (append-nil (made_by (fields_of line)))

commands-more : (lines : List (List ℕ)) (line : List ℕ) → commands_of (lines ++ line ∷ []) ≡ commands_of lines + cond (is_command (fields_of line)) 1 0
commands-more lines line = sum_by-append (λ l. cond (is_command (fields_of l)) 1 0) lines (line ∷ []) ∙ ap (λ n. commands_of lines + n) (zero-add _)

-- Lines of devices

-- what a line that declares a name and its filter says
pub record IsDeviceLine (name : List ℕ) (filter : Tree) (line : List ℕ) : Type 0 where
  pub plain : is_from 32 line ≡ true
  pub declares : declared_by (fields_of line) ≡ name ∷ []
  pub has_filter : filter_declared_by (fields_of line) (third_field_on line) ≡ filter ∷ []
  pub makes : made_by (fields_of line) ≡ []
  pub counts : is_command (fields_of line) ≡ false
  pub says : (before : Earlier) → before.commands ≤ 0 → length before.names < max_devices → place_of before.names name ≡ None → said before line ≡ Ok None

pub device-said : (name : List ℕ) (filter : Tree) → is_name name ≡ true → FitsFilter filter → IsShort (line_of_device name filter) → IsDeviceLine name filter (line_of_device name filter)
device-said name filter good fits short =
    let b = filter-begins filter in
    let start = word (codes "device") refl refl in
    let n = name-field name good in
    let line = line_of_device name filter in
    let fields = codes "device" ∷ name ∷ b.first ∷ b.more in
    let is : fields_of line ≡ fields = field-first (codes "device") (name ␣ text_of filter) start ∙ ap (λ fs. codes "device" ∷ fs) (field-first name (text_of filter) n ∙ ap (λ fs. name ∷ fs) b.fields) in
    let third : third_field_on line ≡ text_of filter = third-on (codes "device") name (text_of filter) start n b.at_once in
    let whole : filter_of (text_of filter) ≡ Some filter = (found (text_of filter) filter).1 fits in
    record {
      plain = from-append 32 (codes "device") (32 ∷ (name ␣ text_of filter)) (field-plain (codes "device") start) (from-append 32 name (32 ∷ text_of filter) (field-plain name n) (filter-plain fits.read.grammar));
      declares = ap declared_by is;
      has_filter = ap (λ fs. filter_declared_by fs (third_field_on line)) is ∙ ap (λ t. option_to_list (filter_of t)) third ∙ ap option_to_list whole;
      makes = ap made_by is;
      counts = ap is_command is;
      says = λ before early room fresh. fields-said before line short ∙ ap (λ fs. fields_said before fs (third_field_on line)) is ∙ ap (fields_said before fields) third
          ∙ device-line before name b.first b.more (text_of filter) filter early room good fresh fits;
    }

-- each name has such a line with its filter
abbrev pub AreDeviceLines : List (List ℕ) → List Tree → Type 0
AreDeviceLines [] filters = Unit {0}
AreDeviceLines (name ∷ names) [] = ⊥
AreDeviceLines (name ∷ names) (filter ∷ filters) = IsDeviceLine name filter (line_of_device name filter) × AreDeviceLines names filters

silent : (r : Result (List Command) ScriptFault) → with_front [] r ≡ r
silent (Ok commands) = refl
silent (Err e) = refl

step-none : (n : ℕ) (first : Result (Option Command) LineFault) (rest : List (Result (Option Command) LineFault)) → first ≡ Ok None → commands_said n (first ∷ rest) ≡ commands_said (n + 1) rest
step-none n first rest e = ap (λ f. commands_said n (f ∷ rest)) e ∙ silent (commands_said (n + 1) rest)

step-some : (n : ℕ) (first : Result (Option Command) LineFault) (rest : List (Result (Option Command) LineFault)) (x : Command) (xs : List Command) → first ≡ Ok (Some x) → commands_said (n + 1) rest ≡ Ok xs → commands_said n (first ∷ rest) ≡ Ok (x ∷ xs)
step-some n first rest x xs e h = ap (λ f. commands_said n (f ∷ rest)) e ∙ ap (with_front (x ∷ [])) h

-- the lines of devices give no commands
pub devices-said : (n : ℕ) (done : List (List ℕ)) (names : List (List ℕ)) (filters : List Tree) (more : List (List ℕ)) → commands_of done ≡ 0 → length (names_of done) + length names ≤ max_devices → AllDiffer (names_of done ++ names) → AreDeviceLines names filters
    → (m : ℕ) × (commands_said n (sayings done (lines_of_devices names filters ++ more)) ≡ commands_said m (sayings (done ++ lines_of_devices names filters) more))
devices-said n done [] filters more none room apart lines = (n, ap (λ d. commands_said n (sayings d more)) (sym (append-nil done)))
devices-said n done (name ∷ names) [] more none room apart lines = absurd lines
devices-said n done (name ∷ names) (filter ∷ filters) more none room apart lines =
    let line = line_of_device name filter in
    let rest = lines_of_devices names filters in
    let first = lines.0 in
    let says = first.says (earlier done) (omega arith) (omega arith) (unplaced (names_of done) name names apart) in
    let names' : names_of (done ++ line ∷ []) ≡ names_of done ++ name ∷ [] = names-more done line ∙ ap (λ n. names_of done ++ n) first.declares in
    let commands' : commands_of (done ++ line ∷ []) ≡ 0 = commands-more done line ∙ ap (λ b. commands_of done + cond b 1 0) first.counts ∙ omega arith in
    let room' : length (names_of (done ++ line ∷ [])) + length names ≤ max_devices = omega (arith, ap length names', length-append (names_of done) (name ∷ [])) in
    let apart' = subst AllDiffer (sym (ap (λ ns. ns ++ names) names' ∙ append_assoc (names_of done) (name ∷ []) names)) apart in
    let after = devices-said (n + 1) (done ++ line ∷ []) names filters more commands' room' apart' lines.1 in
    (after.0, step-none n (said (earlier done) line) (sayings (done ++ line ∷ []) (rest ++ more)) says ∙ after.1 ∙ ap (λ d. commands_said after.0 (sayings d more)) (append_assoc done (line ∷ []) rest))

-- what the lines of devices tell later lines
pub names-devices : (names : List (List ℕ)) (filters : List Tree) → AreDeviceLines names filters → names_of (lines_of_devices names filters) ≡ names
names-devices [] filters lines = refl
names-devices (name ∷ names) [] lines = absurd lines
names-devices (name ∷ names) (filter ∷ filters) lines = ap (λ ns. ns ++ names_of (lines_of_devices names filters)) lines.0.declares ∙ ap (λ ns. name ∷ ns) (names-devices names filters lines.1)

pub filters-devices : (names : List (List ℕ)) (filters : List Tree) → length filters ≡ length names → AreDeviceLines names filters → filters_of (lines_of_devices names filters) ≡ filters
filters-devices [] [] same lines = refl
filters-devices [] (filter ∷ filters) same lines = absurd (omega arith)
filters-devices (name ∷ names) [] same lines = absurd lines
filters-devices (name ∷ names) (filter ∷ filters) same lines = ap (λ fs. fs ++ filters_of (lines_of_devices names filters)) lines.0.has_filter ∙ ap (λ fs. filter ∷ fs) (filters-devices names filters (omega arith) lines.1)

pub pictures-devices : (names : List (List ℕ)) (filters : List Tree) → AreDeviceLines names filters → pictures_of (lines_of_devices names filters) ≡ []
pictures-devices [] filters lines = refl
pictures-devices (name ∷ names) [] lines = absurd lines
pictures-devices (name ∷ names) (filter ∷ filters) lines = ap (λ ps. ps ++ pictures_of (lines_of_devices names filters)) lines.0.makes ∙ pictures-devices names filters lines.1

pub commands-devices : (done : List (List ℕ)) (names : List (List ℕ)) (filters : List Tree) → commands_of done ≡ 0 → AreDeviceLines names filters → commands_of (done ++ lines_of_devices names filters) ≡ 0
commands-devices done [] filters none lines = ap commands_of (append-nil done) ∙ none
commands-devices done (name ∷ names) [] none lines = absurd lines
commands-devices done (name ∷ names) (filter ∷ filters) none lines =
    let line = line_of_device name filter in
    let next : commands_of (done ++ line ∷ []) ≡ 0 = commands-more done line ∙ ap (λ b. commands_of done + cond b 1 0) lines.0.counts ∙ omega arith in
    ap commands_of (sym (append_assoc done (line ∷ []) (lines_of_devices names filters))) ∙ commands-devices (done ++ line ∷ []) names filters next lines.1

-- Lines of commands

abbrev pub AreCommandLines : Contents → List Command → Type 0
AreCommandLines s commands = AllByRecursion (λ x. IsLineOf s x (line_of_command s x)) commands

pub names-commands : (s : Contents) (commands : List Command) → AreCommandLines s commands → names_of (map (line_of_command s) commands) ≡ []
names-commands s [] lines = refl
names-commands s (x ∷ xs) lines = ap (λ ns. ns ++ names_of (map (line_of_command s) xs)) lines.0.no_name ∙ names-commands s xs lines.1

pub filters-commands : (s : Contents) (commands : List Command) → AreCommandLines s commands → filters_of (map (line_of_command s) commands) ≡ []
filters-commands s [] lines = refl
filters-commands s (x ∷ xs) lines = ap (λ fs. fs ++ filters_of (map (line_of_command s) xs)) lines.0.no_filter ∙ filters-commands s xs lines.1

-- the picture isn't among those before it
pub not-made : (front : List ℕ) (p : ℕ) (rest : List ℕ) → AllDiffer (front ++ p ∷ rest) → list_any (λ q. eqb q p) front ≡ false
not-made front p rest apart =
    let all = front ++ p ∷ rest in
    let here : get_or all (length front) 0 ≡ p = get_or_at front p rest 0 (length front) refl in
    let within : length front < length all = omega (arith, length-append front (p ∷ rest)) in
    list_any_none (λ q. eqb q p) front (All-from_get_or (λ q. eqb q p ≡ false) front 0 (λ k lt.
    ne_eqb (get_or front k 0) p (λ e. apart k (length front) 0 lt within (get_or_append_left front (p ∷ rest) 0 k lt ∙ e ∙ sym here))))

-- the lines of commands say these commands
pub commands-are-said : (s : Contents) (n : ℕ) (done : List (List ℕ)) (commands : List Command) → names_of done ≡ s.names → commands_of done + length commands ≤ max_commands → AllDiffer (pictures_of done ++ pictures_made commands) → AreCommandLines s commands
    → commands_said n (sayings done (map (line_of_command s) commands)) ≡ Ok commands
commands-are-said s n done [] names room apart lines = refl
commands-are-said s n done (x ∷ xs) names room apart lines =
    let line = line_of_command s x in
    let first = lines.0 in
    let fresh = λ (p : ℕ) (e : made_in x ≡ p ∷ []). not-made (pictures_of done) p (pictures_made xs) (subst (λ ps. AllDiffer (pictures_of done ++ (ps ++ pictures_made xs))) e apart) in
    let before : IsBefore s x (earlier done) = record { names = names; room = omega arith; fresh = fresh } in
    let names' : names_of (done ++ line ∷ []) ≡ s.names = names-more done line ∙ ap (λ ns. names_of done ++ ns) first.no_name ∙ append-nil (names_of done) ∙ names in
    let commands' : commands_of (done ++ line ∷ []) ≡ commands_of done + 1 = commands-more done line ∙ ap (λ b. commands_of done + cond b 1 0) first.counts in
    let pictures' : pictures_of (done ++ line ∷ []) ≡ pictures_of done ++ made_in x = pictures-more done line ∙ ap (λ ps. pictures_of done ++ ps) first.makes in
    let apart' = subst AllDiffer (sym (ap (λ ps. ps ++ pictures_made xs) pictures' ∙ append_assoc (pictures_of done) (made_in x) (pictures_made xs))) apart in
    step-some n (said (earlier done) line) (sayings (done ++ line ∷ []) (map (line_of_command s) xs)) x xs (first.says (earlier done) before)
    (commands-are-said s (n + 1) (done ++ line ∷ []) xs names' (omega arith) apart' lines.1)
