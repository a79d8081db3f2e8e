-- What a reader shows of the lines that it has taken.
use Rattle.std.proofs.Common.{◌≡◌, ◌+◌, ◌∷◌, ◌++◌, ℕ, List, [], length, cond, ◌||◌, eqb, Option, Ok, sym, ap, ◌∙◌, length-append, zero-add}
use Rattle.std.specs.List.{list_any}
use Rattle.std.specs.Option.{option_to_list}
use Rattle.std.proofs.lemmas.List.{append-nil}
use Rattle.std.proofs.lemmas.List.Concat.{flat_map-append}
use Rattle.std.proofs.lemmas.List.Folds.{list_any-append}
use Rattle.std.proofs.lemmas.List.Sums.{sum_by-append}
use Rattle.photo_filter_text.specs.Tree.{Tree}
use Rattle.script_reader.specs.Lines.{fields_of, third_field_on}
use Rattle.script_reader.specs.Earlier.{earlier, names_of, filters_of, pictures_of, commands_of, declared_by, filter_declared_by, made_by, is_command}
use Rattle.script_reader.specs.Saying.{said}
use Rattle.script_reader.specs.Steps.{HasTaken, IsFirst, Takes, seen}
use Rattle.fleet_model.specs.declared.command.Command.{Command}
use Rattle.script_reader.specs.declared.reader.Reader.{Reader}
use Rattle.script_reader.proofs.Gathered.{commands_said-more}

-- at first it has taken none
pub HasTaken-none : (r : Reader) → IsFirst r → HasTaken [] r
HasTaken-none r first = record {
  names = ap (λ s. s.names) first.script;
  filters = ap (λ s. s.filters) first.script;
  makes = first.makes;
  counted = ap (λ s. length s.commands) first.script;
  said = ap (λ s. Ok s.commands) (sym first.script);
}

-- so it has seen what they tell
pub seen-earlier : (lines : List (List ℕ)) (r : Reader) → HasTaken lines r → seen r ≡ earlier lines
seen-earlier lines r h = λ i. record { names = h.names i; makes = λ p. h.makes p i; commands = h.counted i }

pub names_of-push : (lines : List (List ℕ)) (line : List ℕ) → names_of (lines ++ line ∷ []) ≡ names_of lines ++ declared_by (fields_of line)
names_of-push lines line = flat_map-append (λ l. declared_by (fields_of l)) lines (line ∷ []) ∙ ap (λ n. names_of lines ++ n) (append-nil (declared_by (fields_of line)))

abbrev pub filter_by : List ℕ → List Tree
filter_by line = filter_declared_by (fields_of line) (third_field_on line)

pub filters_of-push : (lines : List (List ℕ)) (line : List ℕ) → filters_of (lines ++ line ∷ []) ≡ filters_of lines ++ filter_by line
filters_of-push lines line = flat_map-append filter_by lines (line ∷ []) ∙ ap (λ n. filters_of lines ++ n) (append-nil (filter_by line))

pictures_of-push : (lines : List (List ℕ)) (line : List ℕ) → pictures_of (lines ++ line ∷ []) ≡ pictures_of lines ++ made_by (fields_of line)
pictures_of-push lines line = flat_map-append (λ l. made_by (fields_of l)) lines (line ∷ []) ∙ ap (λ n. pictures_of lines ++ n) (append-nil (made_by (fields_of line)))

pub commands_of-push : (lines : List (List ℕ)) (line : List ℕ) → commands_of (lines ++ line ∷ []) ≡ commands_of lines + cond (is_command (fields_of line)) 1 0
commands_of-push lines line = sum_by-append (λ l. cond (is_command (fields_of l)) 1 0) lines (line ∷ []) ∙ ap (λ n. commands_of lines + n) (zero-add _)

-- and after one line more that is so of one line more
pub HasTaken-more : (lines : List (List ℕ)) (line : List ℕ) (old new : Reader) (x : Option Command) → HasTaken lines old → said (seen old) line ≡ Ok x → Takes old (fields_of line) (third_field_on line) x new → HasTaken (lines ++ line ∷ []) new
HasTaken-more lines line old new x h says takes = record {
  names = takes.names ∙ ap (λ n. n ++ declared_by (fields_of line)) h.names ∙ sym (names_of-push lines line);
  filters = takes.filters ∙ ap (λ n. n ++ filter_by line) h.filters ∙ sym (filters_of-push lines line);
  makes = λ p.
      let test = λ (q : ℕ). eqb q p in
      takes.makes p ∙ ap (λ b. b || list_any test (made_by (fields_of line))) (h.makes p) ∙ sym (ap (list_any test) (pictures_of-push lines line) ∙ list_any-append test (pictures_of lines) (made_by (fields_of line)));
  counted = ap length takes.commands ∙ length-append old.script.commands (option_to_list x) ∙ ap (λ n. n + length (option_to_list x)) h.counted ∙ ap (λ n. commands_of lines + n) takes.counted ∙ sym (commands_of-push lines line);
  said = commands_said-more lines line old.script.commands h.said x (ap (λ b. said b line) (sym (seen-earlier lines old h)) ∙ says) ∙ ap Ok (sym takes.commands);
}
