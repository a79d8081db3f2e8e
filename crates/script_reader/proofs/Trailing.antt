-- An empty line at the end of a script says nothing.
use Rattle.std.proofs.Common.{◌≡◌, ◌∷◌, ◌++◌, ◌⊎◌, ℕ, suc, List, [], length, map, None, Result, Ok, Err, refl, sym, ap, ◌∙◌, inl, inr, arith}
use Rattle.std.specs.Str.Lines.{strip_carriage_return}
use Rattle.std.proofs.lemmas.List.{append-nil, map-append}
use Rattle.std.proofs.lemmas.List.Concat.{flat_map-append}
use Rattle.std.proofs.lemmas.Bool.{ne_eqb}
use Rattle.script_reader.specs.Lines.{without_last_empty, pieces_of, lines_of, fields_of, third_field_on}
use Rattle.script_reader.specs.Earlier.{Earlier, earlier, names_of, filters_of, declared_by, filter_declared_by}
use Rattle.script_reader.specs.Saying.{said, fields_said}
use Rattle.script_reader.specs.Reading.{sayings, commands_said, script_of_commands, script_of_lines}
use Rattle.fleet_model.specs.declared.command.Command.{Command}
use Rattle.script_reader.specs.declared.fault.ScriptFault.{ScriptFault}
use Rattle.script_reader.proofs.Gathered.{commands_said-append, commands_said-refused}

empty_line-said : (before : Earlier) → said before [] ≡ Ok None
unfolding said fields_said
empty_line-said before = refl

-- the pieces are the lines, or there is an empty piece behind them
pieces-cases : (pieces : List (List ℕ)) → (without_last_empty pieces ≡ pieces) ⊎ (pieces ≡ without_last_empty pieces ++ [] ∷ [])
pieces-cases [] = inl refl
pieces-cases ([] ∷ []) = inr refl
pieces-cases ((c ∷ cs) ∷ []) = inl (rw (ne_eqb (suc (length cs)) 0 (λ e. omega arith)))
pieces-cases (p ∷ q ∷ more) = elim (pieces-cases (q ∷ more)) [ inl same ↦ inl (ap (λ ps. p ∷ ps) same) | inr longer ↦ inr (ap (λ ps. p ∷ ps) longer) ]

names-trailing : (lines : List (List ℕ)) → names_of (lines ++ [] ∷ []) ≡ names_of lines
names-trailing lines = flat_map-append (λ line. declared_by (fields_of line)) lines ([] ∷ []) ∙ append-nil _

filters-trailing : (lines : List (List ℕ)) → filters_of (lines ++ [] ∷ []) ≡ filters_of lines
filters-trailing lines = flat_map-append (λ line. filter_declared_by (fields_of line) (third_field_on line)) lines ([] ∷ []) ∙ append-nil _

commands-trailing : (lines : List (List ℕ)) → commands_said 1 (sayings [] (lines ++ [] ∷ [])) ≡ commands_said 1 (sayings [] lines)
commands-trailing lines = by (commands_said 1 (sayings [] lines)) refl
  where
    by : (r : Result (List Command) ScriptFault) → commands_said 1 (sayings [] lines) ≡ r → commands_said 1 (sayings [] (lines ++ [] ∷ [])) ≡ r
    by (Ok commands) h = commands_said-append 1 [] lines ([] ∷ []) commands h ∙ rw (empty_line-said (earlier lines)) (ap Ok (append-nil commands))
    by (Err e) h = commands_said-refused 1 [] lines ([] ∷ []) e h

-- so it may be read as a line
pub script_of_lines-pieces : (text : List ℕ) → script_of_lines (map strip_carriage_return (pieces_of text)) ≡ script_of_lines (lines_of text)
script_of_lines-pieces text = by (pieces_of text) (pieces-cases (pieces_of text))
  where
    by : (pieces : List (List ℕ)) → (without_last_empty pieces ≡ pieces) ⊎ (pieces ≡ without_last_empty pieces ++ [] ∷ []) → script_of_lines (map strip_carriage_return pieces) ≡ script_of_lines (map strip_carriage_return (without_last_empty pieces))
    by pieces (inl same) = ap (λ ps. script_of_lines (map strip_carriage_return ps)) (sym same)
    by pieces (inr longer) =
        let lines = map strip_carriage_return (without_last_empty pieces) in
        let all = ap (map strip_carriage_return) longer ∙ map-append strip_carriage_return (without_last_empty pieces) ([] ∷ []) in
        let said = commands_said 1 (sayings [] (lines ++ [] ∷ [])) in
        ap script_of_lines all ∙ ap (λ names. script_of_commands names (filters_of (lines ++ [] ∷ [])) said) (names-trailing lines)
        ∙ ap (λ filters. script_of_commands (names_of lines) filters said) (filters-trailing lines) ∙ ap (script_of_commands (names_of lines) (filters_of lines)) (commands-trailing lines)
