-- The lines of a script, appended one by one, and whether they fit.
use Rattle.std.proofs.Common.{◌≡◌, ℕ, ◌+◌, List, ◌∷◌, ◌++◌, drop, map, slice_get, Some, sym, ap, subst, ◌∙◌, append_assoc}
use Rattle.std.specs.List.{AllByRecursion}
use Rattle.std.proofs.lemmas.List.{drop_more}
use Rattle.std.proofs.lemmas.Option.{get_or_from_slice_get, slice_get_within}
use Rattle.photo_filter_text.specs.Tree.{Tree}
use Rattle.fleet_model.specs.Contents.{Contents}
use Rattle.fleet_model.specs.declared.command.Command.{Command}
use Rattle.script_text.specs.Texts.{line_of_command, line_of_device, lines_of_devices, text_of_lines, ended}
use Rattle.script_text.specs.Printable.{HasValues}
use Rattle.script_text.specs.Parts.{FitsDevice, FitDevices, FitsLine}

-- the remaining elements, split at the first
left : {X : Type 0} (xs : List X) (i : ℕ) (x : X) → slice_get xs i ≡ Some x → drop i xs ≡ x ∷ drop (i + 1) xs
left xs i x at = drop_more xs i x (slice_get_within xs i x at) ∙ ap (λ y. y ∷ drop (i + 1) xs) (get_or_from_slice_get xs i x x at)

-- the lines of the first i devices are appended, and they fit
pub record DevicesArePut (names : List (List ℕ)) (filters : List Tree) (old now : List ℕ) (i : ℕ) : Type 0 where
  pub text : now ++ text_of_lines (lines_of_devices (drop i names) (drop i filters)) ≡ old ++ text_of_lines (lines_of_devices names filters)
  pub fit : FitDevices (drop i names) (drop i filters) → FitDevices names filters
  pub needs : FitDevices names filters → FitDevices (drop i names) (drop i filters)

module _ (names : List (List ℕ)) (filters : List Tree) (old now : List ℕ) (i : ℕ) (h : DevicesArePut names filters old now i) where
  module _ (name : List ℕ) (filter : Tree) (named : slice_get names i ≡ Some name) (filtered : slice_get filters i ≡ Some filter) where
    lines-left : lines_of_devices (drop i names) (drop i filters) ≡ line_of_device name filter ∷ lines_of_devices (drop (i + 1) names) (drop (i + 1) filters)
    lines-left = ap (λ ns. lines_of_devices ns (drop i filters)) (left names i name named) ∙ ap (lines_of_devices (name ∷ drop (i + 1) names)) (left filters i filter filtered)

    fit-from : FitDevices (name ∷ drop (i + 1) names) (filter ∷ drop (i + 1) filters) → FitDevices (drop i names) (drop i filters)
    fit-from g = subst (λ ns. FitDevices ns (drop i filters)) (sym (left names i name named)) (subst (FitDevices (name ∷ drop (i + 1) names)) (sym (left filters i filter filtered)) g)

    fit-to : FitDevices (drop i names) (drop i filters) → FitDevices (name ∷ drop (i + 1) names) (filter ∷ drop (i + 1) filters)
    fit-to g = subst (FitDevices (name ∷ drop (i + 1) names)) (left filters i filter filtered) (subst (λ ns. FitDevices ns (drop i filters)) (left names i name named) g)

    -- one more device
    pub device-put : (new : List ℕ) → FitsDevice name filter → new ≡ now ++ ended (line_of_device name filter) → DevicesArePut names filters old new (i + 1)
    device-put new fits is = record {
      text =
          let rest = text_of_lines (lines_of_devices (drop (i + 1) names) (drop (i + 1) filters)) in
          ap (λ t. t ++ rest) is ∙ append_assoc now (ended (line_of_device name filter)) rest ∙ ap (λ ls. now ++ text_of_lines ls) (sym lines-left) ∙ h.text;
      fit = λ g. h.fit (fit-from (fits, g));
      needs = λ g. (fit-to (h.needs g)).1;
    }

    -- one more device, whose line doesn't fit
    pub device-refused : (FitsDevice name filter → ⊥) → FitDevices names filters → ⊥
    device-refused bad g = bad (fit-to (h.needs g)).0

-- the same for commands
pub record CommandsArePut (s : Contents) (commands : List Command) (old now : List ℕ) (i : ℕ) : Type 0 where
  pub text : now ++ text_of_lines (map (line_of_command s) (drop i commands)) ≡ old ++ text_of_lines (map (line_of_command s) commands)
  pub fit : AllByRecursion (FitsLine s) (drop i commands) → AllByRecursion (FitsLine s) commands
  pub needs : AllByRecursion (FitsLine s) commands → AllByRecursion (FitsLine s) (drop i commands)
  pub values : AllByRecursion HasValues (drop i commands) → AllByRecursion HasValues commands

module _ (s : Contents) (commands : List Command) (old now : List ℕ) (i : ℕ) (h : CommandsArePut s commands old now i) where
  module _ (x : Command) (at : slice_get commands i ≡ Some x) where
    pub command-put : (new : List ℕ) → FitsLine s x → HasValues x → new ≡ now ++ ended (line_of_command s x) → CommandsArePut s commands old new (i + 1)
    command-put new fits has is = record {
      text =
          let rest = text_of_lines (map (line_of_command s) (drop (i + 1) commands)) in
          ap (λ t. t ++ rest) is ∙ append_assoc now (ended (line_of_command s x)) rest ∙ ap (λ xs. now ++ text_of_lines (map (line_of_command s) xs)) (sym (left commands i x at)) ∙ h.text;
      fit = λ g. h.fit (subst (AllByRecursion (FitsLine s)) (sym (left commands i x at)) (fits, g));
      needs = λ g. (subst (AllByRecursion (FitsLine s)) (left commands i x at) (h.needs g)).1;
      values = λ g. h.values (subst (AllByRecursion HasValues) (sym (left commands i x at)) (has, g));
    }
