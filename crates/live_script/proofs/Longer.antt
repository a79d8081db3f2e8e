-- The run of a script with one command more.
use Rattle.std.proofs.Common.{◌≡◌, ℕ, zero, suc, ◌+◌, ◌-◌, ◌<◌, ◌≤◌, List, [], ◌∷◌, ◌++◌, inl, inr, length, set, replicate, refl, sym, ap, ◌∙◌, add-one, le_refl, length-append, length-set, arith}
use Rattle.std.specs.Prelude.{Option, Some, None, slice_get}
use Rattle.std.specs.Option.{option_to_list}
use Rattle.std.proofs.lemmas.List.{length-replicate, replicate-append-replicate, set-append_left, set_at}
use Rattle.std.proofs.lemmas.List.Concat.{flat_map-append}
use Rattle.std.proofs.lemmas.List.Sums.{fold-append}
use Rattle.std.proofs.lemmas.Option.{slice_get_cases}
use Rattle.photo_filter_text.specs.Tree.{Tree}
use Rattle.fleet_model.specs.Answers.{ModelReport}
use Rattle.fleet_model.specs.declared.command.Command.{Command}
use Rattle.fleet_model.specs.Contents.{Contents, contents}
use Rattle.fleet_model.specs.Runs.{Fleet, after_command, opening_fleet, step, run_in_order, numbers_to, run, reports_of}
use Rattle.fleet_model.specs.Steps.{effect_on, devices_after}
use Rattle.fleet_model.proofs.EachCommand.{stepped, not_stepped}

-- a run has a place for each report
long_reports : (script : Contents) (n : ℕ) → length (run_in_order script (numbers_to n)).reports ≡ length script.commands
long_reports script zero = length-replicate (length script.commands) None
long_reports script (suc n) =
    let before = run_in_order script (numbers_to n) in
    ap (λ (f : Fleet). length f.reports) (fold-append (step script) (opening_fleet script) (numbers_to n) (suc n ∷ [])) ∙ by before (long_reports script n)
  where
    by : (f : Fleet) → length f.reports ≡ length script.commands → length (step script f (suc n)).reports ≡ length script.commands
    by f long = elim (slice_get_cases script.commands n).1 [
      | inl found ↦ ap (λ (g : Fleet). length g.reports) (stepped script f n found.0 found.2) ∙ length-set f.reports (suc n - 1) _ ∙ long
      | inr past ↦ ap (λ (g : Fleet). length g.reports) (not_stepped script f n past.1) ∙ long
    ]

got_before : (xs : List Command) (y : Command) (n : ℕ) (x : Command) → slice_get xs n ≡ Some x → slice_get (xs ++ y ∷ []) n ≡ Some x
got_before [] y n x h = cc
got_before (z ∷ xs) y zero x h = h
got_before (z ∷ xs) y (suc n) x h = got_before xs y n x h

pub got_last : (xs : List Command) (y : Command) → slice_get (xs ++ y ∷ []) (length xs) ≡ Some y
got_last [] y = refl
got_last (x ∷ xs) y = got_last xs y

-- with a place for one report more
abbrev placed : Fleet → Fleet
placed f = record { devices = f.devices; reports = f.reports ++ None ∷ []; log = f.log }

placed_after : (f : Fleet) (n : ℕ) (c : Command) → n < length f.reports → after_command (placed f) (suc n) c ≡ placed (after_command f (suc n) c)
placed_after f n c within =
    let one : suc n - 1 ≡ n = omega arith in
    let r : Option ModelReport = Some (effect_on f.devices c).report in
    let same : set (f.reports ++ None ∷ []) (suc n - 1) r ≡ set f.reports (suc n - 1) r ++ None ∷ [] = set-append_left f.reports (None ∷ []) (suc n - 1) r (omega arith) in
    λ i. record { devices = devices_after f.devices c; reports = same i; log = f.log ++ (effect_on f.devices c).entries }

module _ (names : List (List ℕ)) (filters : List Tree) (commands : List Command) (c : Command) where
  abbrev short : Contents
  short = contents names filters commands

  abbrev longer : Contents
  longer = contents names filters (commands ++ c ∷ [])

  opens : opening_fleet longer ≡ placed (opening_fleet short)
  opens =
      let count : length (commands ++ c ∷ []) ≡ length commands + 1 = length-append commands (c ∷ []) in
      let places : replicate (length (commands ++ c ∷ [])) None ≡ replicate (length commands) None ++ None ∷ [] = ap (λ (n : ℕ). replicate n None) count ∙ sym (replicate-append-replicate (length commands) 1 None) in
      λ i. record { devices = (opening_fleet short).devices; reports = places i; log = [] }

  along : (n : ℕ) → n ≤ length commands → run_in_order longer (numbers_to n) ≡ placed (run_in_order short (numbers_to n))
  along zero few = opens
  along (suc n) few = elim (slice_get_cases commands n).1 [
    | inl found ↦
        let before = run_in_order short (numbers_to n) in
        let x = found.0 in
        let long : length before.reports ≡ length commands = long_reports short n in
        fold-append (step longer) (opening_fleet longer) (numbers_to n) (suc n ∷ []) ∙ ap (λ (f : Fleet). step longer f (suc n)) (along n (omega arith))
        ∙ stepped longer (placed before) n x (got_before commands c n x found.2) ∙ placed_after before n x (omega (arith, found.1, long))
        ∙ ap placed (sym (fold-append (step short) (opening_fleet short) (numbers_to n) (suc n ∷ []) ∙ stepped short before n x found.2))
    | inr past ↦ let far = past.0 in absurd (omega arith)
  ]

  abbrev done : Fleet
  done = run short

  -- what the command makes of the run before it, with its report behind the others
  pub runs_longer : run longer ≡ record { devices = devices_after done.devices c; reports = done.reports ++ Some (effect_on done.devices c).report ∷ []; log = done.log ++ (effect_on done.devices c).entries }
  runs_longer =
      let n = length commands in
      let count : length (commands ++ c ∷ []) ≡ suc n = length-append commands (c ∷ []) ∙ add-one n in
      let one : suc n - 1 ≡ n = omega arith in
      let r : Option ModelReport = Some (effect_on done.devices c).report in
      let put : set (done.reports ++ None ∷ []) (suc n - 1) r ≡ done.reports ++ r ∷ [] = set_at done.reports None [] r (suc n - 1) (long_reports short n ∙ sym one) in
      ap (λ (k : ℕ). run_in_order longer (numbers_to k)) count
      ∙ fold-append (step longer) (opening_fleet longer) (numbers_to n) (suc n ∷ []) ∙ ap (λ (f : Fleet). step longer f (suc n)) (along n (le_refl n))
      ∙ stepped longer (placed done) n c (got_last commands c)
      ∙ (λ i. record { devices = devices_after done.devices c; reports = put i; log = done.log ++ (effect_on done.devices c).entries })

  pub reports_longer : reports_of (run longer) ≡ reports_of done ++ (effect_on done.devices c).report ∷ []
  reports_longer = ap reports_of runs_longer ∙ flat_map-append option_to_list done.reports (Some (effect_on done.devices c).report ∷ [])
