-- The worked examples: definitions are computed, and plans and lawful orders are built command by command.
use Rattle.std.proofs.Common.{◌≡◌, ℕ, suc, ◌<◌, List, [], ◌∷◌, ◌++◌, length, set, refl, arith}
use Rattle.std.specs.Prelude.{Option, Some, None, IfSome, slice_index, codes}
use Rattle.std.specs.Str.{chars, is_utf8}
use lib.Utf8.{encode}
use Rattle.jiff_core.specs.Calendar.{days_from_civil, day_count, days_of_years, days_of_months}
use Rattle.unicode_normalization.proofs.Computing.{unicode_normalization}
use Rattle.photo_record.specs.Reading.{day_of_text, words_of_text, word_of_text}
use Rattle.photo_filter_text.specs.Tree.{All}
use Rattle.photo_filter_text.specs.Steps.{symbol_of, at_factor, after_term, after_factor}
use Rattle.photo_filter_rules.specs.Filters.{filter_of}
use Rattle.fleet_model.specs.Contents.{Contents, contents, command_of, devices_of}
use Rattle.fleet_model.specs.declared.command.Command.{Command}
use Rattle.script_reader.specs.Saying.{said, fields_said, command_line_said, question_line_said, device_line_said, filter_said, declaration_said, new_line_said, creation_said, command_said, device_said, new_picture_said, record_said, list_line_said, two_said, two_devices_said, pull_line_said}
use Rattle.script_reader.specs.Reading.{script_of}
use Rattle.photo_batcher.specs.Orders.{IsLawful}
use Rattle.photo_batcher.specs.Greedy.{first_free, before_it}
use Rattle.photo_batcher.specs.Plans.{planned, entry_of, IsPlan}
use Rattle.photo_batcher.specs.Steps.{ArePlaces, read_second, with_place, with_member, IsDraft}
use Rattle.photo_batcher.specs.Examples.{four_devices, four_planned, named, FourBatches, FourInOrder, NamedInAVersion, NothingPlanned}
use Rattle.photo_batcher.proofs.Planned.{planned_more}
use Rattle.photo_batcher.proofs.Drafts.{draft_none, draft_more, draft_all}
use Rattle.photo_batcher.proofs.Checked.{checked_none, checked_more, lawful_from}
use Rattle.photo_batcher.proofs.OnePlan.{chain_is_longest}

module _ (script : Contents) where
  places : (n : ℕ) (c : Command) → command_of script n ≡ Some c → (devices_of c).0 < length script.names → IfSome (devices_of c).1 (λ k. k < length script.names) → ArePlaces script n (devices_of c).0 (devices_of c).1
  places n c is first second = record { command = c; is = is; first_is = refl; second_is = refl; first_in = first; second_in = second }

  -- a draft with one more command
  one_more : (n first : ℕ) (second : Option ℕ) (x a : ℕ) (last batches afters : List ℕ) (rows : List (List ℕ)) → IsDraft script n last batches afters rows → n < length script.commands → ArePlaces script (suc n) first second
      → x ≡ first_free (entry_of batches) (slice_index last first) (read_second last second)
      → a ≡ before_it (entry_of batches) (slice_index last first) (read_second last second)
      → IsDraft script (suc n) (with_place second (suc n) (set last first (suc n))) (batches ++ x ∷ []) (afters ++ a ∷ []) (with_member x (suc n) rows)
  one_more n first second x a last batches afters rows d few p is_x is_a =
      draft_more script n (suc n) x last batches afters (with_place second (suc n) (set last first (suc n))) (batches ++ x ∷ []) (afters ++ a ∷ []) rows refl d few
      (planned_more script n (suc n) first second last batches afters x a refl d.planned_to p is_x is_a) refl

four_plan : IsPlan four_devices four_planned
four_plan =
    let d0 = draft_none four_devices (0 ∷ 0 ∷ 0 ∷ 0 ∷ []) refl in
    let d1 = one_more four_devices 0 0 None 0 0 (0 ∷ 0 ∷ 0 ∷ 0 ∷ []) [] [] [] d0 (omega arith) (places four_devices 1 _ refl (omega arith) tt) refl refl in
    let d2 = one_more four_devices 1 2 None 0 0 (1 ∷ 0 ∷ 0 ∷ 0 ∷ []) (0 ∷ []) (0 ∷ []) ((1 ∷ []) ∷ []) d1 (omega arith) (places four_devices 2 _ refl (omega arith) tt) refl refl in
    let d3 = one_more four_devices 2 1 (Some 0) 1 1 (1 ∷ 0 ∷ 2 ∷ 0 ∷ []) (0 ∷ 0 ∷ []) (0 ∷ 0 ∷ []) ((1 ∷ 2 ∷ []) ∷ []) d2 (omega arith) (places four_devices 3 _ refl (omega arith) (omega arith)) refl refl in
    let d4 = one_more four_devices 3 3 (Some 2) 1 2 (3 ∷ 3 ∷ 2 ∷ 0 ∷ []) (0 ∷ 0 ∷ 1 ∷ []) (0 ∷ 0 ∷ 1 ∷ []) ((1 ∷ 2 ∷ []) ∷ (3 ∷ []) ∷ []) d3 (omega arith) (places four_devices 4 _ refl (omega arith) (omega arith)) refl refl in
    let d5 = one_more four_devices 4 2 (Some 1) 2 4 (3 ∷ 3 ∷ 4 ∷ 4 ∷ []) (0 ∷ 0 ∷ 1 ∷ 1 ∷ []) (0 ∷ 0 ∷ 1 ∷ 2 ∷ []) ((1 ∷ 2 ∷ []) ∷ (3 ∷ 4 ∷ []) ∷ []) d4 (omega arith) (places four_devices 5 _ refl (omega arith) (omega arith)) refl refl in
    let d6 = one_more four_devices 5 0 None 2 3 (3 ∷ 5 ∷ 5 ∷ 4 ∷ []) (0 ∷ 0 ∷ 1 ∷ 1 ∷ 2 ∷ []) (0 ∷ 0 ∷ 1 ∷ 2 ∷ 4 ∷ []) ((1 ∷ 2 ∷ []) ∷ (3 ∷ 4 ∷ []) ∷ (5 ∷ []) ∷ []) d5 (omega arith) (places four_devices 6 _ refl (omega arith) tt) refl refl in
    let d7 = one_more four_devices 6 3 (Some 0) 3 6 (6 ∷ 5 ∷ 5 ∷ 4 ∷ []) (0 ∷ 0 ∷ 1 ∷ 1 ∷ 2 ∷ 2 ∷ []) (0 ∷ 0 ∷ 1 ∷ 2 ∷ 4 ∷ 3 ∷ []) ((1 ∷ 2 ∷ []) ∷ (3 ∷ 4 ∷ []) ∷ (5 ∷ 6 ∷ []) ∷ []) d6 (omega arith) (places four_devices 7 _ refl (omega arith) (omega arith)) refl refl in
    draft_all four_devices 7 (7 ∷ 5 ∷ 5 ∷ 7 ∷ []) (0 ∷ 0 ∷ 1 ∷ 1 ∷ 2 ∷ 2 ∷ 3 ∷ []) (0 ∷ 0 ∷ 1 ∷ 2 ∷ 4 ∷ 3 ∷ 6 ∷ []) ((1 ∷ 2 ∷ []) ∷ (3 ∷ 4 ∷ []) ∷ (5 ∷ 6 ∷ []) ∷ (7 ∷ []) ∷ []) refl d7

pub four_batches : FourBatches
unfolding chars is_utf8 encode days_from_civil day_count days_of_years days_of_months unicode_normalization day_of_text words_of_text word_of_text said fields_said command_line_said question_line_said device_line_said filter_said symbol_of at_factor after_term after_factor filter_of declaration_said new_line_said creation_said command_said device_said new_picture_said record_said list_line_said two_said two_devices_said pull_line_said script_of
four_batches = record {
  script = refl;
  plan = four_plan;
  longest = chain_is_longest four_devices four_planned 7 (1 ∷ 3 ∷ 6 ∷ 7 ∷ []) (omega arith) (omega arith) (record { first = 1; rest = 3 ∷ 6 ∷ 7 ∷ []; is = refl; none = refl; linked = (refl, (refl, (refl, tt))); ends = refl }) four_plan;
  tied = record { earlier = omega arith; related = record { device = 1; first = refl; second = refl }; below = refl };
  later = record { earlier = omega arith; related = record { device = 2; first = refl; second = refl }; below = refl };
  shorter = chain_is_longest four_devices four_planned 5 (2 ∷ 4 ∷ 5 ∷ []) (omega arith) (omega arith) (record { first = 2; rest = 4 ∷ 5 ∷ []; is = refl; none = refl; linked = (refl, (refl, tt)); ends = refl }) four_plan;
}

four_lawful : IsLawful four_devices (2 ∷ 1 ∷ 4 ∷ 3 ∷ 6 ∷ 5 ∷ 7 ∷ [])
four_lawful =
    let l0 = checked_none four_devices (0 ∷ 0 ∷ 0 ∷ 0 ∷ []) refl in
    let l1 = checked_more four_devices [] (0 ∷ 0 ∷ 0 ∷ 0 ∷ []) 2 2 None (omega arith, omega arith) l0 (places four_devices 2 _ refl (omega arith) tt) (omega arith) in
    let l2 = checked_more four_devices (2 ∷ []) (0 ∷ 0 ∷ 2 ∷ 0 ∷ []) 1 0 None (omega arith, omega arith) l1 (places four_devices 1 _ refl (omega arith) tt) (omega arith) in
    let l3 = checked_more four_devices (2 ∷ 1 ∷ []) (1 ∷ 0 ∷ 2 ∷ 0 ∷ []) 4 3 (Some 2) (omega arith, omega arith) l2 (places four_devices 4 _ refl (omega arith) (omega arith)) (omega arith, omega arith) in
    let l4 = checked_more four_devices (2 ∷ 1 ∷ 4 ∷ []) (1 ∷ 0 ∷ 4 ∷ 4 ∷ []) 3 1 (Some 0) (omega arith, omega arith) l3 (places four_devices 3 _ refl (omega arith) (omega arith)) (omega arith, omega arith) in
    let l5 = checked_more four_devices (2 ∷ 1 ∷ 4 ∷ 3 ∷ []) (3 ∷ 3 ∷ 4 ∷ 4 ∷ []) 6 0 None (omega arith, omega arith) l4 (places four_devices 6 _ refl (omega arith) tt) (omega arith) in
    let l6 = checked_more four_devices (2 ∷ 1 ∷ 4 ∷ 3 ∷ 6 ∷ []) (6 ∷ 3 ∷ 4 ∷ 4 ∷ []) 5 2 (Some 1) (omega arith, omega arith) l5 (places four_devices 5 _ refl (omega arith) (omega arith)) (omega arith, omega arith) in
    let l7 = checked_more four_devices (2 ∷ 1 ∷ 4 ∷ 3 ∷ 6 ∷ 5 ∷ []) (6 ∷ 5 ∷ 5 ∷ 4 ∷ []) 7 3 (Some 0) (omega arith, omega arith) l6 (places four_devices 7 _ refl (omega arith) (omega arith)) (omega arith, omega arith) in
    lawful_from four_devices (2 ∷ 1 ∷ 4 ∷ 3 ∷ 6 ∷ 5 ∷ 7 ∷ []) l7.numbers l7.in_order refl

pub four_in_order : FourInOrder
four_in_order = record {
  lawful = four_lawful;
  same_reports = refl;
  other_log = refl;
  reports = refl;
  log = refl;
  counts = refl;
  too_early = λ l. let bad : 3 < 1 = l.in_order.0.0 (record { device = 0; first = refl; second = refl }) in omega arith;
  missing = λ l. let bad : 0 ≡ 1 = l.once 7 (omega arith, omega arith) in omega arith;
  twice = λ l. let bad : 2 ≡ 1 = l.once 1 (omega arith, omega arith) in omega arith;
}

named_plan : IsPlan named (planned (0 ∷ 0 ∷ []) (0 ∷ 0 ∷ []) ((1 ∷ 2 ∷ []) ∷ []))
named_plan =
    let d0 = draft_none named (0 ∷ 0 ∷ []) refl in
    let d1 = one_more named 0 0 None 0 0 (0 ∷ 0 ∷ []) [] [] [] d0 (omega arith) (places named 1 _ refl (omega arith) tt) refl refl in
    let d2 = one_more named 1 1 None 0 0 (1 ∷ 0 ∷ []) (0 ∷ []) (0 ∷ []) ((1 ∷ []) ∷ []) d1 (omega arith) (places named 2 _ refl (omega arith) tt) refl refl in
    draft_all named 2 (1 ∷ 2 ∷ []) (0 ∷ 0 ∷ []) (0 ∷ 0 ∷ []) ((1 ∷ 2 ∷ []) ∷ []) refl d2

named_lawful : IsLawful named (2 ∷ 1 ∷ [])
named_lawful =
    let l0 = checked_none named (0 ∷ 0 ∷ []) refl in
    let l1 = checked_more named [] (0 ∷ 0 ∷ []) 2 1 None (omega arith, omega arith) l0 (places named 2 _ refl (omega arith) tt) (omega arith) in
    let l2 = checked_more named (2 ∷ []) (0 ∷ 2 ∷ []) 1 0 None (omega arith, omega arith) l1 (places named 1 _ refl (omega arith) tt) (omega arith) in
    lawful_from named (2 ∷ 1 ∷ []) l2.numbers l2.in_order refl

pub named_in_a_version : NamedInAVersion
named_in_a_version = record { plan = named_plan; lawful = named_lawful }

pub nothing_planned : NothingPlanned
nothing_planned =
    let none = contents [] [] [] in
    let one = contents (codes "a" ∷ []) (All ∷ []) [] in
    record {
      empty = draft_all none 0 [] [] [] [] refl (draft_none none [] refl);
      silent = draft_all one 0 (0 ∷ []) [] [] [] refl (draft_none one (0 ∷ []) refl);
      lawful = lawful_from none [] tt tt refl;
    }
