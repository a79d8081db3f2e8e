-- Proofs of the worked pulls: what moves is computed; statements about every picture and version are proved.
use Rattle.std.proofs.Common.{◌≡◌, true, false, refl, arith}
use Rattle.std.proofs.lemmas.Bool.{false≢true}
use Rattle.photo_model.specs.Pull.{IsTaughtNothing}
use Rattle.photo_model.specs.Examples.{nth, informed, phone, TheUpToDate, TheTaughtNothing, TheModelPull}

no : false ≡ true → ⊥
no e = false≢true e

pub the_up_to_date : TheUpToDate
the_up_to_date = record { all_known = refl; one_unknown = refl; one_waiting = refl; one_stale = refl; kept_by_both = refl; not_covered = refl; none_held = refl }

all_taught : IsTaughtNothing informed phone
all_taught learned p v above known = grind arith

pub the_taught_nothing : TheTaughtNothing
the_taught_nothing = record {
  not_covered = λ learned p v above known. absurd (no learned);
  all_known = all_taught;
  one_unknown = λ n. no (n refl 8 (nth 1 1) (omega arith) refl);
  none_held = λ n. no (n refl 8 (nth 1 1) (omega arith) refl);
}

pub the_model_pull : TheModelPull
the_model_pull = record { shot_taken = refl; removal_handed = refl; edit_noticed = refl; counted = refl; counted_choosy = refl; stored = refl; waiting = refl; source_out = refl }
