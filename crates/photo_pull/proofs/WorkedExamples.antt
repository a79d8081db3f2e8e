-- The worked pulls: what is taken and told computes, and what holds of every picture and version is shown.
use Rattle.std.proofs.Common.{◌≡◌, true, false, not, ◌||◌, List, ◌++◌, refl, sym, ap, ◌∙◌, arith}
use Rattle.std.specs.List.{list_any}
use Rattle.std.proofs.lemmas.Bool.{false≢true, and_parts}
use Rattle.std.proofs.lemmas.Bool.Decides.{nat_tests}
use Rattle.photo_filter_rules.specs.Covers.{covers}
use Rattle.item_knowledge.specs.Fragments.{Fragment, knows}
use Rattle.photo_model.specs.Device.{ModelDevice, holds, knows_entry}
use Rattle.photo_device.specs.Device.{Kept, Shows}
use Rattle.photo_device.specs.Own.{KnowsItsOwn, IsDevice}
use Rattle.photo_device.specs.Examples.{nth, first}
use Rattle.photo_pull.specs.MayPull.{MayPull}
use Rattle.photo_model.specs.Pull.{IsTaughtNothing}
use Rattle.photo_pull.specs.Examples.{shot, removal, camera, informed, phone, tidy, choosy, emptied, model, TheUpToDate, TheTaughtNothing, TheModelPull, ThePassed, TheFindings, TheWanting}

pub the_up_to_date : TheUpToDate
the_up_to_date = record { all_known = refl; one_unknown = refl; one_waiting = refl; one_stale = refl; kept_by_both = refl; not_covered = refl; none_held = refl }

all_taught : IsTaughtNothing (model informed) (model phone)
all_taught learned p v above known = grind arith

pub the_taught_nothing : TheTaughtNothing
the_taught_nothing = record {
  not_covered = λ learned p v above known. absurd (false≢true learned);
  all_known = all_taught;
  one_unknown = λ n. false≢true (n refl 8 (nth 1 1) (omega arith) refl);
  none_held = λ n. false≢true (n refl 8 (nth 1 1) (omega arith) refl);
}

pub the_model_pull : TheModelPull
the_model_pull = record { shot_taken = refl; removal_handed = refl; edit_noticed = refl; counted = refl; counted_choosy = refl; stored = refl; waiting = refl; source_out = refl; known_stays = refl }

pub the_passed : ThePassed
the_passed = record {
  up_to_it = record { order = refl; same = λ k later. grind (arith, nat_tests) };
  nothing_passed = record { order = refl; same = λ k later. refl };
  further = record { order = refl; same = λ k later. grind (arith, nat_tests) };
  itself_passed = λ p. false≢true (p.same shot refl);
  one_behind_passed = λ p. false≢true (p.same removal refl);
  out_of_order = λ p. false≢true p.order;
}

-- the two devices, whatever they know of each other
camera_with : (ks : List Fragment) → KnowsItsOwn camera.author 1 ks → knows ks 7 first.version ≡ true → IsDevice (record camera { knowledge = ks })
camera_with ks own known = record { knows = own; store = (record { own = λ n. grind (arith, nat_tests) }, tt); out = tt; store_known = (record { above = omega arith; itself = known; history = λ v e. absurd (false≢true e) }, tt); out_known = tt; once = λ v. grind (arith, nat_tests) }

phone_with : (ks : List Fragment) → KnowsItsOwn phone.author 1 ks → knows ks 8 shot.version ≡ true → IsDevice (record phone { knowledge = ks })
phone_with ks own known = record { knows = own; store = (record { own = λ n. grind (arith, nat_tests) }, tt); out = tt; store_known = (record { above = omega arith; itself = known; history = λ v e. absurd (false≢true e) }, tt); out_known = tt; once = λ v. grind (arith, nat_tests) }

camera_is : IsDevice camera
camera_is = camera_with camera.knowledge (record { star = refl; own = λ p n above. grind (arith, nat_tests); later = λ p v above later. grind (arith, nat_tests) }) refl

informed_is : IsDevice informed
informed_is = camera_with informed.knowledge (record { star = refl; own = λ p n above. grind (arith, nat_tests); later = λ p v above later. grind (arith, nat_tests) }) refl

phone_is : IsDevice phone
phone_is = phone_with phone.knowledge (record { star = refl; own = λ p n above. grind (arith, nat_tests); later = λ p v above later. grind (arith, nat_tests) }) refl

tidy_is : IsDevice tidy
tidy_is = phone_with tidy.knowledge (record { star = refl; own = λ p n above. grind (arith, nat_tests); later = λ p v above later. grind (arith, nat_tests) }) refl

-- what both hold is of one picture, since they hold nothing of the same version
camera_may : MayPull camera phone
camera_may = record {
  differ = refl;
  one = λ v h g e f. grind (arith, nat_tests);
  own = record { own = λ p n above e. grind (arith, nat_tests); later = λ p v above later. grind (arith, nat_tests) };
}

informed_may : MayPull informed tidy
informed_may = record {
  differ = refl;
  one = camera_may.one;
  own = record { own = λ p n above e. grind (arith, nat_tests); later = λ p v above later. grind (arith, nat_tests) };
}

pub the_findings : TheFindings
the_findings = record {
  one_new = record { ready = record { target = camera_is; source = phone_is; may = camera_may }; some = refl };
  one_stale = record { ready = record { target = informed_is; source = tidy_is; may = informed_may }; some = refl };
  all_known = λ s. false≢true s.some;
  not_covered = λ s. false≢true s.some;
  none_held = λ s. false≢true s.some;
}

model_shown : (d : Kept) → Shows d (model d)
model_shown d = record { author = refl; tree = refl; counter = refl; store = refl; out = refl; known = λ p above v. refl }

-- what the phone holds isn't known to the camera
new_to_camera : (tm sm : ModelDevice) → Shows camera tm → Shows phone sm → list_any (λ e. not (knows_entry tm e)) (holds sm) ≡ true
new_to_camera tm sm shows_t shows_s =
    sym (λ i. list_any (λ e. not (knows_entry tm e)) (shows_s.store i ++ shows_s.out i))
    ∙ ap (λ b. not b || false) (sym (shows_t.known 8 (omega arith) (nth 1 1)))

pub the_wanting : TheWanting
the_wanting = record {
  one_new = λ tm sm shows_t shows_s up_to_date taught. false≢true (sym (ap not (new_to_camera tm sm shows_t shows_s)) ∙ (and_parts _ _ up_to_date).0);
  one_learned = λ tm sm shows_t shows_s up_to_date taught.
      false≢true (shows_t.known 8 (omega arith) (nth 1 1) ∙ taught (sym (λ i. covers (shows_s.tree i) (shows_t.tree i))) 8 (nth 1 1) (omega arith) (sym (shows_s.known 8 (omega arith) (nth 1 1))));
  all_known = λ h. h (model informed) (model phone) (model_shown informed) (model_shown phone) refl all_taught;
  not_covered = λ h. h (model camera) (model (choosy (emptied phone))) (model_shown camera) (model_shown (choosy (emptied phone))) refl (λ learned p v above known. absurd (false≢true learned));
}
