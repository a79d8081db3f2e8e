-- After any commands of a script in any order, each device is sound and nothing current is lost.
use Rattle.std.proofs.Common.{ℕ, List, [], sym, ap, ◌∙◌, subst, arith}
use Rattle.photo_filter_text.specs.Tree.{Tree}
use Rattle.photo_filter_rules.specs.Matching.{IsInRange}
use Rattle.photo_version.specs.Author.{author, device_of_author}
use Rattle.photo_version.specs.Words.{device_back}
use Rattle.photo_model.specs.Device.{ModelDevice, opening}
use Rattle.fleet_model.specs.Runs.{Fleet, opening_from, run_in_order, numbers_to}
use Rattle.fleet_model.specs.Sound.{is_sound, IsSoundAndKept}
use Rattle.fleet_model.specs.Laws.{StaysSoundAndKept, StaysSoundInAnyOrder}
use Rattle.fleet_model.proofs.Members.{in_nothing, all_from}
use Rattle.fleet_model.proofs.Traced.{IsTracedDevice, IsTraced}
use Rattle.fleet_model.proofs.EachCommand.{IsKept, after_each, after_all_of}
use Rattle.fleet_model.proofs.ReadyRuns.{opened_at}
use Rattle.fleet_model.proofs.SoundFacts.{IsSoundDevice, IsSoundFleet}
use Rattle.fleet_model.proofs.SoundTests.{each_is_sound, fleet_is_kept, held_is_logged, holds_no_older, knows_whole}
use Rattle.fleet_model.proofs.SoundFleets.{making_sound, narrowing_sound, refiltering_sound, pulling_sound}

opening_knows : (n : ℕ) (tree : Tree) → IsTracedDevice [] (opening (author n) tree)
opening_knows n tree = record {
  made_only = λ p v h. absurd (grind arith);
  logged = λ e i. i;
}

opening_traced : (filters : List Tree) → IsTraced [] (opening_from 0 filters)
opening_traced filters = record {
  log_is = record { once = λ v. omega arith; distinct = λ e f i. in_nothing i; made_only = λ w i. in_nothing i };
  author = λ k h. let r = opened_at k filters h in ap (λ (d : ModelDevice). device_of_author d.author) r.1 ∙ device_back k 0 (omega arith);
  counted = λ e i. in_nothing i;
  each = λ k h. let r = opened_at k filters h in subst (IsTracedDevice []) (sym r.1) (opening_knows k r.0);
}

nothing_sound : (n : ℕ) (tree : Tree) → IsSoundDevice [] (opening (author n) tree)
nothing_sound n tree = record {
  held_known = λ e i. in_nothing i;
  closed = λ w i. in_nothing i;
  no_older = λ w v i. in_nothing i;
  selected = λ e i. in_nothing i;
  unselected = λ e i. in_nothing i;
  stored = λ e i. in_nothing i;
  newest = λ e w i. in_nothing i;
}

pub opening_sound : (filters : List Tree) → IsSoundFleet [] (opening_from 0 filters)
opening_sound filters = record {
  traced = opening_traced filters;
  orderly = record { transitive = λ w x i. in_nothing i; in_range = λ e i. in_nothing i };
  each = λ k h. let r = opened_at k filters h in subst (IsSoundDevice []) (sym r.1) (nothing_sound k r.0);
  kept = λ e i. in_nothing i;
}

pub sound_kept : IsKept IsInRange IsSoundFleet
sound_kept = record {
  removed = tt;
  making = λ log ds k p r H h fits. making_sound log ds H k p r h fits;
  narrowing = λ log ds k tree H h covered. narrowing_sound log ds H k tree h covered;
  refiltering = λ log ds k tree H h few. refiltering_sound log ds H k tree h few;
  pulling = λ log ds t s H h k apart. pulling_sound log ds H t s h k apart;
}

-- the promise follows from the facts that runs keep
pub sound_and_kept : (fleet : Fleet) → IsSoundFleet fleet.log fleet.devices → IsSoundAndKept fleet
sound_and_kept fleet facts = record {
  sound = all_from (is_sound fleet.log) fleet.devices (each_is_sound fleet.log fleet.devices facts);
  kept = fleet_is_kept fleet.log fleet.devices facts;
  logged = held_is_logged fleet.log fleet.devices facts;
  once = facts.traced.log_is.once;
  no_older = holds_no_older fleet.log fleet.devices facts;
  whole = knows_whole fleet.log fleet.devices facts;
}

-- the law for any commands in any order, with the log in that order
pub stays_sound_in_any_order : StaysSoundInAnyOrder
stays_sound_in_any_order script numbers is few =
    sound_and_kept (run_in_order script numbers) (after_all_of IsInRange IsSoundFleet sound_kept script is is.in_range (opening_sound script.filters) numbers few).fact

pub stays_sound_and_kept : StaysSoundAndKept
stays_sound_and_kept script n is =
    sound_and_kept (run_in_order script (numbers_to n)) (after_each IsInRange IsSoundFleet sound_kept script is is.in_range (opening_sound script.filters) n).fact
