-- Devices are ready for a pull after every run of a script's commands, in any order.
use Rattle.std.proofs.Common.{◌≡◌, ℕ, zero, suc, ◌+◌, ◌<◌, ◌≤◌, false, List, [], ◌∷◌, length, get_or, refl, sym, ap, ◌∙◌, subst, arith}
use Rattle.std.proofs.lemmas.Bool.{false≢true}
use Rattle.std.specs.Prelude.{Option, Some, None, IfSome}
use Rattle.std.specs.List.{AllByRecursion}
use Rattle.photo_record.specs.declared.record.Record.{Record}
use Rattle.photo_filter_text.specs.Tree.{Tree, All}
use Rattle.photo_version.specs.Author.{author, device_of_author}
use Rattle.photo_version.specs.Words.{device_back}
use Rattle.photo_version.specs.Version.{Version}
use Rattle.photo_model.specs.Device.{ModelDevice, known, holds, opening}
use Rattle.fleet_model.specs.declared.command.Command.{Command}
use Rattle.fleet_model.specs.Contents.{Contents, IsScript, record_of}
use Rattle.fleet_model.specs.Runs.{device_at, opening_from, run_in_order, numbers_to}
use Rattle.fleet_model.specs.Members.{In}
use Rattle.fleet_model.specs.Ready.{IsReady}
use Rattle.fleet_model.proofs.Members.{in_nothing}
use Rattle.fleet_model.proofs.ReadySteps.{making_ready, narrowing_ready, refiltering_ready, pulling_ready}
use Rattle.fleet_model.proofs.EachCommand.{IsKept, FitsAll, after_each, after_all_of}

-- the device at a place among a script's opening devices
opened_or : (n k : ℕ) (filters : List Tree) (d : ModelDevice) → k < length (opening_from n filters) → (tree : Tree) × (get_or (opening_from n filters) k d ≡ opening (author (n + k)) tree)
opened_or n k [] d h = absurd (omega arith)
opened_or n zero (tree ∷ filters) d h = (tree, ap (λ (m : ℕ). opening (author m) tree) (omega arith))
opened_or n (suc k) (tree ∷ filters) d h =
    let r = opened_or (n + 1) k filters d (omega arith) in
    (r.0, r.1 ∙ ap (λ (m : ℕ). opening (author m) r.0) (omega arith))

pub opened_at : (k : ℕ) (filters : List Tree) → k < length (opening_from 0 filters) → (tree : Tree) × (device_at (opening_from 0 filters) k ≡ opening (author k) tree)
opened_at k filters h =
    let r = opened_or 0 k filters (opening (author k) All) h in
    (r.0, r.1 ∙ ap (λ (m : ℕ). opening (author m) r.0) (omega arith))

-- the opening devices are ready

opening_known : (n : ℕ) (tree : Tree) (p : ℕ) (v : Version) → known (opening (author n) tree) p v ≡ false
opening_known n tree p v = refl

pub opening_ready : (filters : List Tree) → IsReady (opening_from 0 filters)
opening_ready filters = record {
  author = λ k h. let r = opened_at k filters h in ap (λ (d : ModelDevice). device_of_author d.author) r.1 ∙ device_back k 0 (omega arith);
  one = λ t s h k e g i. let r = opened_at t filters h in in_nothing (subst (λ (d : ModelDevice). In e (holds d)) r.1 i);
  own = λ t s p n h k here. absurd (false≢true (sym (none s k p _) ∙ here));
  later = λ t s p v h k late. none s k p v;
  held = λ k h e i. let r = opened_at k filters h in in_nothing (subst (λ (d : ModelDevice). In e (holds d)) r.1 i);
}
  where
    none : (s : ℕ) → s < length (opening_from 0 filters) → (p : ℕ) (v : Version) → known (device_at (opening_from 0 filters) s) p v ≡ false
    none s k p v = let r = opened_at s filters k in subst (λ (d : ModelDevice). known d p v ≡ false) (sym r.1) (opening_known s r.0 p v)

pub any_fits : (r : Option Record) → IfSome r (λ x. Unit {0})
any_fits None = tt
any_fits (Some r) = tt

pub all_fit : (commands : List Command) → AllByRecursion (FitsAll (λ r. Unit {0})) commands
all_fit [] = tt
all_fit (c ∷ commands) = (any_fits (record_of c), all_fit commands)

-- each step keeps the devices ready; the log doesn't matter
pub ready_kept : IsKept (λ r. Unit {0}) (λ log ds. IsReady ds)
ready_kept = record {
  removed = tt;
  making = λ log ds k p r R h _. making_ready ds R k p r h;
  narrowing = λ log ds k tree R h _. narrowing_ready ds R k tree h;
  refiltering = λ log ds k tree R h few. refiltering_ready ds R k tree h few;
  pulling = λ log ds t s R h k _. pulling_ready ds R t s h k;
}

pub run_is_ready : (script : Contents) (n : ℕ) → IsScript script → IsReady (run_in_order script (numbers_to n)).devices
run_is_ready script n is = (after_each (λ r. Unit {0}) (λ log ds. IsReady ds) ready_kept script is (all_fit script.commands) (opening_ready script.filters) n).fact

-- the devices are ready after any commands in any order
pub ready_in_order : (script : Contents) (numbers : List ℕ) → IsScript script → length numbers ≤ 4_294_967_295 → IsReady (run_in_order script numbers).devices
ready_in_order script numbers is few = (after_all_of (λ r. Unit {0}) (λ log ds. IsReady ds) ready_kept script is (all_fit script.commands) (opening_ready script.filters) numbers few).fact
