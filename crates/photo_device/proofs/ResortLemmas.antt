-- What is true of a device that gets any new filter.
use Rattle.std.proofs.Common.{◌≡◌, ℕ, ◌<◌, ◌+◌, ◌*◌, ◌/◌, Bool, true, false, not, List, [], ◌++◌, refl, sym, ap, ◌∙◌, arith}
use Rattle.std.specs.Prelude.{filter, None}
use Rattle.std.specs.List.{AllByRecursion}
use Rattle.std.proofs.lemmas.List.Folds.{list_any-append}
use Rattle.std.proofs.lemmas.Bool.Decides.{nat_tests}
use Rattle.std.proofs.lemmas.Bool.{false≢true, and_from, eq-eqb, lt-ltb}
use Rattle.photo_filter_text.specs.Tree.{Tree}
use Rattle.photo_filter_rules.specs.Matching.{matches}
use Rattle.photo_version.specs.Author.{Author, author_at, device_of_author, epoch_of_author, same_device, author_before, is_earlier_epoch}
use Rattle.photo_version.specs.Words.{device_back}
use Rattle.photo_version.proofs.AuthorLemmas.{next_parts}
use Rattle.photo_version.specs.Version.{Version, version}
use Rattle.item_knowledge.specs.Fragments.{Fragment, knows}
use Rattle.item_knowledge.specs.Kept.{nothing_known, star_bound}
use Rattle.photo_device.specs.declared.held.Held.{Held}
use Rattle.photo_model.specs.Entry.{Entry, put_entries}
use Rattle.photo_device.specs.Held.{entry_of, entries_of, put_helds}
use Rattle.photo_model.specs.Device.{ModelDevice, holds}
use Rattle.photo_device.specs.Device.{Kept, Shows}
use Rattle.photo_device.specs.declared.resorted.Resorted.{Resorted}
use Rattle.photo_device.specs.Resorted.{IsResorted}
use Rattle.photo_device.specs.Staging.{AreParts}
use Rattle.photo_device.specs.Own.{HasEarlier, IsKnownBy, IsDevice, KnowsItsOwn, KnowsNoLater}
use Rattle.photo_device.specs.Taking.{AreNewTo, with_side}
use Rattle.photo_model.specs.Telling.{tell}
use Rattle.photo_device.specs.Telling.{tells}
use Rattle.photo_model.specs.Refiltered.{refiltered, begun}
use Rattle.photo_model.proofs.AllLemmas.{all_append}
use Rattle.photo_device.proofs.Counts.{count_of-append}
use Rattle.photo_device.proofs.OwnLemmas.{all_of, none_up_to}
use Rattle.photo_device.proofs.Changed.{joins_device, new_to_empty}
use Rattle.photo_device.proofs.Shown.{entries-put_those, held_shown}
use Rattle.photo_device.proofs.TellingLemmas.{one, tell_entries, told_known, known_told}

-- the author of a later epoch is later
begins_later : (a : Author) (epoch : ℕ) → epoch_of_author a < epoch → epoch < 4294967296 → is_earlier_epoch a (author_at (device_of_author a) epoch) ≡ true
begins_later a epoch later fits =
    let next = author_at (device_of_author a) epoch in
    let before : a.word < a.word / 4294967296 * 4294967296 + epoch = omega (arith, later) in
    and_from (same_device a next) (author_before a next) (eq-eqb (device_of_author a) (device_of_author next) (sym (device_back (device_of_author a) epoch fits))) (lt-ltb a.word next.word before)

-- the next epoch is the one whose number is one more
pub next_begun : (epoch : ℕ) (tree : Tree) (d : ModelDevice) → epoch_of_author d.author < 4294967295 → epoch ≡ epoch_of_author d.author + 1 → begun epoch tree d ≡ refiltered tree d
next_begun epoch tree d h next = ap (λ n. begun n tree d) next ∙ ap (λ (a : Author). record (refiltered tree d) { author = a }) (sym (next_parts d.author h))

-- who knows no more than a device did knows no version of a later epoch of it
pub begins_later_epoch : (a later : Author) (old new : List Fragment) → is_earlier_epoch a later ≡ true → KnowsNoLater a old → star_bound new later ≡ 0
    → ((p : ℕ) (v : Version) → 0 < p → knows new p v ≡ true → knows old p v ≡ true) → KnowsItsOwn later 0 new
begins_later_epoch a later old new h none_later star within = record {
  star = star;
  own = λ p n above. none p (version later n) above h ∙ none_up_to n;
  later = λ p v above further. none p v above (grind (arith, nat_tests));
}
  where
    none : (p : ℕ) (v : Version) → 0 < p → is_earlier_epoch a v.author ≡ true → knows new p v ≡ false
    none p v above further = let before = none_later p v above further in let here = within p v above in grind arith

-- a device that holds, knows and has made nothing
abbrev empty : Author → Tree → Kept
empty author tree = record { author = author; tree = tree; counter = 0; store = []; out = []; knowledge = nothing_known; staged = None }

empty_device : (author : Author) (tree : Tree) → IsDevice (empty author tree)
empty_device author tree = record {
  knows = record { star = refl; own = λ p n above. none_up_to n; later = λ p v above later. refl };
  store = tt;
  out = tt;
  store_known = tt;
  out_known = tt;
  once = λ v. omega arith;
}

-- what is in two sets, each version once, is new to an empty set
pub new_to_none : (stored waiting none : List Held) → none ≡ [] → AreNewTo waiting stored → AreNewTo none (waiting ++ stored)
new_to_none stored waiting none is new =
    rw is (new_to_empty (waiting ++ stored) (λ v. let once = new.once v in omega (arith, count_of-append v stored waiting, count_of-append v waiting stored)))

module _ (epoch : ℕ) (tree : Tree) (resorted : Resorted) (d : Kept) (told : IsResorted tree d.store d.out resorted) (is : IsDevice d) where
  abbrev fs : List Fragment
  fs = resorted.told.known

  abbrev later : Author
  later = author_at (device_of_author d.author) epoch

  -- a device in a later epoch, with what it held sorted again, which knows what this tells
  abbrev pub sorted : Kept
  sorted = record {
    author = later;
    tree = tree;
    counter = 0;
    store = with_side true tree (d.store ++ d.out) [];
    out = with_side false tree (d.store ++ d.out) [];
    knowledge = fs;
    staged = None;
  }

  all_pairs : (p : ℕ) (v : Version) → 0 < p → knows fs p v ≡ tells (d.store ++ d.out) p v
  all_pairs p v above = told.pairs p v above ∙ sym (list_any-append (one p v) d.store d.out)

  known_before : AllByRecursion (IsKnownBy d.knowledge) (d.store ++ d.out)
  known_before = all_append (IsKnownBy d.knowledge) d.store d.out is.store_known is.out_known

  -- what is known then was known
  within : (p : ℕ) (v : Version) → 0 < p → knows fs p v ≡ true → knows d.knowledge p v ≡ true
  within p v above here = told_known d.knowledge (d.store ++ d.out) p v known_before (sym (all_pairs p v above) ∙ here)

  known_after : AllByRecursion (IsKnownBy fs) (d.store ++ d.out)
  known_after =
      known_told fs (d.store ++ d.out)
      (all_of (IsKnownBy d.knowledge) (λ (h : Held). 0 < h.picture) (λ h known. known.above) (d.store ++ d.out) known_before)
      (λ p v above tells_it. all_pairs p v above ∙ tells_it)

  -- it is what an empty device of that epoch is that takes what was held and learns what this tells
  pub resorted_device : epoch_of_author d.author < epoch → epoch < 4294967296 → AreParts None resorted.told.staged sorted
  resorted_device h fits = record {
    device = joins_device (d.store ++ d.out) fs (empty later tree) (new_to_empty (d.store ++ d.out) is.once) (all_append HasEarlier d.store d.out is.store is.out)
        (begins_later_epoch d.author later d.knowledge fs (begins_later d.author epoch h fits) is.knows.later (told.star later) within)
        (λ p w above known. absurd (false≢true known)) known_after (empty_device later tree);
    fits = told.staged;
  }

  side_shown : (m : ModelDevice) (q : Entry → Bool) → Shows d m → entries_of (put_helds (filter (λ (h : Held). q (entry_of h)) (d.store ++ d.out)) []) ≡ put_entries (filter q (holds m)) []
  side_shown m q shows =
      entries-put_those q (d.store ++ d.out) [] ∙ ap (λ es. put_entries (filter q es) []) (held_shown d m shows)

  pub resorted_shows : (m : ModelDevice) → Shows d m → Shows sorted (begun epoch tree m)
  resorted_shows m shows = record {
    author = ap (λ (a : Author). author_at (device_of_author a) epoch) shows.author;
    tree = refl;
    counter = refl;
    store = side_shown m (λ e. matches tree e.content) shows;
    out = side_shown m (λ e. not (matches tree e.content)) shows;
    known = λ p above v. all_pairs p v above ∙ tell_entries (d.store ++ d.out) p v ∙ ap (λ es. tell es p v) (held_shown d m shows);
  }
