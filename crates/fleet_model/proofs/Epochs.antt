-- Epochs: a device's next epoch is later than all before it, so versions that were counted stay counted.
use Rattle.std.proofs.Common.{◌≡◌, ◌/◌, ◌+◌, ◌<◌, ◌≤◌, true, false, ltb, inl, inr, sym, ap, ◌∙◌, arith, le_refl}
use Rattle.std.proofs.lemmas.Bool.{cases_Bool, and_parts, and_right, and_from, ltb-true, lt-ltb, le-ltb, eqb-true, eq-eqb, false≢true}
use Rattle.photo_filter_text.specs.Tree.{Tree}
use Rattle.photo_version.specs.Author.{Author, device_of_author, epoch_of_author, same_device, author_before, next_author, is_earlier_epoch}
use Rattle.photo_version.specs.Version.{Version}
use Rattle.photo_model.specs.Device.{ModelDevice}
use Rattle.photo_model.specs.Refiltered.{refiltered}

-- no author is of a later epoch than its own
pub not_later : (a : Author) → is_earlier_epoch a a ≡ false
not_later a = and_right (same_device a a) (ltb a.word a.word) (le-ltb a.word a.word (le_refl _))

pub next_device : (a : Author) → epoch_of_author a < 4294967295 → device_of_author (next_author a) ≡ device_of_author a
next_device a h = omega arith

pub next_is_later : (a : Author) → epoch_of_author a < 4294967295 → is_earlier_epoch a (next_author a) ≡ true
next_is_later a h =
    let same : a.word / 4294967296 ≡ (a.word + 1) / 4294967296 = omega arith in
    and_from (same_device a (next_author a)) (author_before a (next_author a)) (eq-eqb (device_of_author a) (device_of_author (next_author a)) same) (lt-ltb a.word (a.word + 1) (omega arith))

-- an author later than the next epoch is later than this epoch
later_too : (a b : Author) → epoch_of_author a < 4294967295 → is_earlier_epoch (next_author a) b ≡ true → is_earlier_epoch a b ≡ true
later_too a b h later =
    let parts = and_parts (same_device (next_author a) b) (author_before (next_author a) b) later in
    let same = eqb-true (device_of_author (next_author a)) (device_of_author b) parts.0 in
    let less = ltb-true (a.word + 1) b.word parts.1 in
    let mine : a.word / 4294967296 ≡ b.word / 4294967296 = sym (next_device a h) ∙ same in
    and_from (same_device a b) (author_before a b) (eq-eqb (device_of_author a) (device_of_author b) mine) (lt-ltb a.word b.word (omega arith))

-- whatever the old device has counted, the new one has counted too: no epoch that had begun is later than the new one's, and
-- the new counter has reached each counted version of its epoch
pub record KeepsCount (old new : ModelDevice) : Type 0 where
  pub begun : (a : Author) → is_earlier_epoch old.author a ≡ false → is_earlier_epoch new.author a ≡ false
  pub reached : (v : Version) → is_earlier_epoch old.author v.author ≡ false → (v.author ≡ old.author → v.number ≤ old.counter) → v.author ≡ new.author → v.number ≤ new.counter

-- a device in the same epoch whose counter doesn't fall keeps its count
pub same_epoch : (old new : ModelDevice) → new.author ≡ old.author → old.counter ≤ new.counter → KeepsCount old new
same_epoch old new same more = record {
  begun = λ a h. ap (λ b. is_earlier_epoch b a) same ∙ h;
  reached = λ v begun before here. let least : v.number ≤ old.counter = before (here ∙ same) in omega (arith, more);
}

-- a refiltered device keeps its count: its next epoch has no versions yet
pub refiltered_counts : (tree : Tree) (d : ModelDevice) → epoch_of_author d.author < 4294967295 → KeepsCount d (refiltered tree d)
refiltered_counts tree d h = record {
  begun = λ a begun. elim (cases_Bool (is_earlier_epoch (next_author d.author) a)) [
    | inl later ↦ absurd (false≢true (sym begun ∙ later_too d.author a h later))
    | inr none ↦ none
  ];
  reached = λ v begun before here. absurd (false≢true (sym begun ∙ ap (is_earlier_epoch d.author) here ∙ next_is_later d.author h));
}
