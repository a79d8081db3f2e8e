-- Each command leaves the fleet traced to the log if it was traced before.
use Rattle.std.proofs.Common.{◌≡◌, ℕ, ◌<◌, ◌≤◌, false, List, [], ◌∷◌, ◌++◌, inl, inr, length, set, refl, sym, ap, ◌∙◌, subst, arith, le_refl}
use Rattle.photo_record.specs.declared.record.Record.{Record}
use Rattle.photo_filter_text.specs.Tree.{Tree}
use Rattle.photo_version.specs.Author.{device_of_author, epoch_of_author, is_earlier_epoch}
use Rattle.photo_version.specs.Version.{Version}
use Rattle.photo_model.specs.Entry.{Entry}
use Rattle.photo_model.specs.Device.{ModelDevice, new_entry, next_version, made, narrowed}
use Rattle.photo_model.specs.Refiltered.{refiltered}
use Rattle.photo_model.specs.Pull.{pulled, handed_over}
use Rattle.fleet_model.specs.Runs.{device_at}
use Rattle.fleet_model.specs.Members.{In}
use Rattle.fleet_model.proofs.Members.{in_one, in_either}
use Rattle.fleet_model.proofs.Places.{at_same, set_within, each_changed, two_set, two_within, each_two_changed}
use Rattle.fleet_model.proofs.Traced.{IsTracedDevice, IsCounted, IsTraced}
use Rattle.fleet_model.proofs.TracedSteps.{others_traced, longer_traced, made_traced, pulled_traced, handed_traced, narrowed_traced, refiltered_traced}
use Rattle.fleet_model.proofs.Epochs.{not_later, next_device, KeepsCount, same_epoch, refiltered_counts}

-- a counted version stays counted where a device is replaced by one that keeps its count
pub still_counted : (ds : List ModelDevice) (k : ℕ) (d : ModelDevice) → k < length ds → KeepsCount (device_at ds k) d → (v : Version) → IsCounted ds v → IsCounted (set ds k d) v
still_counted ds k d h keeps v c = record {
  within = set_within ds k (device_of_author v.author) d c.within;
  begun = each_changed (λ n x. is_earlier_epoch (device_at ds n).author v.author ≡ false → is_earlier_epoch x.author v.author ≡ false) ds k d h
      (keeps.begun v.author) (λ _ _ _ q. q) (device_of_author v.author) (set_within ds k (device_of_author v.author) d c.within) c.begun;
  reached = each_changed (λ n x. is_earlier_epoch (device_at ds n).author v.author ≡ false → (v.author ≡ (device_at ds n).author → v.number ≤ (device_at ds n).counter) → v.author ≡ x.author → v.number ≤ x.counter) ds k d h
      (keeps.reached v) (λ _ _ _ _ q. q) (device_of_author v.author) (set_within ds k (device_of_author v.author) d c.within) c.begun c.reached;
}

module _ (log : List Entry) (devices : List ModelDevice) (H : IsTraced log devices) where
  module _ (k : ℕ) (h : k < length devices) where
    pub bounded : (e : Entry) → In e log → e.version.author ≡ (device_at devices k).author → e.version.number ≤ (device_at devices k).counter
    bounded e i a = subst (λ (n : ℕ). e.version.author ≡ (device_at devices n).author → e.version.number ≤ (device_at devices n).counter) (ap device_of_author a ∙ H.author k h) (H.counted e i).reached a

    module _ (p : ℕ) (r : Record) where
      counted_new : IsCounted (set devices k (made (device_at devices k) p r)) (next_version (device_at devices k))
      counted_new =
          let place : device_of_author (device_at devices k).author ≡ k = H.author k h in
          let made_there = made (device_at devices k) p r in
          record {
            within = subst (λ (n : ℕ). n < length (set devices k made_there)) (sym place) (set_within devices k k made_there h);
            begun = subst (λ (n : ℕ). is_earlier_epoch (device_at (set devices k made_there) n).author (device_at devices k).author ≡ false) (sym place)
                (subst (λ (d : ModelDevice). is_earlier_epoch d.author (device_at devices k).author ≡ false) (sym (at_same devices k made_there h)) (not_later (device_at devices k).author));
            reached = λ _. subst (λ (n : ℕ). (next_version (device_at devices k)).number ≤ (device_at (set devices k made_there) n).counter) (sym place)
                (subst (λ (d : ModelDevice). (next_version (device_at devices k)).number ≤ d.counter) (sym (at_same devices k made_there h)) (le_refl _));
          }

      pub making_traced : IsTraced (log ++ new_entry (device_at devices k) p r ∷ []) (set devices k (made (device_at devices k) p r))
      making_traced =
          let d = device_at devices k in
          record {
            log_is = longer_traced log d p r H.log_is (H.each k h) bounded;
            author = each_changed (λ n x. device_of_author x.author ≡ n) devices k (made d p r) h (H.author k h) (λ j i _. H.author j i);
            counted = λ e i. elim (in_either log i) [
              | inl a ↦ still_counted devices k (made d p r) h (same_epoch d (made d p r) refl (omega arith)) e.version (H.counted e a)
              | inr b ↦ subst (λ (x : Entry). IsCounted (set devices k (made d p r)) x.version) (sym (in_one b)) counted_new
            ];
            each = each_changed (λ _ x. IsTracedDevice (log ++ new_entry d p r ∷ []) x) devices k (made d p r) h
                (made_traced log d p r H.log_is (H.each k h) bounded)
                (λ j i _. others_traced log (new_entry d p r ∷ []) (device_at devices j) (H.each j i));
          }

    pub narrowing_traced : (tree : Tree) → IsTraced log (set devices k (narrowed tree (device_at devices k)))
    narrowing_traced tree =
        let d = device_at devices k in
        record {
          log_is = H.log_is;
          author = each_changed (λ n x. device_of_author x.author ≡ n) devices k (narrowed tree d) h (H.author k h) (λ j i _. H.author j i);
          counted = λ e i. still_counted devices k (narrowed tree d) h (same_epoch d (narrowed tree d) refl (le_refl _)) e.version (H.counted e i);
          each = each_changed (λ _ x. IsTracedDevice log x) devices k (narrowed tree d) h (narrowed_traced log tree d (H.each k h)) (λ j i _. H.each j i);
        }

    pub refiltering_traced : (tree : Tree) → epoch_of_author (device_at devices k).author < 4294967295 → IsTraced log (set devices k (refiltered tree (device_at devices k)))
    refiltering_traced tree few =
        let d = device_at devices k in
        record {
          log_is = H.log_is;
          author = each_changed (λ n x. device_of_author x.author ≡ n) devices k (refiltered tree d) h (next_device d.author few ∙ H.author k h) (λ j i _. H.author j i);
          counted = λ e i. still_counted devices k (refiltered tree d) h (refiltered_counts tree d few) e.version (H.counted e i);
          each = each_changed (λ _ x. IsTracedDevice log x) devices k (refiltered tree d) h (refiltered_traced log tree d H.log_is (H.each k h)) (λ j i _. H.each j i);
        }

  pub pulling_traced : (t s : ℕ) → t < length devices → s < length devices → IsTraced log (two_set devices t (pulled (device_at devices t) (device_at devices s)) s (handed_over (device_at devices t) (device_at devices s)))
  pulling_traced t s h k =
      let x = pulled (device_at devices t) (device_at devices s) in
      let y = handed_over (device_at devices t) (device_at devices s) in
      record {
        log_is = H.log_is;
        author = each_two_changed (λ n d. device_of_author d.author ≡ n) devices t s x y h k (H.author t h) (H.author s k) H.author;
        counted = λ e i. record {
          within = two_within devices t s (device_of_author e.version.author) x y (H.counted e i).within;
          begun = each_two_changed (λ n d. is_earlier_epoch (device_at devices n).author e.version.author ≡ false → is_earlier_epoch d.author e.version.author ≡ false) devices t s x y h k (λ q. q) (λ q. q) (λ _ _ q. q)
              (device_of_author e.version.author) (two_within devices t s (device_of_author e.version.author) x y (H.counted e i).within) (H.counted e i).begun;
          reached = each_two_changed (λ n d. (e.version.author ≡ (device_at devices n).author → e.version.number ≤ (device_at devices n).counter) → e.version.author ≡ d.author → e.version.number ≤ d.counter) devices t s x y h k (λ q. q) (λ q. q) (λ _ _ q. q)
              (device_of_author e.version.author) (two_within devices t s (device_of_author e.version.author) x y (H.counted e i).within) (H.counted e i).reached;
        };
        each = each_two_changed (λ _ d. IsTracedDevice log d) devices t s x y h k
            (pulled_traced log (device_at devices t) (device_at devices s) H.log_is (H.each t h) (H.each s k))
            (handed_traced log (device_at devices t) (device_at devices s) H.log_is (H.each t h) (H.each s k))
            H.each;
      }
