-- Which replicas may meet, from one model of each, and from devices that are ready for any pull.
use Rattle.std.proofs.Common.{◌≡◌, ◌≢◌, ℕ, ◌<◌, ◌++◌, length, eqb, List, sym, ap, subst, ◌∙◌, inl, inr, arith}
use Rattle.std.proofs.lemmas.Bool.{cases_Bool, ne_eqb}
use Rattle.photo_version.specs.Author.{Author, same_device, is_earlier_epoch}
use Rattle.photo_version.specs.Version.{Version, version}
use Rattle.photo_model.specs.Entry.{Entry}
use Rattle.photo_model.specs.Device.{ModelDevice, known, holds}
use Rattle.photo_device.specs.Device.{Kept, Shows}
use Rattle.fleet_model.specs.Runs.{device_at}
use Rattle.fleet_model.specs.Members.{In}
use Rattle.fleet_model.specs.Ready.{IsReady}
use Rattle.household_model.specs.Replica as model
use Rattle.receipted_device.specs.Shown.{KeptReplica, ShowsReplica}
use Rattle.receipted_device.specs.Meeting.{MayTake, MayMeet}

-- two model devices that one device shows hold the same, and know the same of each picture

same_held : (d : Kept) (m n : ModelDevice) → Shows d m → Shows d n → holds m ≡ holds n
same_held d m n shows shown = λ i. (sym shows.store ∙ shown.store) i ++ (sym shows.out ∙ shown.out) i

same_known : (d : Kept) (m n : ModelDevice) → Shows d m → Shows d n → (p : ℕ) (v : Version) → 0 < p → known m p v ≡ known n p v
same_known d m n shows shown p v above = sym (shows.known p above v) ∙ shown.known p above v

-- so whatever replicas two show, they may meet where that is so of one model of each
pub may_meet_shown : (r copy : KeptReplica) (m c : model.Replica) → ShowsReplica r m → ShowsReplica copy c → MayTake m.device c.device → MayMeet r copy
may_meet_shown r copy m c m_shown c_shown may = λ n e n_shown e_shown.
    let author = sym n_shown.device.author ∙ m_shown.device.author in
    let counter = sym n_shown.device.counter ∙ m_shown.device.counter in
    record {
      differ = (λ i. same_device (author i) ((sym e_shown.device.author ∙ c_shown.device.author) i)) ∙ may.differ;
      one = λ x y x_held y_held. may.one x y (subst (In x) (same_held r.device n.device m.device n_shown.device m_shown.device) x_held) (subst (In y) (same_held copy.device e.device c.device e_shown.device c_shown.device) y_held);
      made = λ p v above here by.
          let counted = may.made p v above (sym (same_known copy.device e.device c.device e_shown.device c_shown.device p v above) ∙ here) (by ∙ author) in
          omega (arith, counter);
      begun = λ p v above here.
          ap (λ (a : Author). is_earlier_epoch a v.author) author ∙ may.begun p v above (sym (same_known copy.device e.device c.device e_shown.device c_shown.device p v above) ∙ here);
    }

-- devices that are ready for any pull may take from each other
pub may_take_ready : (devices : List ModelDevice) (t s : ℕ) → IsReady devices → t < length devices → s < length devices → s ≢ t → MayTake (device_at devices t) (device_at devices s)
may_take_ready devices t s ready within_t within_s other =
    let by_t = ready.author t within_t in
    let by_s = ready.author s within_s in
    record {
      differ = (λ i. eqb (by_t i) (by_s i)) ∙ ne_eqb t s (λ e. other (sym e));
      one = λ x y x_held y_held same. ap (λ (e : Entry). e.picture) (ready.one t s within_t within_s x y x_held y_held same);
      made = λ p v above here by.
          ready.own t s p v.number within_t within_s (ap (λ (a : Author). known (device_at devices s) p (version a v.number)) (sym by) ∙ here);
      begun = λ p v above here. elim (cases_Bool (is_earlier_epoch (device_at devices t).author v.author)) [
        | inl later ↦ absurd (let unknown = ready.later t s p v within_t within_s later in cc)
        | inr not_later ↦ not_later
      ];
    }
