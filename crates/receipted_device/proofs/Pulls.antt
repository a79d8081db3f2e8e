-- What a replica shows after settling and after a pull.
use Rattle.std.proofs.Common.{◌≡◌, not, ◌&&◌, ◌||◌, List, sym, ap, subst, ◌∙◌}
use Rattle.photo_version.specs.Author.{Author}
use Rattle.photo_model.specs.Device.{ModelDevice}
use Rattle.photo_model.specs.Pull.{handed, pulled}
use Rattle.photo_device.specs.Held.{entries_of}
use Rattle.photo_device.specs.Device.{Kept, Shows, unstaged}
use Rattle.photo_device.proofs.Staged.{shows_unstaged}
use Rattle.photo_pull.specs.StagedPulls.{handed_of, IsStagedPull}
use Rattle.photo_pull.specs.declared.staging.StagedPull.{StagedPull}
use Rattle.household_model.specs.Replica as model
use Rattle.receipted_device.specs.declared.receipt.Receipt.{Receipt}
use Rattle.receipted_device.specs.Receipts.{receipts_in}
use Rattle.receipted_device.specs.Shown.{KeptReplica, ShowsReplica}
use Rattle.receipted_device.specs.Settling.{settled}

-- the device by itself, as the calls see it
pub device_shows : (d : Kept) (r : KeptReplica) (m : model.Replica) → d ≡ r.device → ShowsReplica r m → Shows d m.device
device_shows d r m is shows = subst (λ e. Shows e m.device) (sym is) shows.device

pub receipts_show : (rs : List Receipt) (r : KeptReplica) (m : model.Replica) → rs ≡ r.receipts → ShowsReplica r m → (q : model.Receipt) → m.receipts q ≡ receipts_in rs q
receipts_show rs r m is shows q = shows.receipts q ∙ ap (λ list. receipts_in list q) (sym is)

pub settles : (d new copied : Kept) (rs left : List Receipt) (r copy : KeptReplica) → d ≡ r.device → rs ≡ r.receipts → copied ≡ copy.device
    → ((t : ModelDevice) (c : model.Replica) → Shows d t → ShowsReplica copy c → Shows new (settled t c))
    → ((c : ModelDevice) → Shows copied c → (q : model.Receipt) → receipts_in left q ≡ (receipts_in rs q && not (model.is_obsolete c q)))
    → (m c : model.Replica) → ShowsReplica r m → ShowsReplica copy c → ShowsReplica (record { device = new; receipts = left }) (model.after_forgetting (model.is_obsolete c.device) (model.after_settling m c))
settles d new copied rs left r copy d_is rs_is copied_is settling forgetting m c shows copied_shows = record {
  device = settling m.device c (device_shows d r m d_is shows) copied_shows;
  receipts = λ q.
      ap (λ b. b && not (model.is_obsolete c.device q)) (receipts_show rs r m rs_is shows q)
      ∙ sym (forgetting c.device (device_shows copied copy c copied_is copied_shows) q);
}

pub pulls : (d cloned settled_one staged_one new copied : Kept) (rs gained left : List Receipt) (giver : Author) (found : StagedPull) (r copy : KeptReplica)
    → d ≡ r.device → cloned ≡ unstaged d → rs ≡ r.receipts → copied ≡ copy.device → giver ≡ copied.author
    → ((t : ModelDevice) (c : model.Replica) → Shows cloned t → ShowsReplica copy c → Shows settled_one (settled t c))
    → ((t s : ModelDevice) → Shows settled_one t → Shows copied s → entries_of (handed_of found) ≡ handed t s)
    → IsStagedPull settled_one copied found staged_one
    → ((e s : Kept) → IsStagedPull e s found staged_one → (t c : ModelDevice) → Shows e t → Shows s c → Shows new (pulled t c))
    → ((q : model.Receipt) → receipts_in gained q ≡ (receipts_in rs q || model.receipts_for giver (entries_of (handed_of found)) q))
    → ((c : ModelDevice) → Shows copied c → (q : model.Receipt) → receipts_in left q ≡ (receipts_in gained q && not (model.is_obsolete c q)))
    → (m c : model.Replica) → ShowsReplica r m → ShowsReplica copy c → ShowsReplica (record { device = new; receipts = left }) (model.after_pulling m c)
pulls d cloned settled_one staged_one new copied rs gained left giver found r copy d_is cloned_is rs_is copied_is giver_is settling handing staged committing gaining forgetting m c shows copied_shows =
    let before = device_shows d r m d_is shows in
    let source = device_shows copied copy c copied_is copied_shows in
    let target = settling m.device c (shows_unstaged d cloned m.device cloned_is before) copied_shows in
    let given = ap (λ (a : Author). model.receipts_for a (entries_of (handed_of found))) (giver_is ∙ source.author) ∙ ap (model.receipts_for c.device.author) (handing (settled m.device c) c.device target source) in
    record {
      device = committing settled_one copied staged (settled m.device c) c.device target source;
      receipts = λ q.
          ap (λ b. (b || model.receipts_for c.device.author (handed (settled m.device c) c.device) q) && not (model.is_obsolete c.device q)) (receipts_show rs r m rs_is shows q)
          ∙ ap (λ b. (receipts_in rs q || b) && not (model.is_obsolete c.device q)) (sym (ap (λ f. f q) given))
          ∙ ap (λ b. b && not (model.is_obsolete c.device q)) (sym (gaining q))
          ∙ sym (forgetting c.device source q);
    }
