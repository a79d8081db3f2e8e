-- Households, worked: receipts that are settled and then forgotten, and receipts that come too late.
use Rattle.std.specs.Prelude.{◌≡◌, ℕ, Bool, true, false, pos, List, [], ◌∷◌, length, map, slice_index_or}
use Rattle.photo_record.specs.declared.record.Record.{Record}
use Rattle.photo_record.specs.declared.record.Record.TheVariants.{Picture, Removed}
use Rattle.photo_filter_text.specs.declared.tree.Cmp.TheVariants.{AtLeast, AtMost}
use Rattle.photo_filter_text.specs.Tree.{All, Rate}
use Rattle.photo_version.specs.Author.{Author, author_at}
use Rattle.photo_version.specs.Version.{Version, version}
use Rattle.photo_model.specs.declared.counts.PullCounts.{PullCounts}
use Rattle.photo_model.specs.Device.{opening}
use Rattle.photo_model.specs.Pull.{counts_of}
use Rattle.fleet_model.specs.Sound.{is_kept}
use Rattle.household_model.specs.Replica.{Replica, after_settling, count_settled}
use Rattle.household_model.specs.Household.{Household, Make, Narrow, Begin, Copy, Settle, Take, after_event, after_events, pull_from, new_replica, opening_household, devices_of}

-- a record with that rating
abbrev pub rated : ℕ → Record
rated rating = Picture rating (pos 19_844) []

-- The phone and the server keep everything, and the hall keeps pictures with four stars or more. Their numbers:

abbrev pub phone : ℕ
phone = 0

abbrev pub server : ℕ
server = 1

abbrev pub hall : ℕ
hall = 2

-- the household before the first event
abbrev pub opened : Household
opened = opening_household (All ∷ All ∷ Rate AtLeast 4 ∷ [])

-- what stands where there is no replica
abbrev pub no_replica : Replica
no_replica = new_replica (opening (author_at 0 0) All)

-- the n-th replica
abbrev pub replica_at : Household → ℕ → Replica
replica_at h n = slice_index_or h.replicas n no_replica

-- the k-th copy
abbrev pub copy_at : Household → ℕ → Replica
copy_at h k = slice_index_or h.copies k no_replica

-- the n-th replica pulls from the k-th copy
abbrev pub pulls_from : ℕ → ℕ → Household → Household
pulls_from n k h = after_events h (pull_from n k (copy_at h k))

-- it pulls from a new copy of the m-th replica
abbrev pub pulls : ℕ → ℕ → Household → Household
pulls n m h = pulls_from n (length h.copies) (after_event h (Copy m))

-- it settles by a new copy of the m-th replica
abbrev pub settles : ℕ → ℕ → Household → Household
settles n m h = after_events h (Copy m ∷ Settle n (length h.copies) ∷ [])

-- a pull's counts, and how many versions it settles
abbrev pub Report : Type 0
Report = PullCounts × ℕ

-- what a pull from a copy reports
abbrev pub report : Replica → Replica → Report
report r copy = (counts_of (after_settling r copy).device copy.device, count_settled r copy)

-- what a pull from a new copy reports
abbrev pub pull_report : ℕ → ℕ → Household → Report
pull_report n m h = report (replica_at h n) (replica_at h m)

-- the report of a pull without notices that learns all
abbrev pub learned : ℕ → ℕ → ℕ → ℕ → Report
learned taken handed dropped settled = (record { taken = taken; handed = handed; notices = 0; dropped = dropped; learned = true }, settled)

-- the report of one that doesn't learn all, and moves versions alone
abbrev pub not_learned : ℕ → ℕ → Report
not_learned taken handed = (record { taken = taken; handed = handed; notices = 0; dropped = 0; learned = false }, 0)

-- how many versions each live device has in its store and in its out
abbrev pub sizes : Household → List (ℕ × ℕ)
sizes h = map (λ d. (length d.store, length d.out)) (devices_of h.replicas)

-- whether the n-th replica has the giver's receipt for that version of that picture
abbrev pub has_receipt : ℕ → Author → ℕ → Version → Household → Bool
has_receipt n giver picture v h = (replica_at h n).receipts (record { giver = giver; picture = picture; version = v })

-- The phone makes picture 1, the server takes it from the phone, and the hall from the server. The phone removes the picture, and
-- is copied. The server pulls.

-- all three have the picture
abbrev pub shared : Household
shared = pulls hall server (pulls server phone (after_event opened (Make phone 1 (rated 5))))

-- the phone has removed it
abbrev pub removed : Household
removed = after_events shared (Make phone 1 Removed ∷ Copy phone ∷ [])

-- the place of the phone's copy from then
abbrev pub old : ℕ
old = 2

-- the server was handed the removal
abbrev pub handed_on : Household
handed_on = pulls server phone removed

-- its version
abbrev pub removal : Version
removal = version (author_at phone 0) 2

-- The server pulls from the old copy. The phone pulls from the server, and settles. The server pulls from the old copy again, and
-- then from the phone.

-- the server has seen the old copy
abbrev pub pulled_late : Household
pulled_late = pulls_from server old handed_on

-- the phone has given the removal up
abbrev pub given_up : Household
given_up = pulls phone server pulled_late

-- the server has seen that
abbrev pub known_so : Household
known_so = pulls server phone (pulls_from server old given_up)

-- The hall pulls from the server. The server settles twice, and the hall pulls again.

-- the hall was handed the removal
abbrev pub at_hall : Household
at_hall = pulls hall server known_so

-- nothing is left to do
abbrev pub at_rest : Household
at_rest = pulls hall server (settles server hall (settles server hall at_hall))

-- what the pulls report, and what the replicas have
pub record ReceiptsAreSettled : Type 0 where
  pub taken_by_server : pull_report server phone (after_event opened (Make phone 1 (rated 5))) ≡ learned 1 0 0 0
  -- what the phone keeps in its store needs no receipt
  pub unreceipted : has_receipt server (author_at phone 0) 1 (version (author_at phone 0) 1) shared ≡ false
  pub waits : sizes removed ≡ (0, 1) ∷ (1, 0) ∷ (1, 0) ∷ []
  pub handed : pull_report server phone removed ≡ learned 0 1 1 0
  pub receipted : has_receipt server (author_at phone 0) 1 removal handed_on ≡ true
  -- until the phone sees the receipt both hold the removal
  pub held_by_both : sizes handed_on ≡ (0, 1) ∷ (0, 1) ∷ (1, 0) ∷ []
  -- a copy that comes late brings nothing, and its receipt stays
  pub late : report (replica_at handed_on server) (copy_at handed_on old) ≡ learned 0 0 0 0
  pub still_receipted : has_receipt server (author_at phone 0) 1 removal pulled_late ≡ true
  pub settled : pull_report phone server pulled_late ≡ learned 0 0 0 1
  pub held_by_server : sizes given_up ≡ (0, 0) ∷ (0, 1) ∷ (1, 0) ∷ []
  -- by the phone's next copy the receipt is obsolete
  pub obsolete : has_receipt server (author_at phone 0) 1 removal known_so ≡ false
  pub handed_to_hall : pull_report hall server known_so ≡ learned 0 1 1 0
  pub settled_by_server : count_settled (replica_at at_hall server) (replica_at at_hall hall) ≡ 1
  -- a second settling gives up nothing
  pub no_more : count_settled (replica_at (settles server hall at_hall) server) (replica_at at_hall hall) ≡ 0
  pub held_by_hall : sizes at_rest ≡ (0, 0) ∷ (0, 0) ∷ (0, 1) ∷ []
  pub none_left : has_receipt hall (author_at server 0) 1 removal at_rest ≡ false
  pub kept : is_kept at_rest.log (devices_of at_rest.replicas) ≡ true

-- The hall makes picture 1 for others, and is copied. The server pulls from that copy and is copied. The hall begins its next
-- epoch, now to keep the other pictures, and settles by the server's copy, whose receipt names its earlier epoch.

-- the hall and the server hold the picture
abbrev pub handed_early : Household
handed_early = after_events (pulls server hall (after_event opened (Make hall 1 (rated 2)))) (Copy server ∷ [])

-- the hall has begun its next epoch
abbrev pub begun_anew : Household
begun_anew = after_event handed_early (Begin hall 1 (Rate AtMost 3))

-- the receipt has come
abbrev pub too_late : Household
too_late = after_event begun_anew (Settle hall 1)

-- The hall pulls, and makes picture 2 for others. The phone pulls. The hall begins a third epoch before it sees the receipt.

-- the hall has made picture 2
abbrev pub made_second : Household
made_second = after_event (pulls hall server too_late) (Make hall 2 (rated 5))

-- the phone's receipt has come
abbrev pub too_late_again : Household
too_late_again = settles hall phone (after_event (pulls phone hall made_second) (Begin hall 2 (Rate AtMost 3)))

-- the version of picture 1
abbrev pub first_picture : Version
first_picture = version (author_at hall 0) 1

-- the version of picture 2
abbrev pub second_picture : Version
second_picture = version (author_at hall 1) 1

-- The server pulls from the hall in the hall's third epoch, and the hall pulls from the server.

-- the server was handed picture 2
abbrev pub handed_again : Household
handed_again = pulls server hall too_late_again

-- the hall has settled
abbrev pub in_third_epoch : Household
in_third_epoch = pulls hall server handed_again

-- what the pulls report, and what the replicas have
pub record ReceiptsComeTooLate : Type 0 where
  pub handed : pull_report server hall (after_event opened (Make hall 1 (rated 2))) ≡ not_learned 0 1
  pub receipted : has_receipt server (author_at hall 0) 1 first_picture handed_early ≡ true
  pub kept_in_store : sizes begun_anew ≡ (0, 0) ∷ (1, 0) ∷ (1, 0) ∷ []
  pub not_settled : count_settled (replica_at begun_anew hall) (copy_at begun_anew 1) ≡ 0
  pub still_held : sizes too_late ≡ (0, 0) ∷ (1, 0) ∷ (1, 0) ∷ []
  pub both_pictures : pull_report phone hall made_second ≡ not_learned 1 1
  -- the phone's receipt is for the hall's second epoch
  pub still_waits : sizes too_late_again ≡ (2, 0) ∷ (1, 0) ∷ (1, 1) ∷ []
  pub handed_in_third : pull_report server hall too_late_again ≡ not_learned 0 1
  pub settled : pull_report hall server handed_again ≡ learned 0 0 0 1
  pub held_by_others : sizes in_third_epoch ≡ (2, 0) ∷ (2, 0) ∷ (1, 0) ∷ []
  -- the server forgot its receipt from the hall's first epoch, and has one from the third; the phone has one from the second
  pub obsolete : has_receipt server (author_at hall 0) 1 first_picture in_third_epoch ≡ false
  pub of_third : has_receipt server (author_at hall 2) 2 second_picture in_third_epoch ≡ true
  pub of_second : has_receipt phone (author_at hall 1) 2 second_picture in_third_epoch ≡ true
  pub kept : is_kept in_third_epoch.log (devices_of in_third_epoch.replicas) ≡ true

-- what changes nothing: an epoch that isn't later, or above the last one; a replica or a copy that isn't there; one's own copy
pub record NothingHappens : Type 0 where
  pub same_epoch : after_event too_late (Begin hall 1 All) ≡ too_late
  pub earlier_epoch : after_event too_late (Begin hall 0 All) ≡ too_late
  pub above_the_last : after_event too_late (Begin hall 4_294_967_296 All) ≡ too_late
  pub not_covered : after_event too_late (Narrow hall (Rate AtLeast 4)) ≡ too_late
  pub no_replica_there : after_event too_late (Make 3 1 Removed) ≡ too_late
  pub no_copy_there : after_event too_late (Take phone 2) ≡ too_late
  pub own_copy : after_event too_late (Settle server 1) ≡ too_late

-- Two runs that keep their one version, and that lose it by a wrong rule. Neither device's filter selects the version. The first
-- device makes it, the second takes it, and the first settles.

-- the second device alone holds the version
abbrev pub moved_on : Household
moved_on = settles 0 1 (pulls 1 0 (after_event (opening_household (Rate AtLeast 4 ∷ Rate AtLeast 4 ∷ [])) (Make 0 1 (rated 2))))

-- The first device begins its next epoch and takes the version back, and the second settles. Then the first settles by the second
-- one's earlier copy, which is the second that was made.

-- the first device alone holds the version
abbrev pub moved_back : Household
moved_back = settles 1 0 (pulls 0 1 (after_event moved_on (Begin 0 1 (Rate AtLeast 4))))

pub record NothingIsLost : Type 0 where
  pub with_second : sizes moved_on ≡ (0, 0) ∷ (0, 1) ∷ []
  -- the first device knows the version, but has no receipt for it
  pub merely_known : sizes (settles 1 0 moved_on) ≡ (0, 0) ∷ (0, 1) ∷ []
  pub with_first : sizes moved_back ≡ (0, 1) ∷ (0, 0) ∷ []
  -- the receipt names an earlier epoch
  pub of_earlier_epoch : sizes (after_event moved_back (Settle 0 1)) ≡ (0, 1) ∷ (0, 0) ∷ []
