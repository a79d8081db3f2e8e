-- Worked examples of small pulls: what is up to date, what a pull takes and tells, and what the code finds.
use Rattle.std.specs.Prelude.{◌≡◌, true, false, pos, List, [], ◌∷◌, None}
use Rattle.photo_record.specs.declared.record.Record.TheVariants.{Picture, Removed}
use Rattle.photo_filter_text.specs.declared.tree.Cmp.TheVariants.{AtLeast}
use Rattle.photo_filter_text.specs.Tree.{All, Rate}
use Rattle.photo_version.specs.Author.{author}
use Rattle.item_knowledge.specs.Fragments.{knows}
use Rattle.photo_device.specs.declared.held.Held.{Held}
use Rattle.photo_device.specs.Held.{entry_of, entries_of}
use Rattle.photo_model.specs.Device.{ModelDevice}
use Rattle.photo_device.specs.Device.{Kept}
use Rattle.photo_device.specs.Examples.{nth, bound, of, held_of, first}
use Rattle.photo_device.specs.Examples as devices
use Rattle.photo_model.specs.Pull.{taken, handed, noticed, is_up_to_date, IsTaughtNothing, pulled, handed_over, counts_of}
use Rattle.photo_pull.specs.OnHeld.{HasPassed}
use Rattle.photo_pull.specs.Findings.{IsSomething, HasToPull}

-- the first device made picture 7; the second made picture 8, then gave picture 7 one star, then removed the third's picture 9

abbrev pub shot : Held
shot = held_of 8 (nth 1 1) []

abbrev pub dimmed : Held
dimmed = record (held_of 7 (nth 1 2) ((author 0, 1) ∷ (author 1, 1) ∷ [])) { content = Picture 1 (pos 19_844) [] }

abbrev pub removal : Held
removal = record (held_of 9 (nth 1 3) ((author 1, 2) ∷ (author 2, 1) ∷ [])) { content = Removed }

-- the first device, which keeps what has three stars, and holds and knows exactly what it made
abbrev pub camera : Kept
camera = record devices.camera { tree = Rate AtLeast 3 }

-- the camera when it knows the second device's first version
abbrev pub informed : Kept
informed = record camera { knowledge = of [] (bound 0 1 ∷ bound 1 1 ∷ []) ∷ [] }

-- the second device, which keeps everything, after it made picture 8
abbrev pub phone : Kept
phone = record {
  author = author 1;
  tree = All;
  counter = 1;
  store = shot ∷ [];
  out = [];
  knowledge = of [] (bound 1 1 ∷ []) ∷ [];
  staged = None;
}

-- the phone when it knows the first device's version and doesn't keep it
abbrev pub tidy : Kept
tidy = record phone { knowledge = informed.knowledge }

-- the device with a filter of four stars, so its filter doesn't cover the camera's
abbrev pub choosy : Kept → Kept
choosy d = record d { tree = Rate AtLeast 4 }

-- the device when it holds nothing of what it knows
abbrev pub emptied : Kept → Kept
emptied d = record d { store = []; out = [] }

-- the second device after it made all three versions
abbrev pub later : Kept
later = record phone {
  counter = 3;
  store = dimmed ∷ shot ∷ [];
  out = removal ∷ [];
  knowledge = of [] (bound 1 3 ∷ []) ∷ of (7 ∷ []) (bound 0 1 ∷ bound 1 3 ∷ []) ∷ of (9 ∷ []) (bound 1 3 ∷ bound 2 1 ∷ []) ∷ [];
}

-- a model device that the device shows; all knowledge stands under single pictures
abbrev pub model : Kept → ModelDevice
model d = record {
  author = d.author;
  tree = d.tree;
  counter = d.counter;
  store = entries_of d.store;
  out = entries_of d.out;
  every = λ v. false;
  of = knows d.knowledge;
}

-- which targets are up to date with which sources
pub record TheUpToDate : Type 0 where
  pub all_known : is_up_to_date (model informed) (model phone) ≡ true
  pub one_unknown : is_up_to_date (model camera) (model phone) ≡ false
  -- the source's out has an unknown version
  pub one_waiting : is_up_to_date (model camera) (model (record phone { store = []; out = shot ∷ [] })) ≡ false
  -- the source knows what the target stores, and doesn't keep it
  pub one_stale : is_up_to_date (model informed) (model tidy) ≡ false
  pub kept_by_both : is_up_to_date (model informed) (model (record tidy { store = first ∷ shot ∷ [] })) ≡ true
  -- the same, but the source's filter doesn't cover the target's
  pub not_covered : is_up_to_date (model informed) (model (choosy tidy)) ≡ true
  -- the source knows an unknown version, and doesn't hold it
  pub none_held : is_up_to_date (model camera) (model (emptied phone)) ≡ true

-- which targets are taught nothing, and, before a ⊥, which are taught something
pub record TheTaughtNothing : Type 0 where
  pub not_covered : IsTaughtNothing (model camera) (model (choosy phone))
  pub all_known : IsTaughtNothing (model informed) (model phone)
  pub one_unknown : IsTaughtNothing (model camera) (model phone) → ⊥
  -- the source doesn't hold the version
  pub none_held : IsTaughtNothing (model camera) (model (emptied phone)) → ⊥

-- a pull by the camera from the second device: it takes one version, is handed one, and notices one
pub record TheModelPull : Type 0 where
  pub shot_taken : taken (model camera) (model later) ≡ entry_of shot ∷ []
  pub removal_handed : handed (model camera) (model later) ≡ entry_of removal ∷ []
  pub edit_noticed : noticed (model camera) (model later) ≡ entry_of dimmed ∷ []
  pub counted : counts_of (model camera) (model later) ≡ record { taken = 1; handed = 1; notices = 1; dropped = 1; learned = true }
  -- from a source whose filter doesn't cover the camera's, the pull moves and tells the same
  pub counted_choosy : counts_of (model camera) (model (choosy later)) ≡ record { taken = 1; handed = 1; notices = 1; dropped = 1; learned = false }
  -- the edit supersedes what the camera stored, and the camera doesn't store it
  pub stored : (pulled (model camera) (model later)).store ≡ entry_of shot ∷ []
  pub waiting : (pulled (model camera) (model later)).out ≡ entry_of removal ∷ []
  pub source_out : (handed_over (model camera) (model later)).out ≡ []
  -- a version that the target knew stays in the source's out
  pub known_stays : (handed_over (model (record camera { knowledge = later.knowledge })) (model later)).out ≡ entry_of removal ∷ []

abbrev pub in_order : List Held
in_order = first ∷ shot ∷ removal ∷ []

-- where a cursor may stand after the query for the version of picture 8, and, before a ⊥, where it may not
pub record ThePassed : Type 0 where
  pub up_to_it : HasPassed shot in_order (shot ∷ removal ∷ [])
  -- the cursor may skip nothing
  pub nothing_passed : HasPassed shot in_order in_order
  -- at the query for the version of picture 9 it may skip the version of picture 8
  pub further : HasPassed removal in_order (removal ∷ [])
  pub itself_passed : HasPassed shot in_order (removal ∷ []) → ⊥
  pub one_behind_passed : HasPassed shot in_order (shot ∷ []) → ⊥
  pub out_of_order : HasPassed shot in_order (removal ∷ shot ∷ []) → ⊥

-- between which devices a pull finds something, and, before a ⊥, between which it doesn't
pub record TheFindings : Type 0 where
  pub one_new : IsSomething camera phone
  pub one_stale : IsSomething informed tidy
  pub all_known : IsSomething informed phone → ⊥
  pub not_covered : IsSomething informed (choosy tidy) → ⊥
  -- the source doesn't hold the unknown version
  pub none_held : IsSomething camera (emptied phone) → ⊥

-- between which devices a pull may want memory, and, before a ⊥, between which it doesn't
pub record TheWanting : Type 0 where
  pub one_new : HasToPull camera phone
  -- nothing held is new, but something is learned
  pub one_learned : HasToPull camera (emptied phone)
  pub all_known : HasToPull informed phone → ⊥
  pub not_covered : HasToPull camera (choosy (emptied phone)) → ⊥
