-- Small pulls, worked: which targets are up to date, and what a pull takes, hands over and notices.
use Rattle.std.specs.Prelude.{◌≡◌, ℕ, true, false, pos, ◌==◌, ◌&&◌, ◌||◌, List, [], ◌∷◌}
use Rattle.photo_record.specs.declared.record.Record.{Record}
use Rattle.photo_record.specs.declared.record.Record.TheVariants.{Picture, Removed}
use Rattle.photo_filter_text.specs.declared.tree.Cmp.TheVariants.{AtLeast}
use Rattle.photo_filter_text.specs.Tree.{All, Rate}
use Rattle.photo_version.specs.Author.{author}
use Rattle.photo_version.specs.Version.{Version, version}
use Rattle.photo_version.specs.Vector.{Bound, denotes}
use Rattle.photo_model.specs.Entry.{Entry}
use Rattle.photo_model.specs.Device.{ModelDevice}
use Rattle.photo_model.specs.Pull.{taken, handed, noticed, is_up_to_date, IsTaughtNothing, pulled, handed_over, counts_of}

-- the number-th version of a device in epoch 0
abbrev pub nth : ℕ → ℕ → Version
nth place number = version (author place) number

abbrev pub entry : ℕ → Version → List Bound → Record → Entry
entry picture v history content = record { picture = picture; version = v; history = denotes history; content = content }

abbrev pub bright : Record
bright = Picture 5 (pos 19_844) []

-- The first device made picture 7. The second made picture 8, then rated picture 7 with one star, then removed picture 9 of a
-- third device.

abbrev pub first : Entry
first = entry 7 (nth 0 1) [] bright

abbrev pub shot : Entry
shot = entry 8 (nth 1 1) [] bright

abbrev pub dimmed : Entry
dimmed = entry 7 (nth 1 2) ((author 0, 1) ∷ (author 1, 1) ∷ []) (Picture 1 (pos 19_844) [])

abbrev pub removal : Entry
removal = entry 9 (nth 1 3) ((author 1, 2) ∷ (author 2, 1) ∷ []) Removed

-- a device with these versions known for every picture
abbrev pub knowing : List Bound → ModelDevice → ModelDevice
knowing bounds m = record m { every = denotes bounds }

-- the first device: it keeps what has three stars, and holds and knows only what it made
abbrev pub camera : ModelDevice
camera = record {
  author = author 0;
  tree = Rate AtLeast 3;
  counter = 1;
  store = first ∷ [];
  out = [];
  every = denotes ((author 0, 1) ∷ []);
  of = λ picture v. false;
}

-- the first device, where it also knows the second device's first version
abbrev pub informed : ModelDevice
informed = knowing ((author 0, 1) ∷ (author 1, 1) ∷ []) camera

-- the second device, which keeps everything, after it made picture 8
abbrev pub phone : ModelDevice
phone = record {
  author = author 1;
  tree = All;
  counter = 1;
  store = shot ∷ [];
  out = [];
  every = denotes ((author 1, 1) ∷ []);
  of = λ picture v. false;
}

-- the second device, where it knows the first device's version and doesn't hold it
abbrev pub tidy : ModelDevice
tidy = knowing ((author 0, 1) ∷ (author 1, 1) ∷ []) phone

-- a device with the filter `rating >= 4`, which doesn't cover the camera's
abbrev pub choosy : ModelDevice → ModelDevice
choosy m = record m { tree = Rate AtLeast 4 }

-- the device with its knowledge, but holding nothing
abbrev pub emptied : ModelDevice → ModelDevice
emptied m = record m { store = []; out = [] }

-- the second device after it made all three versions
abbrev pub later : ModelDevice
later = record phone {
  counter = 3;
  store = dimmed ∷ shot ∷ [];
  out = removal ∷ [];
  every = denotes ((author 1, 3) ∷ []);
  of = λ picture v. ((picture == 7) && denotes ((author 0, 1) ∷ []) v) || ((picture == 9) && denotes ((author 2, 1) ∷ []) v);
}

-- which targets are up to date with which sources
pub record TheUpToDate : Type 0 where
  pub all_known : is_up_to_date informed phone ≡ true
  pub one_unknown : is_up_to_date camera phone ≡ false
  -- the unknown version waits in the source's out
  pub one_waiting : is_up_to_date camera (record phone { store = []; out = shot ∷ [] }) ≡ false
  -- the source knows a version that the target stores, and doesn't store it
  pub one_stale : is_up_to_date informed tidy ≡ false
  pub kept_by_both : is_up_to_date informed (record tidy { store = first ∷ shot ∷ [] }) ≡ true
  -- the source's filter doesn't cover the target's, so nothing is stale
  pub not_covered : is_up_to_date informed (choosy tidy) ≡ true
  -- the source knows a version that the target doesn't, but holds nothing
  pub none_held : is_up_to_date camera (emptied phone) ≡ true

-- which targets a pull teaches nothing; where a field ends in ⊥, the pull teaches something
pub record TheTaughtNothing : Type 0 where
  pub not_covered : IsTaughtNothing camera (choosy phone)
  pub all_known : IsTaughtNothing informed phone
  pub one_unknown : IsTaughtNothing camera phone → ⊥
  -- the source knows the version but doesn't hold it
  pub none_held : IsTaughtNothing camera (emptied phone) → ⊥

-- a pull by the camera from the second device: it takes one version, is handed one and notices one
pub record TheModelPull : Type 0 where
  pub shot_taken : taken camera later ≡ shot ∷ []
  pub removal_handed : handed camera later ≡ removal ∷ []
  pub edit_noticed : noticed camera later ≡ dimmed ∷ []
  pub counted : counts_of camera later ≡ record { taken = 1; handed = 1; notices = 1; dropped = 1; learned = true }
  -- without cover the pull moves the same versions, but the camera doesn't learn all
  pub counted_choosy : counts_of camera (choosy later) ≡ record { taken = 1; handed = 1; notices = 1; dropped = 1; learned = false }
  -- the edit supersedes what the camera stored, and the camera doesn't store the edit
  pub stored : (pulled camera later).store ≡ shot ∷ []
  pub waiting : (pulled camera later).out ≡ removal ∷ []
  pub source_out : (handed_over camera later).out ≡ []
