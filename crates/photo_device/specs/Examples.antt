-- Worked examples: changes that may be staged, versions that may be handed over with them, and what staging leaves.
use Rattle.std.specs.Prelude.{◌≡◌, ℕ, true, false, pos, List, [], ◌∷◌, Some, None}
use Rattle.photo_record.specs.declared.record.Record.{Record}
use Rattle.photo_record.specs.declared.record.Record.TheVariants.{Picture}
use Rattle.photo_filter_text.specs.Tree.{All}
use Rattle.photo_version.specs.Author.{author, author_at, author_word}
use Rattle.photo_version.specs.Version.{Version, version}
use Rattle.photo_version.specs.Vector.{Bound, denotes}
use Rattle.item_knowledge.specs.Fragments.{Fragment, knows}
use Rattle.photo_device.specs.declared.held.Held.{Held}
use Rattle.photo_device.specs.Held.{find_version, count_of}
use Rattle.photo_device.specs.Device.{Kept, Staging}
use Rattle.photo_device.specs.Resorted.{HasBesides, IsNextOf, is_second_next}
use Rattle.photo_device.specs.Cached.{author_of_row}
use Rattle.photo_device.specs.Staging.{HasStaged, MayHand, MayStage}

abbrev pub bright : Record
bright = Picture 5 (pos 19_844) []

-- the version with that number of the device at that place
abbrev pub nth : ℕ → ℕ → Version
nth place number = version (author place) number

-- the bound with that number of the device at that place
abbrev pub bound : ℕ → ℕ → ℕ × ℕ
bound place number = (author_word (author place), number)

abbrev pub of : List ℕ → List (ℕ × ℕ) → Fragment
of pictures entries = record { pictures = pictures; entries = entries }

abbrev pub held_of : ℕ → Version → List Bound → Held
held_of picture v history = record { picture = picture; version = v; made_with = history; content = bright }

-- the first device made picture 7, the second edited it, and the third made picture 9

abbrev pub first : Held
first = held_of 7 (nth 0 1) []

abbrev pub edited : Held
edited = held_of 7 (nth 1 1) ((author 0, 1) ∷ [])

abbrev pub other : Held
other = held_of 9 (nth 2 1) []

-- the first device, which holds and knows exactly what it made
abbrev pub camera : Kept
camera = record {
  author = author 0;
  tree = All;
  counter = 1;
  store = first ∷ [];
  out = [];
  knowledge = of [] (bound 0 1 ∷ []) ∷ [];
  staged = None;
}

-- what the camera learns: of picture 7 the edit with its history, and of picture 9 its version
abbrev pub gain : List Fragment
gain = of [] [] ∷ of (7 ∷ []) (bound 0 1 ∷ bound 1 1 ∷ []) ∷ of (9 ∷ []) (bound 2 1 ∷ []) ∷ []

-- what the camera will then know
abbrev pub learned : List Fragment
learned = of [] (bound 0 1 ∷ []) ∷ of (7 ∷ []) (bound 0 1 ∷ bound 1 1 ∷ []) ∷ of (9 ∷ []) (bound 0 1 ∷ bound 2 1 ∷ []) ∷ []

-- a change that takes the edit in place of the first version, with room for one handed version
abbrev pub change : Staging
change = record { drops = nth 0 1 ∷ []; takes = edited ∷ []; knowledge = learned; room = 1 }

abbrev pub ready : Kept
ready = record camera { staged = Some change }

-- changes that may be staged on the camera, and, before a ⊥, changes that may not
pub record MayStageAsTold : Type 0 where
  pub edit : MayStage (first ∷ []) [] (edited ∷ []) gain camera
  -- an empty change
  pub none : MayStage [] [] [] [] camera
  -- it drops a version that isn't held
  pub not_held : MayStage (edited ∷ []) [] (edited ∷ []) gain camera → ⊥
  -- it drops from the out a version that is in the store
  pub elsewhere : MayStage [] (first ∷ []) (edited ∷ []) gain camera → ⊥
  -- it takes a held version, although it also drops that one
  pub found : find_version (nth 0 1) camera.store ≡ Some first
  pub held : MayStage (first ∷ []) [] (first ∷ []) gain camera → ⊥
  -- it takes a version twice
  pub count : count_of (nth 1 1) (edited ∷ edited ∷ []) ≡ 2
  pub twice : MayStage (first ∷ []) [] (edited ∷ edited ∷ []) gain camera → ⊥
  -- it takes an author's second version whose history lacks the first
  pub gap : MayStage [] [] (held_of 7 (nth 1 2) [] ∷ []) (of [] (bound 1 2 ∷ []) ∷ []) camera → ⊥
  -- it takes a version that isn't learned, or is learned without its history, or of another picture alone
  pub not_learned : MayStage (first ∷ []) [] (edited ∷ []) [] camera → ⊥
  pub no_history : MayStage (first ∷ []) [] (edited ∷ []) (of [] [] ∷ of (7 ∷ []) (bound 1 1 ∷ []) ∷ []) camera → ⊥
  pub of_another : MayStage (first ∷ []) [] (edited ∷ []) (of [] [] ∷ of (9 ∷ []) (bound 0 1 ∷ bound 1 1 ∷ []) ∷ []) camera → ⊥
  -- it learns a second version of the camera's own, which has made one
  pub not_made : MayStage [] [] [] (of [] [] ∷ of (9 ∷ []) (bound 0 2 ∷ []) ∷ []) camera → ⊥
  -- it learns a version of a later epoch of the camera
  pub too_late : MayStage [] [] [] (of [] [] ∷ of (9 ∷ []) ((author_word (author_at 0 1), 1) ∷ []) ∷ []) camera → ⊥

-- what staging the change leaves, and, before a ⊥, what it doesn't leave
pub record HasStagedAsTold : Type 0 where
  pub edit : HasStaged (nth 0 1 ∷ []) (edited ∷ []) gain 1 camera ready
  -- the edit isn't yet known, and will be known of its picture alone
  pub not_yet : knows ready.knowledge 7 (nth 1 1) ≡ false
  pub will : knows learned 7 (nth 1 1) ≡ true
  pub of_nine : knows learned 9 (nth 1 1) ≡ false
  -- what was known stays known, of each picture
  pub still : knows learned 8 (nth 0 1) ≡ true
  -- nothing is staged, or the room is another
  pub nothing : HasStaged (nth 0 1 ∷ []) (edited ∷ []) gain 1 camera camera → ⊥
  pub other_room : HasStaged (nth 0 1 ∷ []) (edited ∷ []) gain 2 camera ready → ⊥
  -- the first version is dropped at once
  pub at_once : HasStaged (nth 0 1 ∷ []) (edited ∷ []) gain 1 camera (record ready { store = [] }) → ⊥
  -- the edit will not be known
  pub forgotten : HasStaged (nth 0 1 ∷ []) (edited ∷ []) gain 1 camera (record camera { staged = Some (record change { knowledge = camera.knowledge }) }) → ⊥
  -- the edit will be known of every picture
  pub of_every : HasStaged (nth 0 1 ∷ []) (edited ∷ []) gain 1 camera (record camera { staged = Some (record change { knowledge = of [] (bound 0 1 ∷ bound 1 1 ∷ bound 2 1 ∷ []) ∷ [] }) }) → ⊥

-- versions that may be handed to the camera with that change, and, before a ⊥, versions that may not
pub record MayHandAsTold : Type 0 where
  pub new_one : MayHand (other ∷ []) change ready
  pub none : MayHand [] change ready
  -- there is room for fewer
  pub no_room : MayHand (other ∷ []) (record change { room = 0 }) ready → ⊥
  -- a version is handed over twice, although there is room for two
  pub twice : MayHand (other ∷ other ∷ []) (record change { room = 2 }) ready → ⊥
  -- the version is taken too, or is held, although that one is to be dropped
  pub taken : MayHand (edited ∷ []) change ready → ⊥
  pub held : MayHand (first ∷ []) change ready → ⊥
  -- the version will not be known
  pub not_known : MayHand (other ∷ []) (record change { knowledge = camera.knowledge }) ready → ⊥

-- the author of a row of the cache
pub record TheCacheRows : Type 0 where
  pub first : author_of_row 0 ≡ author 0
  pub last : author_of_row 255 ≡ author 255
  pub next_epoch : author_of_row 256 ≡ author_at 0 1
  pub later : author_of_row 515 ≡ author_at 3 2

-- a table with what is told of picture 7
abbrev pub of_seven : List (ℕ × List Bound)
of_seven = (7, (author 0, 1) ∷ []) ∷ []

-- what a table has besides, of that picture and of a later one, and, before a ⊥, what it doesn't have
pub record TheTables : Type 0 where
  pub joined : HasBesides of_seven ((7, (author 0, 1) ∷ (author 1, 1) ∷ []) ∷ []) 7 (denotes ((author 1, 1) ∷ []))
  pub behind : HasBesides of_seven ((7, (author 0, 1) ∷ []) ∷ (8, (author 1, 1) ∷ []) ∷ []) 8 (denotes ((author 1, 1) ∷ []))
  -- the versions are told of another picture
  pub of_another : HasBesides of_seven ((7, (author 0, 1) ∷ (author 1, 1) ∷ []) ∷ []) 8 (denotes ((author 1, 1) ∷ [])) → ⊥
  -- the table loses what it had
  pub lost : HasBesides of_seven ((7, (author 1, 1) ∷ []) ∷ []) 7 (denotes ((author 1, 1) ∷ [])) → ⊥

abbrev second : Held
second = held_of 8 (nth 1 1) []

-- a cursor along two lists of one version each
pub record TheNexts : Type 0 where
  pub lesser_first : is_second_next (second ∷ []) (first ∷ []) ≡ true
  pub greater_later : is_second_next (first ∷ []) (second ∷ []) ≡ false
  -- of the same picture, the first list's version comes first
  pub same_picture : is_second_next (first ∷ []) (first ∷ []) ≡ false
  pub last_ones : is_second_next [] (first ∷ []) ≡ true
  pub next : IsNextOf first (second ∷ first ∷ []) (second ∷ [])
  -- a version of a lesser picture is left behind
  pub too_early : IsNextOf second (second ∷ first ∷ []) (first ∷ []) → ⊥
  -- a version is lost
  pub one_lost : IsNextOf first (second ∷ first ∷ []) [] → ⊥
