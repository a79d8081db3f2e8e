-- The right answer to each command.
use Rattle.std.specs.Prelude.{ℕ, Bool, List}
use Rattle.photo_version.specs.Version.{Version, Versions}
use Rattle.photo_model.specs.declared.place.Place.{Place}
use Rattle.photo_model.specs.declared.counts.PullCounts.{PullCounts}
use Rattle.photo_model.specs.Entry.{Entry}
use Rattle.photo_model.specs.Conflicts.{Conflict}

-- an answer, except the one that lists a device's knowledge
pub data RightAnswer : Type 0 where
  Made : Version → Place → RightAnswer
  NotHeld : RightAnswer
  NotNarrower : RightAnswer
  Narrowed : ℕ → RightAnswer
  -- how many versions the store and the out then have
  Refiltered : ℕ → ℕ → RightAnswer
  Pulled : PullCounts → RightAnswer
  -- the counts that the pull would have
  Preview : PullCounts → RightAnswer
  Listed : ℕ → List Entry → List Entry → RightAnswer
  Conflicts : ℕ → List Conflict → RightAnswer
  Knows : Bool → RightAnswer

-- the right report: exactly this answer, or the knowledge of a device, given as a test of pictures and versions
pub data ModelReport : Type 0 where
  Exactly : RightAnswer → ModelReport
  KnowledgeIs : ℕ → (ℕ → Versions) → ModelReport
