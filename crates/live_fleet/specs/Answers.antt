-- Converts answers into the values that a fleet's methods give.
use Rattle.std.specs.Prelude.{ℕ, Option, Some, None}
use Rattle.photo_version.specs.Version.{Version}
use Rattle.photo_model.specs.declared.place.Place.{Place}
use Rattle.photo_model.specs.declared.counts.PullCounts.{PullCounts}
use Rattle.fleet_model.specs.Answers.{RightAnswer, Made, NotHeld, NotNarrower, Narrowed, Refiltered, Pulled, Preview, Listed, Conflicts, Knows}
use Rattle.photo_script.specs.Reports.{Plain, Answer, KnowledgeOf}

-- the version that an answer reports as made, and its place
abbrev pub made_in : Answer → Option (Version × Place)
made_in (Plain (Made v place)) = Some (v, place)
made_in (Plain NotHeld) = None
made_in (Plain NotNarrower) = None
made_in (Plain (Narrowed count)) = None
made_in (Plain (Refiltered stored waiting)) = None
made_in (Plain (Pulled counts)) = None
made_in (Plain (Preview counts)) = None
made_in (Plain (Listed n store out)) = None
made_in (Plain (Conflicts n pictures)) = None
made_in (KnowledgeOf n fragments) = None
made_in (Plain (Knows known)) = None

-- how many versions a narrowing moved out of the store
abbrev pub narrowed_in : Answer → Option ℕ
narrowed_in (Plain (Made v place)) = None
narrowed_in (Plain NotHeld) = None
narrowed_in (Plain NotNarrower) = None
narrowed_in (Plain (Narrowed count)) = Some count
narrowed_in (Plain (Refiltered stored waiting)) = None
narrowed_in (Plain (Pulled counts)) = None
narrowed_in (Plain (Preview counts)) = None
narrowed_in (Plain (Listed n store out)) = None
narrowed_in (Plain (Conflicts n pictures)) = None
narrowed_in (KnowledgeOf n fragments) = None
narrowed_in (Plain (Knows known)) = None

-- how many versions the store and the out have after a refiltering
abbrev pub refiltered_in : Answer → Option (ℕ × ℕ)
refiltered_in (Plain (Made v place)) = None
refiltered_in (Plain NotHeld) = None
refiltered_in (Plain NotNarrower) = None
refiltered_in (Plain (Narrowed count)) = None
refiltered_in (Plain (Refiltered stored waiting)) = Some (stored, waiting)
refiltered_in (Plain (Pulled counts)) = None
refiltered_in (Plain (Preview counts)) = None
refiltered_in (Plain (Listed n store out)) = None
refiltered_in (Plain (Conflicts n pictures)) = None
refiltered_in (KnowledgeOf n fragments) = None
refiltered_in (Plain (Knows known)) = None

-- what a pull moved
abbrev pub pulled_in : Answer → Option PullCounts
pulled_in (Plain (Made v place)) = None
pulled_in (Plain NotHeld) = None
pulled_in (Plain NotNarrower) = None
pulled_in (Plain (Narrowed count)) = None
pulled_in (Plain (Refiltered stored waiting)) = None
pulled_in (Plain (Pulled counts)) = Some counts
pulled_in (Plain (Preview counts)) = None
pulled_in (Plain (Listed n store out)) = None
pulled_in (Plain (Conflicts n pictures)) = None
pulled_in (KnowledgeOf n fragments) = None
pulled_in (Plain (Knows known)) = None

-- the answer to a change: the version that was made, or `NotHeld`
abbrev pub change_answer : Option (Version × Place) → RightAnswer
change_answer (Some made) = Made made.0 made.1
change_answer None = NotHeld

-- the answer to a narrowing: how many versions left the store, or `NotNarrower`
abbrev pub narrow_answer : Option ℕ → RightAnswer
narrow_answer (Some count) = Narrowed count
narrow_answer None = NotNarrower
