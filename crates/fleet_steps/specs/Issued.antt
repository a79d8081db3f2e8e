-- Machinery of the proofs: which commands make a version, and which reports name one.
use Rattle.std.specs.Prelude.{ℕ, Option, Some, None}
use Rattle.photo_version.specs.Version.{Version}
use Rattle.fleet_model.specs.declared.command.Command.{Command}
use Rattle.fleet_model.specs.declared.command.Command.TheVariants as command
use Rattle.fleet_model.specs.Answers.{Made, NotHeld, NotNarrower, Narrowed, Refiltered, Pulled, Preview, Listed, Conflicts, Knows}
use Rattle.photo_script.specs.Reports.{Plain, Answer, KnowledgeOf}

-- the picture of the version that a command makes
abbrev pub picture_of : Command → Option ℕ
picture_of (command.New device picture content) = Some picture
picture_of (command.Edit device picture content) = Some picture
picture_of (command.Remove device picture) = Some picture
picture_of (command.Pull target source) = None
picture_of (command.Narrow device filter) = None
picture_of (command.Refilter device filter) = None
picture_of (command.Preview target source) = None
picture_of (command.List device) = None
picture_of (command.Conflicts device) = None
picture_of (command.Knowledge device) = None
picture_of (command.Knows device picture v) = None

-- the version that an answer reports as made
abbrev pub version_told : Answer → Option Version
version_told (Plain (Made v place)) = Some v
version_told (Plain NotHeld) = None
version_told (Plain NotNarrower) = None
version_told (Plain (Narrowed count)) = None
version_told (Plain (Refiltered stored waiting)) = None
version_told (Plain (Pulled counts)) = None
version_told (Plain (Preview counts)) = None
version_told (Plain (Listed n store out)) = None
version_told (Plain (Conflicts n pictures)) = None
version_told (KnowledgeOf n fragments) = None
version_told (Plain (Knows known)) = None
