-- Command lines that ask for help or for the version.
use Rattle.std.specs.Prelude.{◌≡◌, ◌⊎◌, ℕ, ◌<◌, List, length, Option}
use Rattle.std.specs.Io.KnownBytes.{Appends}
use Rattle.clap.specs.declared.error.kind.ErrorKind.{ErrorKind}
use Rattle.clap.specs.declared.error.kind.ErrorKind.TheVariants.{DisplayHelp, DisplayVersion}

-- `clap` has these kinds of error for a request for help or for the version
abbrev pub IsWish : ErrorKind → Type 0
IsWish k = (k ≡ DisplayHelp) ⊎ (k ≡ DisplayVersion)

-- at least one byte was appended
pub record AppendsSome (old new : Option (List ℕ)) : Type 0 where
  pub bytes : List ℕ
  pub some : 0 < length bytes
  pub written : Appends old new bytes
