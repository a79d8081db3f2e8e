use Rattle.std.proofs.Common.{◌≡◌, ◌<◌, ◌++◌, length, string_bytes}
use Rattle.std.specs.List.{AllByRecursion}
use Rattle.photo_version.specs.Author.{author_of_word, device_of_author}
use Rattle.photo_script.specs.Reports.{bounds_text}
use Rattle.photo_script.proofs.Joined.{bounds_behind}
use Rattle.photo_script.proofs.known_report.push_bounds.Given as goal

abbrev pub invariant-loop-bound : goal.invariant-loop-bound
invariant-loop-bound l = record {
  written : string_bytes l.text ++ bounds_behind l.script l.entries ≡ string_bytes l.fn.text ++ bounds_text l.script l.fragment.entries;
  authors : AllByRecursion (λ e. device_of_author (author_of_word e.0) < length l.script.names) l.entries;
}

abbrev pub decreases-loop-bound : goal.decreases-loop-bound
decreases-loop-bound l = length l.entries
