use Rattle.std.proofs.Common.{◌≡◌, ◌++◌, string_bytes}
use Rattle.std.specs.Fmt.{decimal}
use Rattle.photo_script.proofs.Joined.{joined_to}
use Rattle.photo_script.proofs.known_report.push_pictures.Given as goal

abbrev pub invariant-loop-i : goal.invariant-loop-i
invariant-loop-i l = string_bytes l.text ≡ string_bytes l.fn.text ++ joined_to 44 decimal l.pictures l.i
