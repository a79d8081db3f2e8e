use Rattle.std.proofs.Common.{◌≡◌, ◌++◌, take, string_bytes}
use Rattle.photo_script.specs.Reports.{versions_text}
use Rattle.photo_script.proofs.conflict_report.push_versions.Given as goal

abbrev pub invariant-loop-version : goal.invariant-loop-version
invariant-loop-version l = string_bytes l.text ≡ string_bytes l.fn.text ++ versions_text l.script (take l.version-index l.versions)
