use Rattle.std.proofs.Common.{◌≡◌, ◌++◌, take, string_bytes}
use Rattle.std.specs.List.{flat_map}
use Rattle.photo_script.specs.Reports.{conflict_text}
use Rattle.photo_script.proofs.conflict_report.push_pictures.Given as goal

abbrev pub invariant-loop-conflict : goal.invariant-loop-conflict
invariant-loop-conflict l = string_bytes l.text ≡ string_bytes l.fn.text ++ flat_map (conflict_text l.script) (take l.conflict-index l.pictures)
