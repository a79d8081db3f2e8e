use Rattle.std.proofs.Common.{◌≡◌, ◌++◌, take, string_bytes}
use Rattle.std.specs.List.{flat_map}
use Rattle.photo_script.specs.Reports.{fragment_text}
use Rattle.photo_script.proofs.known_report.push_fragments.Given as goal

abbrev pub invariant-loop-k : goal.invariant-loop-k
invariant-loop-k l = string_bytes l.text ≡ string_bytes l.fn.text ++ flat_map (fragment_text l.script) (take l.k l.knowledge.known)
