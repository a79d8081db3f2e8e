use Rattle.std.proofs.Common.{◌≡◌, ◌++◌, take, string_bytes}
use Rattle.std.specs.List.{flat_map}
use Rattle.photo_device.specs.Held.{entry_of}
use Rattle.photo_script.specs.Reports.{entry_text}
use Rattle.photo_script.proofs.report.push_helds.Given as goal

abbrev pub invariant-loop-held : goal.invariant-loop-held
invariant-loop-held l = string_bytes l.text ≡ string_bytes l.fn.text ++ flat_map (λ held. entry_text l.script l.place (entry_of held)) (take l.held-index l.helds)
