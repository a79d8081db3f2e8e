use Rattle.std.proofs.Common.{◌++◌, string_bytes, ap, ◌∙◌, arith}
use Rattle.std.specs.List.{flat_map}
use Rattle.std.proofs.lemmas.List.{take_all}
use Rattle.photo_script.specs.Reports.{fragment_text}
use Rattle.photo_script.proofs.known_report.push_fragments.Goals as goal

pub returns : goal.returns
returns c =
    let old = string_bytes c.args.text.now in
    c.loop-k.invariant ∙ ap (λ fragments. old ++ flat_map (fragment_text c.args.script.now) fragments) (take_all c.loop-k.k c.args.knowledge.now.known (omega arith))
