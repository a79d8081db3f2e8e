use Rattle.std.proofs.Common.{◌++◌, string_bytes, ap, ◌∙◌, arith}
use Rattle.std.specs.List.{flat_map}
use Rattle.std.proofs.lemmas.List.{take_all}
use Rattle.photo_device.specs.Held.{entry_of}
use Rattle.photo_script.specs.Reports.{entry_text}
use Rattle.photo_script.proofs.Listing.{IsOfScript-item, flat_map-entries}
use Rattle.photo_script.proofs.report.push_helds.Goals as goal

pub push_held-requires : goal.push_held-requires
push_held-requires c = IsOfScript-item c.args.script.now c.args.helds.now c.loop-held.held-index c.held-item.result c.requires (omega arith) c.held-item.is

pub returns : goal.returns
returns c =
    let old = string_bytes c.args.text.now in
    let line = entry_text c.args.script.now c.args.place in
    let all = take_all c.loop-held.held-index c.args.helds.now (omega arith) in
    c.loop-held.invariant ∙ ap (λ helds. old ++ flat_map (λ h. line (entry_of h)) helds) all ∙ ap (λ t. old ++ t) (flat_map-entries line c.args.helds.now)
