use Rattle.std.proofs.Common.{◌≡◌, ◌++◌, length, get_or, codes, string_bytes, sym, ap, ◌∙◌, arith}
use Rattle.std.specs.Fmt.{decimal}
use Rattle.std.proofs.lemmas.Bool.{eqb-false}
use Rattle.photo_script.proofs.Joined.{joined_to-turn, pictures-all}
use Rattle.photo_script.proofs.known_report.push_pictures.Goals as goal

pub loop-i-preserved : goal.loop-i-preserved
loop-i-preserved c =
    let item = decimal (get_or c.args.pictures.now c.loop-i.i 0) in
    let written = c.in_ok-push_picture-2.ensures ∙ ap (λ t. t ++ item) (c.in_ok-push_str-2.ensures.bytes ∙ ap (λ t. t ++ codes ",") c.loop-i.invariant) in
    joined_to-turn 44 decimal c.args.pictures.now (string_bytes c.args.text.now) _ c.loop-i.i 0 (omega arith) (omega arith) written

pub returns : goal.returns
returns c =
    let some : length c.args.pictures.now ≡ 0 → ⊥ = eqb-false (length c.args.pictures.now) 0 (sym c.if-is_empty.ensures) in
    c.loop-i.invariant ∙ ap (λ t. string_bytes c.args.text.now ++ t) (pictures-all c.args.pictures.now c.loop-i.i (omega arith) (omega arith))
