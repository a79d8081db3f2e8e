use Rattle.std.proofs.Common.{◌≡◌, ◌++◌, [], List, ℕ, string_bytes, codes, sym, ap, ◌∙◌, append_assoc}
use Rattle.std.proofs.lemmas.Option.{get_or_from_slice_get}
use Rattle.std.specs.Fmt.{decimal}
use Rattle.photo_script.specs.Reports.{name_of}
use Rattle.photo_script.proofs.report.push_counted_heading.Goals as goal

regrouped : (a b c d e : List ℕ) → a ++ (b ++ (c ++ (d ++ e))) ≡ a ++ b ++ c ++ d ++ e
regrouped a b c d e = sym (simp append_assoc)

pub returns : goal.returns
returns c =
    let old = string_bytes c.args.text.now in
    let count = decimal c.args.count in
    let text = c.name-name.result.now in
    let written : string_bytes c.writeln.new.self ≡ old ++ (c.args.what.now ++ (text ++ (codes " " ++ (count ++ codes "\n")))) = c.in_ok-writeln.ensures.bytes in
    let name : name_of c.args.script.now c.args.device ≡ text = get_or_from_slice_get c.args.script.now.names c.args.device _ [] c.name-name.ensures in
    rw name (written ∙ ap (λ t. old ++ t) (regrouped (c.args.what.now) text (codes " ") count (codes "\n")))
