use Rattle.std.proofs.Common.{◌≡◌, ◌++◌, [], List, ℕ, string_bytes, codes, sym, ap, ◌∙◌, append_assoc}
use Rattle.std.proofs.lemmas.Option.{get_or_from_slice_get}
use Rattle.std.specs.Fmt.{decimal}
use Rattle.photo_script.specs.Reports.{name_of}
use Rattle.photo_script.proofs.report.push_heading.Goals as goal

regrouped : (a b c d e f g : List ℕ) → a ++ (b ++ (c ++ (d ++ (e ++ (f ++ g))))) ≡ a ++ b ++ c ++ d ++ e ++ f ++ g
regrouped a b c d e f g = sym (simp append_assoc)

pub returns : goal.returns
returns c =
    let old = string_bytes c.args.text.now in
    let stored = decimal c.args.stored in
    let waiting = decimal c.args.waiting in
    let text = c.name-name.result.now in
    let written : string_bytes c.writeln.new.self ≡ old ++ (codes "list " ++ (text ++ (codes " store " ++ (stored ++ (codes " out " ++ (waiting ++ codes "\n")))))) = c.in_ok-writeln.ensures.bytes in
    let name : name_of c.args.script.now c.args.device ≡ text = get_or_from_slice_get c.args.script.now.names c.args.device _ [] c.name-name.ensures in
    rw name (written ∙ ap (λ t. old ++ t) (regrouped (codes "list ") text (codes " store ") stored (codes " out ") waiting (codes "\n")))
