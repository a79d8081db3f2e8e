use Rattle.std.proofs.Common.{◌≡◌, ◌++◌, List, ℕ, string_bytes, codes, sym, ap, ◌∙◌, append_assoc}
use Rattle.std.specs.Fmt.{decimal}
use Rattle.photo_script.proofs.moved_report.push_refiltered.Goals as goal

regrouped : (a b c d e : List ℕ) → a ++ (b ++ (c ++ (d ++ e))) ≡ a ++ b ++ c ++ d ++ e
regrouped a b c d e = sym (simp append_assoc)

pub returns : goal.returns
returns c =
    let old = string_bytes c.args.text.now in
    let stored = decimal c.args.store in
    let waiting = decimal c.args.out in
    let written : string_bytes c.writeln.new.self ≡ old ++ (codes "refiltered store " ++ (stored ++ (codes " out " ++ (waiting ++ codes "\n")))) = c.in_ok-writeln.ensures.bytes in
    written ∙ ap (λ t. old ++ t) (regrouped (codes "refiltered store ") stored (codes " out ") waiting (codes "\n"))
