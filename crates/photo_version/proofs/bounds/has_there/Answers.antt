use Rattle.std.proofs.Common.{rules, ◌≡◌, ◌∙◌, true, get_or, leb, sym, ap, arith}
use Rattle.photo_version.specs.Author.{same_author}
use Rattle.photo_version.specs.Vector.{Bound}
use Rattle.photo_version.proofs.SearchLemmas.{number_here}
use Rattle.photo_version.proofs.bounds.has_there.Goals as goal

pub returns : goal.returns
returns c =
    let bs = c.args.bounds.now in
    let n = c.args.place in
    let d = c.index-bounds-place.result in
    let same : same_author (get_or bs n d).0 c.args.version.author ≡ true = search rules in
    let at : get_or bs n d ≡ d = search rules in
    ap (λ m. leb m d.1) c.n.ensures.value
    ∙ (ap (λ (b : Bound). leb c.args.version.number b.1) (sym at)
    ∙ sym (number_here bs n d c.args.version c.requires (omega arith) same (search rules)))
