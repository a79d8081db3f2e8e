use Rattle.std.proofs.Common.{rules, ◌≡◌, ◌∙◌, true, false, get_or, leb, sym, ap, subst, arith}
use Rattle.std.proofs.lemmas.List.Sorted.{IsPartitionPoint-from_clause}
use Rattle.photo_version.specs.Author.{same_author}
use Rattle.photo_version.specs.Vector.{Bound}
use Rattle.photo_version.proofs.SearchLemmas.{stands_before, partitioned, IsPlace, place_from, none_at_end, number_here, none_here}
use Rattle.photo_version.proofs.bounds.has.Goals as goal

pub returns-then-place-bounds : goal.returns-then-place-bounds
returns-then-place-bounds c =
    let bs = c.args.bounds.now in
    let n = c.partition_point-place.result in
    let a = c.author-author.result in
    let split = IsPartitionPoint-from_clause (λ (b : Bound). stands_before a b) bs _ c.partition_point-place.ensures.partitioned (partitioned a bs c.requires) (λ x r f h. search rules) in
    let place = subst (λ b. IsPlace b bs n) c.author-author.ensures (place_from a bs n c.partition_point-place.ensures.bound c.requires split) in
    sym (none_at_end bs n c.args.version place (omega arith))

pub returns-then-eq : goal.returns-then-eq
returns-then-eq c =
    let bs = c.args.bounds.now in
    let n = c.partition_point-place.result in
    let d = c.index-bounds-place.result in
    let same : same_author (get_or bs n d).0 c.args.version.author ≡ true = search rules in
    let at : get_or bs n d ≡ d = search rules in
    ap (λ m. leb m d.1) c.n.ensures.value
    ∙ (ap (λ (b : Bound). leb c.args.version.number b.1) (sym at)
    ∙ sym (number_here bs n d c.args.version c.requires (omega arith) same (search rules)))

pub returns-else-eq : goal.returns-else-eq
returns-else-eq c =
    let bs = c.args.bounds.now in
    let n = c.partition_point-place.result in
    let a = c.author-author.result in
    let d = c.index-bounds-place.result in
    let split = IsPartitionPoint-from_clause (λ (b : Bound). stands_before a b) bs _ c.partition_point-place.ensures.partitioned (partitioned a bs c.requires) (λ x r f h. search rules) in
    let place = subst (λ b. IsPlace b bs n) c.author-author.ensures (place_from a bs n c.partition_point-place.ensures.bound c.requires split) in
    let other : same_author (get_or bs n d).0 c.args.version.author ≡ false = search rules in
    let is = sym (none_here bs n d c.args.version place (omega arith) other) in
    search (rules, is)
