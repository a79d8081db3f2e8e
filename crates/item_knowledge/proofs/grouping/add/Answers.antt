use Rattle.std.proofs.Common.{rules, ◌≡◌, ◌<◌, ◌++◌, ◌∷◌, [], ◌∙◌, get_or, length, arith}
use Rattle.std.proofs.lemmas.Grind.{common_steps}
use Rattle.std.proofs.lemmas.List.{get_or_default}
use Rattle.item_knowledge.specs.VectorIndex.{is_new, vectors_at}
use Rattle.item_knowledge.specs.Rows.{pairs, IsRow, grouped}
use Rattle.item_knowledge.proofs.GatherLemmas.{group_begun}
use Rattle.item_knowledge.proofs.MergeLemmas.{snoc_each}
use Rattle.item_knowledge.proofs.VectorIndexLemmas.{behind, vectors_length, grouped_length, grouped_at, grouped_set, grouped_push}
use Rattle.item_knowledge.proofs.grouping.add.Goals as goal

pub returns-in-Some : goal.returns-in-Some
returns-in-Some c =
    let vectors = vectors_at c.args.vectors.now c.args.by_vector.now.numbers.items in
    let pushed : c.push.new.self ≡ c.index_mut.result.now ++ c.args.picture ∷ [] = search rules in
    let less : c.in-Some.k < length vectors = omega (arith, vectors_length c.args.vectors.now c.args.by_vector.now.numbers.items, c.find-bucket.ensures.below c.in-Some.k c.in-Some.is) in
    let was : c.index_mut.result.now ≡ get_or c.args.groups.now.items c.in-Some.k [] = c.index_mut.ensures.value ∙ get_or_default c.args.groups.now.items c.in-Some.k c.index_mut.result.now [] (omega (arith, less, c.requires.placed.counted)) in
    let many = grouped_length c.args.groups.now.items vectors c.requires.placed.counted in
    let there = grouped_at c.args.groups.now.items vectors c.in-Some.k c.requires.placed.counted less in
    record {
      added = grind (arith, common_steps, there, less, many, pushed, was, grouped_set c.args.groups.now.items vectors c.in-Some.k c.push.new.self c.requires.placed.counted less, c.find-bucket.ensures.found c.in-Some.k c.in-Some.is);
      placed = grind (arith, common_steps);
      below = search rules;
    }

pub returns : goal.returns
returns c =
    let vectors = vectors_at c.args.vectors.now c.args.by_vector.now.numbers.items in
    let new : is_new vectors c.args.row.now = c.find-bucket.ensures.absent (search rules) in
    let groups : c.push-2.new.self.items ≡ c.args.groups.now.items ++ (c.args.picture ∷ []) ∷ [] = search rules in
    let more = behind c.args.by_vector.now c.args.vectors.now c.place_fragment.new.self c.args.groups.now.items c.args.row.now c.find-bucket.result.0 c.len-k.result c.requires.placed (search rules) c.len-k.ensures c.find-bucket.ensures.bucket new in
    let rows = more.vectors c.push-3.new.self.numbers.items c.in_ok-push-3.ensures.numbers in
    let long = more.more in
    let many = grouped_length c.args.groups.now.items vectors c.requires.placed.counted in
    let count = vectors_length c.args.vectors.now c.args.by_vector.now.numbers.items in
    record {
      added = group_begun c.args.picture (pairs c.args.row.now) (grouped c.args.groups.now.items vectors) _ c.len-k.result (omega (arith, count, many, c.len-k.ensures)) ((λ i. grouped (groups i) (rows i)) ∙ grouped_push c.args.groups.now.items vectors (c.args.picture ∷ []) c.args.row.now c.requires.placed.counted);
      placed = grind (arith, common_steps, c.in_ok-push-3.ensures.found c.place_fragment.new.self more.can, c.in_ok-push-3.ensures.numbers, c.requires.placed.even, rows, snoc_each (λ _ ws. IsRow ws) vectors c.args.row.now [] c.requires.placed.whole c.requires.row);
      below = grind (arith, common_steps);
    }
