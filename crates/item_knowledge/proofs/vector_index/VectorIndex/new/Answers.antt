use Rattle.std.proofs.Common.{rules, ◌≡◌, [], length, ap}
use Rattle.item_knowledge.specs.VectorIndex.{bucket, vectors_at}
use Rattle.item_knowledge.proofs.ChainLemmas.{bucket_below, none_placed}
use Rattle.item_knowledge.proofs.vector_index.VectorIndex.new.Goals as goal

pub returns-clause-found : goal.returns-clause-found
returns-clause-found c rows =
    let heads = c.in_ok-vec.field-0.items in
    let numbers : c.in_ok-with_capacity-2.field-0.items ≡ [] = search rules in
    record {
      placed = none_placed (bucket c.args.seed (length heads)) heads c.in_ok-with_capacity.field-0.items (vectors_at rows c.in_ok-with_capacity-2.field-0.items) c.max.result (λ row. bucket_below c.args.seed (length heads) row (search rules)) (search rules) (search rules) (ap (vectors_at rows) numbers);
      there = search rules;
    }
