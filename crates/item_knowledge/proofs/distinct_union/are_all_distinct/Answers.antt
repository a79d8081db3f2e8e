use Rattle.std.proofs.Common.{rules}
use Rattle.item_knowledge.proofs.DistinctUnionLemmas.{all_apart}
use Rattle.item_knowledge.proofs.distinct_union.are_all_distinct.Goals as goal

pub returns : goal.returns
returns c others = (all_apart c.in-Some.by_vector c.args.rows.now c.args.joined.now (search rules) (search rules), c.are_others.ensures others)
