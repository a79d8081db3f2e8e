use Rattle.std.proofs.Common.{rules, []}
use Rattle.item_knowledge.specs.Gathering.{star_first}
use Rattle.item_knowledge.specs.Rows.{pairs, grouped}
use Rattle.item_knowledge.specs.VectorIndex.{vectors_at}
use Rattle.item_knowledge.specs.Operand.{fragments}
use Rattle.item_knowledge.proofs.VectorIndexLemmas.{placed_differ}
use Rattle.item_knowledge.proofs.UnionLemmas.{beyond_of}
use Rattle.item_knowledge.proofs.union.gathered.Goals as goal

pub returns : goal.returns
returns c =
    let us = grouped c.in_ok-listed.listed.items (vectors_at c.groups.new.vectors c.groups.new.by_vector.numbers.items) in
    record {
      us = star_first [] us;
      rows = search rules;
      union = beyond_of (pairs c.args.star.now) (fragments c.args.left) (fragments c.args.right) c.args.left.index.now c.args.right.index.now c.args.left.operand c.args.right.operand c.args.left.excess.first c.args.right.excess.first us c.in_ok-listed.index.items
          c.in_ok-listed.ensures.gathered (placed_differ c.groups.new.by_vector c.groups.new.vectors c.in_ok-listed.listed.items c.in_ok-listed.ensures.placed);
    }
