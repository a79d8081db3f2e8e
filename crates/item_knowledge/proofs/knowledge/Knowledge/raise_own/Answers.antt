use Rattle.std.proofs.Common.{rules, arith}
use Rattle.item_knowledge.proofs.NextLemmas.{own_waiting, owned}
use Rattle.item_knowledge.proofs.StagedLemmas.{known_of}
use Rattle.item_knowledge.proofs.knowledge.Knowledge.raise_own.Goals as goal

pub raise-requires-clause-waiting : goal.raise-requires-clause-waiting
raise-requires-clause-waiting c = own_waiting c.args.version c.self.inside.live c.self.inside.index.items c.args.self.now.known c.word-author.result c.from-n.result c.self.invariant.kept (known_of c.self.view_is) (search rules) (search rules) c.word-author.ensures.of_author (omega arith) (omega arith) c.requires.first c.requires.next c.requires.level

pub invariant_of-self : goal.invariant_of-self
invariant_of-self c = record { kept = (owned c.args.version c.self.inside.live c.self.inside.index.items c.args.self.now.known c.word-author.result c.from-n.result c.self.invariant.kept (known_of c.self.view_is) (search rules) (search rules) c.word-author.ensures.of_author (omega arith) (omega arith) c.requires.first c.requires.next c.requires.level c.raise.new.self c.raise.ensures).kept; spare_kept = tt }

pub returns : goal.returns
returns c =
    let own = owned c.args.version c.self.inside.live c.self.inside.index.items c.args.self.now.known c.word-author.result c.from-n.result c.self.invariant.kept (known_of c.self.view_is) (search rules) (search rules) c.word-author.ensures.of_author (omega arith) (omega arith) c.requires.first c.requires.next c.requires.level c.raise.new.self c.raise.ensures in
    record { star = own.next.star; learned = own.next.learned; staged = search rules }
