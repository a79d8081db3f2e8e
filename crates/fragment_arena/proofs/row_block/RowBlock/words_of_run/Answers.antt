use Rattle.std.proofs.Common.{arith}
use Rattle.fragment_arena.proofs.RunLemmas.{words-between}
use Rattle.fragment_arena.proofs.row_block.RowBlock.words_of_run.Goals as goal

pub overflow_sub-result : goal.overflow_sub-result
overflow_sub-result c = omega (arith, c.begin.ensures, c.begin-2.ensures, words-between c.args.self.now.rows c.args.from c.args.to c.requires.order)

pub returns : goal.returns
returns c = omega (arith, c.begin.ensures, c.begin-2.ensures, words-between c.args.self.now.rows c.args.from c.args.to c.requires.order)
