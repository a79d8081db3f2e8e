use Rattle.std.proofs.Common.{ap, arith}
use Rattle.photo_version.specs.Author.{device_of_author}
use Rattle.test_scripts.proofs.Everywhere.{all_places, one_more}
use Rattle.test_scripts.proofs.scripts.known.is_fragment_of.Goals as goal

pub loop-i-preserved : goal.loop-i-preserved
loop-i-preserved c = one_more _ c.loop-i.i c.loop-i.invariant (let same = ap device_of_author c.entry-author.ensures.author in omega arith)

pub returns : goal.returns
returns c = λ _. all_places _ c.args.fragment.now.entries (0, 0) (λ k h. c.loop-i.invariant k (omega arith))
