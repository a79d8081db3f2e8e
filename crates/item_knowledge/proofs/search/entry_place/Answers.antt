use Rattle.item_knowledge.specs.Rows.{pairs}
use Rattle.item_knowledge.proofs.SearchLemmas.{place_there}
use Rattle.item_knowledge.proofs.search.entry_place.Goals as goal

pub returns : goal.returns
returns c some = place_there (pairs c.args.row.now) c.args.author c.place_from.result c.requires.order c.place_from.ensures some
