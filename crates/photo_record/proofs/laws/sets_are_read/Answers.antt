use Rattle.photo_record.proofs.ReadLemmas.{set_rising, set_few}
use Rattle.photo_record.proofs.laws.sets_are_read.Goals as goal

pub returns-clause-rising : goal.returns-clause-rising
returns-clause-rising c = set_rising c.args.text.now

pub returns-clause-few : goal.returns-clause-few
returns-clause-few c = set_few c.args.text.now
