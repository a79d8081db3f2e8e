use Rattle.std.proofs.Common.{ap}
use Rattle.photo_pull.proofs.Halves.{committed}
use Rattle.photo_pull.proofs.staging.StagedPull.commit.Goals as goal

pub returns-in-Some-clause-pulled : goal.returns-in-Some-clause-pulled
returns-in-Some-clause-pulled c = λ d s staged. committed d s c.args.self c.in-Some.handed _ c.args.target.now c.commit.new.self c.in-Some.is (ap (λ v. v.items) c.in-Some.handed-is) staged c.commit.ensures.shows
