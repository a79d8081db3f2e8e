use Rattle.std.proofs.Common.{rules}
use Rattle.photo_pull.proofs.Wanted.{on_err, new_in_store, new_in_out}
use Rattle.photo_pull.proofs.news.news_of.Goals as goal

pub returns-in_err-stored-clause-wanted : goal.returns-in_err-stored-clause-wanted
returns-in_err-stored-clause-wanted c = on_err _ (new_in_store _ _ c.are_ready.ensures (search rules))

pub returns-in_err-waiting-clause-wanted : goal.returns-in_err-waiting-clause-wanted
returns-in_err-waiting-clause-wanted c = on_err _ (new_in_out _ _ c.are_ready.ensures (search rules))
