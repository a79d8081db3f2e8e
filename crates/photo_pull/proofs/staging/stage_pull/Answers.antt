use Rattle.std.proofs.Common.{◌∙◌, refl, sym}
use Rattle.photo_pull.proofs.Shown.{nothing_pulled}
use Rattle.photo_pull.proofs.Wanted.{on_err, to_pull, to_pull_something}
use Rattle.photo_pull.proofs.Halves.{pull_staged, handed_entries, nothing_staged, change_is_staged}
use Rattle.photo_pull.proofs.staging.stage_pull.Goals as goal

pub returns-in_err-news-clause-wanted : goal.returns-in_err-news-clause-wanted
returns-in_err-news-clause-wanted c = on_err _ (to_pull_something c.args.target.now _ _ c.unstage.ensures c.in_err-news.ensures.wanted)

pub returns-in_err-delta-clause-wanted : goal.returns-in_err-delta-clause-wanted
returns-in_err-delta-clause-wanted c = on_err _ (to_pull_something c.args.target.now _ _ (c.in_ok-news.ensures.kept ∙ c.unstage.ensures) c.in_err-delta.ensures.wanted)

pub returns-then-is_nothing-clause-handed : goal.returns-then-is_nothing-clause-handed
returns-then-is_nothing-clause-handed c = handed_entries c.args.target.now c.news_of.new.target c.args.source.now _ (c.in_ok-news.ensures.kept ∙ c.unstage.ensures) c.in_ok-delta.ensures.delta.ready
    (sym (c.is_nothing.ensures.nothing c.if-is_nothing.true).handed ∙ c.in_ok-delta.ensures.delta.handed)

pub returns-then-is_nothing-clause-staged : goal.returns-then-is_nothing-clause-staged
returns-then-is_nothing-clause-staged c =
    let none = c.is_nothing.ensures.nothing c.if-is_nothing.true in
    pull_staged c.args.target.now c.news_of.new.target c.args.source.now _ c.news_of.new.target (c.in_ok-news.ensures.kept ∙ c.unstage.ensures)
    (nothing_staged c.news_of.new.target c.args.source.now _ c.in_ok-delta.ensures.delta.ready refl (sym c.in_ok-delta.ensures.delta.handed ∙ none.handed)
    (λ t s shows_t shows_s. nothing_pulled c.news_of.new.target c.args.source.now _ c.in_ok-delta.ensures.delta t s shows_t shows_s _ _ c.knowledge.ensures.value c.knowledge-2.ensures.value none))

pub returns-in_err-handed-clause-wanted : goal.returns-in_err-handed-clause-wanted
returns-in_err-handed-clause-wanted c = on_err _ (to_pull c.args.target.now _ _ (c.in_ok-news.ensures.kept ∙ c.unstage.ensures) _ c.in_ok-delta.ensures.delta _ _ c.knowledge.ensures.value c.knowledge-2.ensures.value (c.is_nothing.ensures.something c.if-is_nothing.false))

pub returns-clause-handed : goal.returns-clause-handed
returns-clause-handed c = handed_entries c.args.target.now c.news_of.new.target c.args.source.now _ (c.in_ok-news.ensures.kept ∙ c.unstage.ensures) c.in_ok-delta.ensures.delta.ready c.in_ok-handed.ensures.handed

pub returns-clause-staged : goal.returns-clause-staged
returns-clause-staged c =
    pull_staged c.args.target.now c.news_of.new.target c.args.source.now _ c.stage_found.new.target (c.in_ok-news.ensures.kept ∙ c.unstage.ensures)
    (change_is_staged c.news_of.new.target c.args.source.now _ c.in_ok-handed.handed c.stage_found.new.target c.in_ok-delta.ensures.delta.ready refl c.in_ok-handed.ensures.handed c.in_ok-handed.ensures.staged)
