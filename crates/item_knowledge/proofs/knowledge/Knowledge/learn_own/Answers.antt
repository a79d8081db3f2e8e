use Rattle.std.proofs.Common.{rules, ◌≡◌, true, [], refl, subst, ap, ◌∙◌}
use Rattle.photo_version.specs.Author.{author_word}
use Rattle.item_knowledge.specs.Fragments.{is_normal}
use Rattle.item_knowledge.specs.Rows.{fragments_of}
use Rattle.item_knowledge.specs.Raising.{star_of_one}
use Rattle.item_knowledge.specs.Spare.{IsJoined}
use Rattle.item_knowledge.proofs.NextLemmas.{next_joined}
use Rattle.item_knowledge.proofs.StagedLemmas.{known_of, committed}
use Rattle.item_knowledge.proofs.knowledge.Knowledge.learn_own.Goals as goal

pub returns : goal.returns
returns c =
    let word : c.word.result ≡ author_word c.args.version.author = search rules in
    let n : c.from.result ≡ c.args.version.number = search rules in
    let done = committed c.stage_union.new.self.staged c.commit.new.self (λ s. IsJoined c.unstage.new.self.known (fragments_of c.in_ok-rows.rows) [] s) c.in_ok-stage_union.ensures.there c.in_ok-stage_union.ensures.joined c.commit.ensures in
    let next =
    next_joined c.args.version c.unstage.new.self.known c.args.self.now.known (fragments_of c.in_ok-rows.rows) c.commit.new.self.known [] (known_of c.unstage.ensures)
    (subst (λ fs. is_normal fs ≡ true) (known_of c.self.view_is ∙ known_of c.unstage.ensures) c.self.invariant.kept.normal) c.requires (ap fragments_of c.in_ok-rows.ensures ∙ (λ i. star_of_one (word i, n i))) refl done.0 in
    record { star = next.star; learned = next.learned; staged = done.1; refused = search rules }
