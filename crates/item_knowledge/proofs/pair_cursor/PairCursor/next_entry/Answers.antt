use Rattle.std.proofs.Common.{◌∷◌, ◌∙◌, sym}
use Rattle.item_knowledge.specs.PairCursor.{entries_left}
use Rattle.item_knowledge.proofs.CursorLemmas.{next_joined}
use Rattle.item_knowledge.proofs.pair_cursor.PairCursor.next_entry.Goals as goal

pub returns-clause-next : goal.returns-clause-next
returns-clause-next c =
    next_joined c.args.self.now c.next.new.self c.args.xs.now c.args.ys.now c.requires.left (c.in_ok-author.author, (c.in_ok-author.n, c.in_ok-author.m)) c.in_ok-author.ensures.next
    ∙ (λ i. (c.in_ok-author.author, sym c.max.ensures i) ∷ entries_left c.next.new.self c.args.xs.now c.args.ys.now)
