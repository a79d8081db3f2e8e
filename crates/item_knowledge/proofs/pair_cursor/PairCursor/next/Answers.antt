use Rattle.std.proofs.Common.{ℕ, arith}
use Rattle.item_knowledge.specs.Searching.{pairs_in}
use Rattle.item_knowledge.proofs.SearchLemmas.{next_left}
use Rattle.item_knowledge.proofs.pair_cursor.PairCursor.next.Goals as goal

pub returns-then-self-pair_count-3-clause-next : goal.returns-then-self-pair_count-3-clause-next
returns-then-self-pair_count-3-clause-next c = rw c.pair_at-x.ensures.pair (next_left (λ (a : ℕ). (a, 0)) (λ (a : ℕ) (b : ℕ × ℕ). (a, b.1)) (λ (b : ℕ). (0, b)) (pairs_in c.args.xs) (pairs_in c.args.ys) c.args.self.now.left c.args.self.now.right (0, 0) (0, 0) c.requires.left c.requires.right (omega arith) (λ l. absurd (omega (arith, l))))
