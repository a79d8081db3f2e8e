use Rattle.std.proofs.Common.{ℕ, ap, sym, ◌∙◌, arith}
use Rattle.item_knowledge.specs.Searching.{pairs_in}
use Rattle.item_knowledge.proofs.SearchLemmas.{absent_at, found_there}
use Rattle.item_knowledge.proofs.search.value_at.Goals as goal

pub returns-then-place-pair_count : goal.returns-then-place-pair_count
returns-then-place-pair_count c = sym (absent_at (pairs_in c.args.list) c.args.key c.args.place c.requires.order c.requires.place (λ l. absurd (omega arith)))

pub returns-then-found-key : goal.returns-then-found-key
returns-then-found-key c =
    let key = ap (λ (e : ℕ × ℕ). e.0) c.pair_at-found.ensures.pair in
    ap (λ (e : ℕ × ℕ). e.1) c.pair_at-found.ensures.pair ∙ found_there (pairs_in c.args.list) c.args.key c.args.place (0, 0) c.requires.order (omega arith) (omega arith)

pub returns-else-found-key : goal.returns-else-found-key
returns-else-found-key c =
    let key = ap (λ (e : ℕ × ℕ). e.0) c.pair_at-found.ensures.pair in
    sym (absent_at (pairs_in c.args.list) c.args.key c.args.place c.requires.order c.requires.place (λ l e. absurd (omega arith)))
