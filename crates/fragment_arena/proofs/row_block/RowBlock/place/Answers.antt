use Rattle.std.proofs.Common.{◌≡◌, ◌+◌, length, ap, ◌∙◌, length-append}
use Rattle.fragment_arena.proofs.EndLemmas.{placed-is, placed-ends}
use Rattle.fragment_arena.proofs.row_block.RowBlock.place.Goals as goal
use Rattle.fragment_arena.proofs.row_block.RowBlock.place.Goals.{After-push_reserved}

end : (c : After-push_reserved) → c.len-end.result ≡ length c.self.inside.words.words + length c.args.words.now
end c = c.len-end.ensures ∙ ap length c.write.ensures.words ∙ length-append c.self.inside.words.words c.args.words.now

pub invariant_of-self : goal.invariant_of-self
invariant_of-self c =
    let inside = c.self.inside in
    rw c.push_reserved.ensures.items (rw c.write.ensures.words (placed-ends inside.words.words inside.ends.items c.args.self.now.rows (ap (λ b. b.rows) c.self.view_is) c.self.invariant c.args.words.now c.len-end.result (end c)))

pub returns-clause-rows : goal.returns-clause-rows
returns-clause-rows c =
    let inside = c.self.inside in
    rw c.push_reserved.ensures.items (rw c.write.ensures.words (placed-is inside.words.words inside.ends.items c.args.self.now.rows (ap (λ b. b.rows) c.self.view_is) c.self.invariant c.args.words.now c.len-end.result (end c)))
