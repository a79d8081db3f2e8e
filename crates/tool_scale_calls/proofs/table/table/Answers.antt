use Rattle.std.proofs.Common.{rules, ◌≡◌, ◌+◌, ◌++◌, ◌∷◌, []}
use Rattle.tool_scale_calls.proofs.TableLemmas.{one_more}
use Rattle.tool_scale_calls.proofs.table.table.Goals as goal

pub loop-i-preserved : goal.loop-i-preserved
loop-i-preserved c =
    let number : c.in-Some.picture ≡ c.loop-i.i + 1 = search rules in
    let pushed : c.push.new.self.items ≡ c.loop-i.table.items ++ (c.in-Some.picture, c.in_ok-vector.vector) ∷ [] = search rules in
    record { pictures = one_more c.loop-i.i c.loop-i.table.items c.push.new.self.items (c.in-Some.picture, c.in_ok-vector.vector) c.loop-i.invariant.pictures number pushed }
