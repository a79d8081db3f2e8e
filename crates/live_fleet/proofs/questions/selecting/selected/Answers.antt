use Rattle.std.proofs.Common.{subst, rules}
use Rattle.std.specs.List.Sorted.{IsPermutation}
use Rattle.std.proofs.lemmas.Fn.{always_returns_same}
use Rattle.live_fleet.proofs.Sorted.{sorted_in_order}
use Rattle.live_fleet.proofs.questions.selecting.selected.Goals as goal

pub returns : goal.returns
returns c =
    let sort = c.sort_unstable_by_key.ensures in
    record {
      same = subst (λ l. IsPermutation l c.sort_unstable_by_key.new.self.items) c.in_ok-found.ensures sort.permutation;
      ordered = sorted_in_order c.sort_unstable_by_key.new.self.items (sort.sorted (λ x. (x.picture, x.version)) (always_returns_same _ _ _ (λ a r f k. search rules)));
    }
