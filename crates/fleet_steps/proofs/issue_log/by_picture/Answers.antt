use Rattle.std.proofs.Common.{subst, rules}
use Rattle.std.specs.List.Sorted.{IsPermutation, IsSortedBy}
use Rattle.std.proofs.lemmas.Fn.{always_returns_same}
use Rattle.photo_device.specs.Held.{held_before}
use Rattle.fleet_steps.proofs.Logged.{sorted_in_order, rising}
use Rattle.fleet_steps.proofs.issue_log.by_picture.Goals as goal

pub returns : goal.returns
returns c =
    let sort = c.sort_unstable_by_key.ensures in
    let ordered : IsSortedBy held_before c.sort_unstable_by_key.new.self.items = sorted_in_order c.sort_unstable_by_key.new.self.items (sort.sorted (λ x. (x.picture, x.version)) (always_returns_same _ _ _ (λ a r f k. search rules))) in
    record {
      same = subst (λ l. IsPermutation l c.sort_unstable_by_key.new.self.items) c.in_ok-index.ensures.list sort.permutation;
      ordered = ordered;
      rising = rising c.sort_unstable_by_key.new.self.items ordered;
      above = c.in_ok-index.ensures.above;
    }
