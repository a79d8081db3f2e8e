use Rattle.std.proofs.Common.{◌≡◌, ◌∙◌, not, subst, sym, ap}
use Rattle.std.specs.List.{find}
use Rattle.std.specs.List.Sorted.{IsPartitionedBy}
use Rattle.block_list.specs.Blocks.{joined}
use Rattle.block_list.proofs.Turn.{found_at_turn}
use Rattle.block_list.proofs.block_list.BlockList.find_failing_at.Goals as goal

pub returns : goal.returns
returns g c = λ p h parts.
    let is : joined c.as_slice-blocks.result.now ≡ c.args.self.now = ap joined c.as_slice-blocks.ensures.value ∙ c.self.view_is in
    c.element_behind-found.ensures
    ∙ found_at_turn p _ _ (c.spot_of-block.ensures.partitioned p h (subst (IsPartitionedBy p) (sym is) parts))
    ∙ ap (find (λ y. not (p y))) is
