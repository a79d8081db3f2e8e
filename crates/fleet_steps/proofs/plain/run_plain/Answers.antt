use Rattle.std.proofs.Common.{◌≡◌, ◌∙◌, length, sym, subst, ap}
use Rattle.fleet_model.specs.Runs.{numbers_to}
use Rattle.photo_batcher.specs.Orders.{IsLawful}
use Rattle.fleet_steps.proofs.NumberOrder.{in_number_order}
use Rattle.fleet_steps.proofs.plain.run_plain.Goals as goal

pub run_ordered-requires : goal.run_ordered-requires
run_ordered-requires c =
    let script = c.args.script.now in
    let given : c.as_slice.result.now ≡ numbers_to (length script.commands) = c.as_slice.ensures.value ∙ c.in_ok-numbers.ensures ∙ ap numbers_to c.commands.ensures.count in
    subst (IsLawful script) (sym given) (in_number_order script)
