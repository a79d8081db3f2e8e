use Rattle.std.proofs.Common.{◌∙◌, ap, sym}
use Rattle.std.specs.Option.{option_to_list}
use Rattle.photo_device.specs.Held.{entries_of}
use Rattle.photo_script.specs.Reports.{answer_of}
use Rattle.fleet_steps.proofs.MadeAlone.{made_is}
use Rattle.fleet_steps.proofs.logging.made_on.Goals as goal

pub returns : goal.returns
returns c = λ m shown told.
    ap (λ o. entries_of (option_to_list o)) c.held_of.ensures.held
    ∙ made_is c.args.device.now m c.args.command.now (answer_of c.args.report.now) c.in_ok-picture.picture c.in_ok-version.version (sym c.in_ok-picture.ensures) (sym c.in_ok-version.ensures) shown told
