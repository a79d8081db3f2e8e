use Rattle.std.proofs.Common.{◌∙◌, ap, codes, List, []}
use Rattle.std.proofs.lemmas.Result.{IfOk-weaker}
use Rattle.std.specs.Prelude.{Option, Some, unwrap_or}
use Rattle.clap.specs.Words.{Text, found_of}
use Rattle.clap.proofs.WalkLemmas.{raw_values-rows}
use Rattle.photofleet_cli.specs.Asked.{numbers_in}
use Rattle.photofleet_cli.proofs.words.order_in.Goals as goal

pub returns-in-Some : goal.returns-in-Some
returns-in-Some c =
    let given = c.in-Some.ensures ∙ raw_values-rows (found_of c.args.given.now) (codes "ORDER") in
    IfOk-weaker c.numbers_in.result _ _ (λ order is. is ∙ ap (λ (o : Option (List Text)). numbers_in (unwrap_or o [])) given) c.numbers_in.ensures

pub returns-in-None : goal.returns-in-None
returns-in-None c =
    let given = c.in-None.ensures ∙ raw_values-rows (found_of c.args.given.now) (codes "ORDER") in
    ap Some c.new.ensures.items ∙ ap (λ (o : Option (List Text)). numbers_in (unwrap_or o [])) given
