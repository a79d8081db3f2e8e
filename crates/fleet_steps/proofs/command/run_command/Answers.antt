use Rattle.std.proofs.Common.{List, ap, ◌∙◌}
use Rattle.item_knowledge.specs.Fragments.{Fragment, knows}
use Rattle.fleet_model.specs.Answers.{Made, Knows}
use Rattle.photo_script.specs.Reports.{Plain}
use Rattle.fleet_steps.proofs.command.run_command.Goals as goal

pub returns-in_ok-version-in-New-clause-report : goal.returns-in_ok-version-in-New-clause-report
returns-in_ok-version-in-New-clause-report c =
    λ m shows.
    let version = c.in_ok-version-in-New.ensures.version m shows in
    let place = c.in_ok-version-in-New.ensures.place m shows in
    rw c.in-New.is (λ i. Plain (Made (version i) (place i)))

pub returns-in-Knows-clause-report : goal.returns-in-Knows-clause-report
returns-in-Knows-clause-report c =
    λ m shows.
    let p = c.in-Knows.picture in
    let v = c.in-Knows.version in
    let known = ap (λ (fs : List Fragment). knows fs p v) c.knowledge-in-Knows.ensures.value ∙ shows.known p c.knows_of.ensures.above_zero v in
    rw c.in-Knows.is (c.knows_of.ensures.given ∙ ap (λ b. Plain (Knows b)) known)
