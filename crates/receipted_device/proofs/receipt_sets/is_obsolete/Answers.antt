use Rattle.std.proofs.Common.{◌≡◌, ◌<◌, ◌∙◌, ap, refl, arith, true}
use Rattle.std.specs.Option.{is_some}
use Rattle.photo_version.specs.Author.{same_author}
use Rattle.item_knowledge.specs.Fragments.{knows}
use Rattle.photo_model.specs.Entry.{find_entry}
use Rattle.photo_model.specs.Device.{holds}
use Rattle.receipted_device.proofs.Obsolete.{given_up, shown_some}
use Rattle.receipted_device.proofs.receipt_sets.is_obsolete.Goals as goal

pub returns-then-known : goal.returns-then-known
returns-then-known c = λ m shows.
    let q = c.args.receipt.now in
    let number = c.value-number.ensures.value in
    let in_range = c.value-number.ensures.in_range.0 in
    let above : 0 < q.picture = omega arith in
    let ne = c.ne.ensures in
    let apart = c.if-ne.false in
    let author = ap (same_author q.giver) c.author-present.ensures in
    let same : same_author q.giver c.args.copied.now.author ≡ true = grind arith in
    let is = given_up c.args.copied.now m q c.knows-known.result (is_some c.held_of.result) shows above same
    (c.knows-known.ensures ∙ ap (λ fs. knows fs q.picture q.version) c.knowledge.ensures.value) (shown_some c.held_of.result _ (c.held_of.ensures.shows m shows)) in
    let known = c.if-known.true in
    let none = c.is_none.ensures in
    grind arith

pub returns-else-known : goal.returns-else-known
returns-else-known c = λ m shows.
    let q = c.args.receipt.now in
    let number = c.value-number.ensures.value in
    let in_range = c.value-number.ensures.in_range.0 in
    let above : 0 < q.picture = omega arith in
    let ne = c.ne.ensures in
    let apart = c.if-ne.false in
    let author = ap (same_author q.giver) c.author-present.ensures in
    let same : same_author q.giver c.args.copied.now.author ≡ true = grind arith in
    let is = given_up c.args.copied.now m q c.knows-known.result (is_some (find_entry q.picture q.version (holds m))) shows above same
    (c.knows-known.ensures ∙ ap (λ fs. knows fs q.picture q.version) c.knowledge.ensures.value) refl in
    let known = c.if-known.false in
    grind arith
