use Rattle.std.proofs.Common.{◌∙◌, ap, rules, SFits, w32}
use Rattle.std.proofs.lemmas.Int.{to_z-of_z}
use Rattle.std.specs.List.{list_any}
use Rattle.photo_filter_text.specs.Tree.{tree_of}
use Rattle.photo_filter_rules.specs.Matching.{content}
use Rattle.photo_filter_rules.specs.Alternatives.{fits}
use Rattle.photo_filter_rules.proofs.Fitting.{matched_by_list}
use Rattle.photo_filter_rules.proofs.filter.Filter.matches.Goals as goal

pub returns-in-Picture : goal.returns-in-Picture
returns-in-Picture c =
    let rating = c.value.result in
    let day = c.number.result in
    let words = c.in-Picture.words in
    let day_fits : SFits w32 day = search rules in
    let answered = rw (to_z-of_z w32 day day_fits) at c.any_fits.ensures in
    let e = matched_by_list (tree_of c.self.inside.tree) c.self.inside.alternatives.items rating day words c.self.invariant.0 c.value.ensures.in_range c.number.ensures.in_range in
    rw (← c.self.view_is, c.in-Picture.is, ← c.value.ensures.value, ← c.number.ensures.value)
    (answered ∙ ap (list_any (fits (content rating day words))) c.deref.ensures.value ∙ e)
