use Rattle.std.proofs.Common.{◌≡◌, ◌++◌, ◌||◌, cond, ◌∙◌, rules}
use Rattle.photo_filter_rules.specs.Covers.{covers}
use Rattle.photo_model.specs.Pull.{told}
use Rattle.photo_model.specs.Telling.{tell}
use Rattle.test_list_device.specs.Sets.{listed_of}
use Rattle.test_list_device.specs.Shown.{shown}
use Rattle.test_list_device.proofs.Calls.{of_then}
use Rattle.test_list_device.proofs.pulling.known_then.Goals as goal
use Rattle.test_list_device.proofs.pulling.known_then.Goals.{then-covers+in_ok-extend_from_slice+in_ok-extend_from_slice-2, else-covers}

pub returns-clause-of : goal.returns-clause-of
returns-clause-of c =
    let t = c.args.target.now in
    let s = c.args.source.now in
    let heard = c.tell_all.new.pairs.items in
    let learns = covers s.filter t.filter in
    let all_is : c.if-covers.of.items ≡ cond learns (heard ++ s.of.items) heard = elim c.if-covers.branch [
      | then-covers+in_ok-extend_from_slice+in_ok-extend_from_slice-2 w ↦ search rules
      | else-covers w ↦ search rules
    ] in
    of_then learns s.of.items t.of.items heard c.if-covers.of.items (told (shown t) (shown s))
    (λ p v. c.in_ok-tell_all.ensures p v ∙ (λ i. listed_of ((c.in_ok-of.ensures.items ∙ c.deref-2.ensures.value) i) p v || tell (c.requires i) p v))
    all_is
