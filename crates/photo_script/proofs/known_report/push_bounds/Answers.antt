use Rattle.std.proofs.Common.{◌≡◌, ◌<◌, ◌∷◌, ◌++◌, length, string_bytes, append_assoc, sym, subst, ap, ◌∙◌}
use Rattle.std.specs.List.{AllByRecursion}
use Rattle.photo_version.specs.Author.{author_word, author_of_word, device_of_author}
use Rattle.item_knowledge.specs.Entries.{Entry}
use Rattle.photo_script.specs.Reports.{bound_text, bounds_text}
use Rattle.photo_script.proofs.Joined.{bounds_behind, bounds-first}
use Rattle.photo_script.proofs.known_report.push_bounds.Goals as goal

pub loop-bound-init : goal.loop-bound-init
loop-bound-init c =
    let old = string_bytes c.args.text.now in
    let script = c.args.script.now in
    let e : Entry = (author_word c.in-Some.first.0, c.in-Some.first.1) in
    let rest = c.next_entry.new.self in
    let all : c.args.fragment.now.entries ≡ e ∷ rest = sym c.entries-entries.ensures ∙ c.in-Some.ensures.next in
    record {
      written =
          ap (λ t. t ++ bounds_behind script rest) c.in_ok-push_version_of.ensures
          ∙ append_assoc old (bound_text script e) (bounds_behind script rest)
          ∙ ap (λ t. old ++ t) (bounds-first script e rest)
          ∙ ap (λ es. old ++ bounds_text script es) (sym all);
      authors = (subst (AllByRecursion (λ (x : Entry). device_of_author (author_of_word x.0) < length script.names)) all c.requires).1;
    }
