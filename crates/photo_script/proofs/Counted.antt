-- How many versions the reports count as moved.
use Rattle.std.proofs.Common.{◌≡◌, ◌≤◌, ◌<◌, ◌+◌, ◌*◌, ◌∷◌, ℕ, suc, List, [], length, map, get_or, drop, drop-cons, refl, sym, ap, ◌∙◌, arith}
use Rattle.std.specs.List.{AllByRecursion, AllZip, sum_by}
use Rattle.std.proofs.lemmas.List.{length-map}
use Rattle.std.proofs.lemmas.List.Sums.{sum_by-cons}
use Rattle.photo_model.specs.declared.counts.PullCounts.{PullCounts}
use Rattle.fleet_model.specs.Limits.{max_commands}
use Rattle.fleet_model.specs.Answers.{ModelReport, Exactly, KnowledgeIs}
use Rattle.photo_script.specs.Reports.{Answer, Tells, answer_of}
use Rattle.fleet_model.specs.Tallies.{moved_by_report, max_moved}
use Rattle.photo_script.specs.Tallies.{moved_by}
use Rattle.photo_script.specs.declared.report.Report.{Report}
use Rattle.photo_script.specs.declared.report.Report.TheVariants as report

-- the right answer counts what the model report counts
moved_as_told : (a : Answer) (r : ModelReport) → Tells a r → moved_by a ≡ moved_by_report r
moved_as_told a (Exactly right) told = ap moved_by told
moved_as_told a (KnowledgeIs device known) told = ap moved_by told.given

pub moved_as_all_told : (answers : List Answer) (reports : List ModelReport) → AllZip Tells answers reports → sum_by moved_by answers ≡ sum_by moved_by_report reports
moved_as_all_told [] [] told = refl
moved_as_all_told [] (r ∷ rs) told = absurd told
moved_as_all_told (a ∷ more) [] told = absurd told
moved_as_all_told (a ∷ more) (r ∷ rs) told =
    rw (sum_by-cons moved_by a more, sum_by-cons moved_by_report r rs, moved_as_told a r told.0, moved_as_all_told more rs told.1) refl

-- each report counts few versions, so all together count few
moved_in_all : (answers : List Answer) → AllByRecursion (λ a. moved_by a ≤ max_moved) answers → sum_by moved_by answers ≤ max_moved * length answers
moved_in_all [] each = omega arith
moved_in_all (a ∷ more) each =
    let first : moved_by a ≤ max_moved = each.0 in
    let rest : sum_by moved_by more ≤ max_moved * length more = moved_in_all more each.1 in
    rw (sum_by-cons moved_by a more) (omega arith)

-- the versions moved up to and with one pull are at most what all reports can move
pub moved_so_far : (reports : List Report) (i moved : ℕ) (x : Report) (counts : PullCounts)
    → i < length reports → length reports ≤ max_commands → AllByRecursion (λ a. moved_by a ≤ max_moved) (map answer_of reports)
    → x ≡ get_or reports i x → x ≡ report.Pulled counts
    → moved + sum_by moved_by (map answer_of (drop i reports)) ≡ sum_by moved_by (map answer_of reports)
    → moved + (counts.taken + counts.handed) ≤ max_moved * max_commands
moved_so_far reports i moved x counts within few each at this so_far =
    let rest = map answer_of (drop (suc i) reports) in
    let cut : drop i reports ≡ x ∷ drop (suc i) reports = drop-cons reports i x within ∙ ap (λ r. r ∷ drop (suc i) reports) (sym at) in
    let left : sum_by moved_by (map answer_of (drop i reports)) ≡ moved_by (answer_of x) + sum_by moved_by rest =
    ap (λ l. sum_by moved_by (map answer_of l)) cut ∙ sum_by-cons moved_by (answer_of x) rest in
    let here : moved_by (answer_of x) ≡ counts.taken + counts.handed = ap (λ r. moved_by (answer_of r)) this in
    let all : sum_by moved_by (map answer_of reports) ≤ max_moved * length (map answer_of reports) = moved_in_all (map answer_of reports) each in
    let long : length (map answer_of reports) ≡ length reports = length-map reports answer_of in
    omega arith
