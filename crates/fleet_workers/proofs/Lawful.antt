-- Sums over the numbers of a lawful order.
use Rattle.std.proofs.Common.{◌≡◌, ℕ, zero, suc, ◌+◌, ◌-◌, ◌<◌, ◌≤◌, Bool, cond, ◌==◌, List, [], ◌∷◌, ◌++◌, ◌⊎◌, inl, inr, length, get_or, set, map, take, replicate, refl, sym, ap, ◌∙◌, subst, arith, length-set}
use Rattle.std.specs.Prelude.{Some, slice_get}
use Rattle.std.specs.List.{AllByRecursion, AllZip, sum_by, count_by}
use Rattle.std.proofs.lemmas.List.{get_or-set_other, length-replicate, take_all}
use Rattle.std.proofs.lemmas.List.Sums.{sum_by-append, sum_by-cons, sum_by-set}
use Rattle.std.proofs.lemmas.Option.{slice_get_cases}
use Rattle.fleet_model.specs.declared.command.Command.{Command}
use Rattle.fleet_model.specs.declared.tally.Tally.{Tally}
use Rattle.photo_script.specs.declared.report.Report.{Report}
use Rattle.photo_script.specs.declared.report.Report.TheVariants.{NotHeld}
use Rattle.fleet_model.specs.Contents.{Contents}
use Rattle.fleet_model.specs.Answers.{ModelReport, Exactly, KnowledgeIs}
use Rattle.photo_script.specs.Reports.{Answer, Tells, answer_of}
use Rattle.fleet_model.specs.Runs.{numbers_to}
use Rattle.fleet_model.specs.Tallies.{tally_of, kind_of, is_change, is_pull, is_question, moved_by_report}
use Rattle.photo_script.specs.Tallies.{moved_by}
use Rattle.fleet_model.specs.declared.command.CommandKind.{CommandKind}
use Rattle.fleet_model.specs.declared.command.CommandKind.TheVariants as kind
use Rattle.photo_batcher.specs.Related.{IsNumber}
use Rattle.photo_batcher.specs.Orders.{times, IsLawful}
use Rattle.photo_batcher.proofs.Counting.{split, times_cons, times_append}
use Rattle.photo_batcher.proofs.Turns.{self_counts, not_counts, all_by_times, by_all_times}
use Rattle.fleet_workers.specs.declared.work.Done.{Done}
use Rattle.fleet_workers.specs.Batch.{all_reports}
use Rattle.fleet_workers.specs.Counting.{one_of, one_at, tally_at, moved_in}
use Rattle.fleet_workers.proofs.Counting.{tally_same, one_is}

-- a list that has each number from 1 to n once, and no other
record HasEach (n : ℕ) (order : List ℕ) : Type 0 where
  pub within : (k : ℕ) → 0 < times k order → (0 < k) × (k ≤ n)
  pub once : (k : ℕ) → 0 < k → k ≤ n → times k order ≡ 1

nothing_in : (order : List ℕ) → ((k : ℕ) → 0 < times k order → ⊥) → order ≡ []
nothing_in [] none = refl
nothing_in (x ∷ xs) none = absurd (none x (let c = times_cons x x xs in let s = self_counts x in omega (arith, c, s)))

below_or : (k n : ℕ) → k ≤ suc n → (k ≤ n) ⊎ (k ≡ suc n)
below_or zero n h = inl (omega arith)
below_or (suc k) zero h = inr (omega (arith, h))
below_or (suc k) (suc n) h = elim (below_or k n (omega (arith, h))) [ inl a ↦ inl (omega (arith, a)) | inr b ↦ inr (omega (arith, b)) ]

-- a number that occurs beside the last one is smaller than it
not_last : (n k x y : ℕ) → k ≤ suc n → 0 < x → y ≡ x + cond (suc n == k) 1 0 → y ≡ 1 → k ≤ n
not_last n k x y below stands all one = elim (below_or k n below) [
  | inl low ↦ low
  | inr same ↦
      let self : cond {A = ℕ} (suc n == k) 1 0 ≡ 1 = subst (λ j. cond {A = ℕ} (suc n == j) 1 0 ≡ 1) (sym same) (self_counts (suc n)) in
      absurd (omega (arith, stands, all, one, self))
]

each_sum : (f : ℕ → ℕ) (n : ℕ) (order : List ℕ) → HasEach n order → sum_by f order ≡ sum_by f (numbers_to n)
each_sum f zero order each = ap (sum_by f) (nothing_in order (λ k stands. let w = each.within k stands in let a = w.0 in let b = w.1 in omega (arith, a, b)))
each_sum f (suc n) order each =
    let last = each.once (suc n) (omega arith) (omega arith) in
    let s = split (suc n) order (omega (arith, last)) in
    let rest = s.before ++ s.after in
    let counted : (k : ℕ) → times k order ≡ times k rest + cond (suc n == k) 1 0 = λ k.
    let a = ap (times k) s.whole ∙ times_append k s.before (suc n ∷ s.after) in
    let b = times_cons k (suc n) s.after in
    let c = times_append k s.before s.after in
    omega (arith, a, b, c) in
    let low : (k : ℕ) → 0 < times k rest → (0 < k) × (k ≤ n) = λ k stands.
    let all = counted k in
    let w = each.within k (omega (arith, all, stands)) in
    (w.0, not_last n k (times k rest) (times k order) w.1 stands all (each.once k w.0 w.1)) in
    let smaller : HasEach n rest = record {
      within = low;
      once = λ k above below. let all = counted k in let one = each.once k above (omega (arith, below)) in let not : cond (suc n == k) 1 0 ≡ 0 = not_counts (suc n) k (λ e. omega (arith, e, below)) in omega (arith, all, one, not);
    } in
    let sum = each_sum f n rest smaller in
    let a = ap (sum_by f) s.whole ∙ sum_by-append f s.before (suc n ∷ s.after) in
    let b = sum_by-cons f (suc n) s.after in
    let c = sum_by-append f s.before s.after in
    let d = sum_by-append f (numbers_to n) (suc n ∷ []) in
    let e = sum_by-cons f (suc n) [] in
    omega (arith, a, b, c, d, e, sum)

lawful_each : (script : Contents) (order : List ℕ) → IsLawful script order → HasEach (length script.commands) order
lawful_each script order lawful = record {
  within = λ k stands. by_all_times (IsNumber script) order k lawful.numbers stands;
  once = λ k above below. lawful.once k (above, below);
}

commands_sum : (f : Tally → ℕ) (g : Command → Bool) (script : Contents) → ((c : Command) → f (one_of (kind_of c)) ≡ cond (g c) 1 0) → (n : ℕ) → n ≤ length script.commands → sum_by (λ k. f (one_at script k)) (numbers_to n) ≡ count_by g (take n script.commands)
commands_sum f g script is zero few = refl
commands_sum f g script is (suc n) few =
    let old = commands_sum f g script is n (omega (arith, few)) in
    let a = sum_by-append (λ k. f (one_at script k)) (numbers_to n) (suc n ∷ []) in
    let b = sum_by-cons (λ k. f (one_at script k)) (suc n) [] in
    elim (slice_get_cases script.commands n).1 [
      | inl found ↦
          let c = found.0 in
          let one : f (one_at script (suc n)) ≡ cond (g c) 1 0 = ap f (one_is script (suc n) c found.2) ∙ is c in
          let next : take (suc n) script.commands ≡ take n script.commands ++ c ∷ [] = take_next script.commands n c found.2 in
          let d = ap (count_by g) next ∙ sum_by-append (λ x. cond (g x) 1 0) (take n script.commands) (c ∷ []) in
          let e = sum_by-cons (λ x. cond {A = ℕ} (g x) 1 0) c [] in
          omega (arith, old, a, b, one, d, e)
      | inr past ↦ let far = past.0 in absurd (omega (arith, far, few))
    ]
  where
    take_next : (xs : List Command) (n : ℕ) (c : Command) → slice_get xs n ≡ Some c → take (suc n) xs ≡ take n xs ++ c ∷ []
    take_next [] n c here = cc
    take_next (x ∷ xs) zero c here = let same : x ≡ c = cc in ap (λ y. y ∷ []) same
    take_next (x ∷ xs) (suc n) c here = ap (λ l. x ∷ l) (take_next xs n c here)

-- a lawful order has the script's tally
pub lawful_tally : (script : Contents) (order : List ℕ) → IsLawful script order → tally_at script order ≡ tally_of script
lawful_tally script order lawful =
    let each = lawful_each script order lawful in
    let n = length script.commands in
    let whole : take n script.commands ≡ script.commands = take_all n script.commands (omega arith) in
    tally_same _ _ _ _ _ _
    (each_sum (λ k. (one_at script k).changes) n order each ∙ commands_sum (λ t. t.changes) (λ c. is_change (kind_of c)) script changes n (omega arith) ∙ ap (count_by (λ c. is_change (kind_of c))) whole)
    (each_sum (λ k. (one_at script k).pulls) n order each ∙ commands_sum (λ t. t.pulls) (λ c. is_pull (kind_of c)) script pulls n (omega arith) ∙ ap (count_by (λ c. is_pull (kind_of c))) whole)
    (each_sum (λ k. (one_at script k).reports) n order each ∙ commands_sum (λ t. t.reports) (λ c. is_question (kind_of c)) script questions n (omega arith) ∙ ap (count_by (λ c. is_question (kind_of c))) whole)
  where
    changes_in : (k : CommandKind) → (one_of k).changes ≡ cond (is_change k) 1 0
    changes_in kind.Change = refl
    changes_in kind.Pull = refl
    changes_in kind.Question = refl

    pulls_in : (k : CommandKind) → (one_of k).pulls ≡ cond (is_pull k) 1 0
    pulls_in kind.Change = refl
    pulls_in kind.Pull = refl
    pulls_in kind.Question = refl

    questions_in : (k : CommandKind) → (one_of k).reports ≡ cond (is_question k) 1 0
    questions_in kind.Change = refl
    questions_in kind.Pull = refl
    questions_in kind.Question = refl

    changes : (c : Command) → (one_of (kind_of c)).changes ≡ cond (is_change (kind_of c)) 1 0
    changes c = changes_in (kind_of c)

    pulls : (c : Command) → (one_of (kind_of c)).pulls ≡ cond (is_pull (kind_of c)) 1 0
    pulls c = pulls_in (kind_of c)

    questions : (c : Command) → (one_of (kind_of c)).reports ≡ cond (is_question (kind_of c)) 1 0
    questions c = questions_in (kind_of c)

-- the results of different commands go to different places

abbrev moved_by_all : List Report → ℕ
moved_by_all reports = sum_by (λ r. moved_by (answer_of r)) reports

abbrev moved_at : List Report → ℕ → ℕ
moved_at reports n = moved_by (answer_of (get_or reports (n - 1) NotHeld))

-- the numbers differ, and each is that of a report in the list that moved nothing
record AreFree (reports : List Report) (numbers : List ℕ) : Type 0 where
  pub once : (k : ℕ) → times k numbers ≤ 1
  pub within : AllByRecursion (λ n. (0 < n) × (n ≤ length reports)) numbers
  pub none : AllByRecursion (λ n. moved_at reports n ≡ 0) numbers

free_tail : (reports : List Report) (n : ℕ) (rest : List ℕ) (r : Report) → 0 < n → AreFree reports (n ∷ rest) → AreFree (set reports (n - 1) r) rest
free_tail reports n rest r above free = record {
  once = λ k. let c = times_cons k n rest in let o = free.once k in omega (arith, c, o);
  within = all_by_times _ rest (λ k stands. let w = by_all_times _ rest k free.within.1 stands in let long = length-set reports (n - 1) r in let a = w.0 in let b = w.1 in (a, omega (arith, b, long)));
  none = all_by_times _ rest (λ k stands.
      let w = by_all_times _ rest k free.within.1 stands in
      let old = by_all_times _ rest k free.none.1 stands in
      let above' = w.0 in
      ap (λ x. moved_by (answer_of x)) (get_or-set_other reports (n - 1) (k - 1) r NotHeld (λ e. other k stands (omega (arith, e, above, above')))) ∙ old);
}
  where
    other : (k : ℕ) → 0 < times k rest → k ≡ n → ⊥
    other k stands same =
        let c = times_cons n n rest in
        let s = self_counts n in
        let o = free.once n in
        let there = subst (λ j. 0 < times j rest) same stands in
        omega (arith, c, s, o, there)

moved_all : (done : List Done) (reports : List Report) → AreFree reports (map (λ d. d.number) done) → moved_by_all (all_reports done reports) ≡ moved_by_all reports + moved_in done
moved_all [] reports free = omega arith
moved_all (d ∷ ds) reports free =
    let above = free.within.0.0 in
    let below = free.within.0.1 in
    let rest = moved_all ds (set reports (d.number - 1) d.report) (free_tail reports d.number (map (λ x. x.number) ds) d.report above free) in
    let put = sum_by-set (λ r. moved_by (answer_of r)) reports (d.number - 1) d.report NotHeld (omega (arith, above, below)) in
    let was = free.none.0 in
    let cons = sum_by-cons (λ x. moved_by (answer_of x.report)) d ds in
    omega (arith, rest, put, was, cons)

none_moved : (n : ℕ) → moved_by_all (replicate n NotHeld) ≡ 0
none_moved zero = refl
none_moved (suc n) = let c = sum_by-cons (λ r. moved_by (answer_of r)) NotHeld (replicate n NotHeld) in let h = none_moved n in omega (arith, c, h)

none_at : (n k : ℕ) → get_or (replicate n NotHeld) k NotHeld ≡ NotHeld
none_at zero k = refl
none_at (suc n) zero = refl
none_at (suc n) (suc k) = none_at n k

told_moved : (answers : List Answer) (right : List ModelReport) → AllZip Tells answers right → sum_by moved_by answers ≡ sum_by moved_by_report right
told_moved [] [] told = refl
told_moved [] (r ∷ rs) told = absurd told
told_moved (a ∷ more) [] told = absurd told
told_moved (a ∷ more) (r ∷ rs) told =
    let head = one a r told.0 in
    let tail = told_moved more rs told.1 in
    let x = sum_by-cons moved_by a more in
    let y = sum_by-cons moved_by_report r rs in
    omega (arith, head, tail, x, y)
  where
    one : (a : Answer) (r : ModelReport) → Tells a r → moved_by a ≡ moved_by_report r
    one a (Exactly right) told = ap moved_by told
    one a (KnowledgeIs device known) told = ap moved_by told.given

sum_by_map : (reports : List Report) → sum_by moved_by (map answer_of reports) ≡ moved_by_all reports
sum_by_map [] = refl
sum_by_map (r ∷ rs) =
    let x = sum_by-cons moved_by (answer_of r) (map answer_of rs) in
    let y = sum_by-cons (λ s. moved_by (answer_of s)) r rs in
    let tail = sum_by_map rs in
    omega (arith, x, y, tail)

-- the commands of a lawful order moved as many versions as the right reports say
pub lawful_moved : (script : Contents) (order : List ℕ) (done : List Done) (reports : List Report) (right : List ModelReport) → IsLawful script order → map (λ d. d.number) done ≡ order → reports ≡ all_reports done (replicate (length script.commands) NotHeld) → AllZip Tells (map answer_of reports) right
    → moved_in done ≡ sum_by moved_by_report right
lawful_moved script order done reports right lawful numbers is told =
    let n = length script.commands in
    let long = length-replicate n NotHeld in
    let free : AreFree (replicate n NotHeld) order = record {
      once = λ k. once_at k;
      within = all_by_times _ order (λ k stands. let w = by_all_times (IsNumber script) order k lawful.numbers stands in let a = w.0 in let b = w.1 in (a, omega (arith, b, long)));
      none = all_by_times _ order (λ k stands. ap (λ x. moved_by (answer_of x)) (none_at n (k - 1)));
    } in
    let sum = moved_all done (replicate n NotHeld) (subst (AreFree (replicate n NotHeld)) (sym numbers) free) in
    let none = none_moved n in
    let all = ap moved_by_all is in
    let mapped = sum_by_map reports in
    let end = told_moved (map answer_of reports) right told in
    omega (arith, sum, none, all, mapped, end)
  where
    once_at : (k : ℕ) → times k order ≤ 1
    once_at k = by_case (times k order) refl
      where
        by_case : (t : ℕ) → times k order ≡ t → times k order ≤ 1
        by_case zero e = omega (arith, e)
        by_case (suc t) e = let one = lawful.once k (by_all_times (IsNumber script) order k lawful.numbers (omega (arith, e))) in omega (arith, one)
