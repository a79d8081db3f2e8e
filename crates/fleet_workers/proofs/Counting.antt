-- Each command counts once.
use Rattle.std.proofs.Common.{◌≡◌, ℕ, ◌+◌, ◌-◌, Bool, true, false, cond, List, [], ◌∷◌, ◌++◌, refl, sym, ap, ◌∙◌, subst, arith}
use Rattle.std.specs.Prelude.{Option, Some, None, IsPermutation}
use Rattle.std.proofs.lemmas.List.Sums.{sum_by-append, sum_by-cons}
use Rattle.std.proofs.lemmas.List.Sorted.{sum_by-IsPermutation}
use Rattle.photo_model.specs.Device.{ModelDevice, is_held, narrowed, moved}
use Rattle.photo_filter_rules.specs.Covers.{covers}
use Rattle.photo_record.specs.declared.record.Record.TheVariants.{Removed}
use Rattle.fleet_model.specs.declared.tally.Tally.{Tally}
use Rattle.fleet_model.specs.declared.tally.Totals.{Totals}
use Rattle.fleet_model.specs.declared.command.Command.{Command}
use Rattle.fleet_model.specs.declared.command.Command.TheVariants as command
use Rattle.fleet_model.specs.Contents.{Contents, command_of}
use Rattle.photo_model.specs.declared.counts.PullCounts.{PullCounts}
use Rattle.fleet_model.specs.Answers.{RightAnswer, Exactly, NotHeld, NotNarrower, Narrowed, Pulled}
use Rattle.photo_script.specs.Reports.{Plain, Answer, Tells, answer_of}
use Rattle.fleet_model.specs.Runs.{Effect, effect, making, telling}
use Rattle.fleet_model.specs.Tallies.{kind_of}
use Rattle.photo_script.specs.Tallies.{moved_by}
use Rattle.fleet_model.specs.declared.command.CommandKind.{CommandKind}
use Rattle.fleet_model.specs.declared.command.CommandKind.TheVariants as kind
use Rattle.work_ledger.specs.declared.kind.Kind.TheVariants.{Change, Pull, Report}
use Rattle.work_ledger.specs.Stakes.{Stake, stake, tally, totals, none_left, plus, less, both, given, Within}
use Rattle.work_ledger.specs.Counting.{CanCount, counted}
use Rattle.fleet_steps.specs.Moved.{MovesFew}
use Rattle.fleet_workers.specs.Counting.{one_of, one_at, tally_at, kind_told, moved_in, worked}
use Rattle.fleet_workers.specs.declared.work.Done.{Done}

pub tally_same : (a a' b b' c c' : ℕ) → a ≡ a' → b ≡ b' → c ≡ c' → tally a b c ≡ tally a' b' c'
tally_same a a' b b' c c' e f g = λ i. tally (e i) (f i) (g i)

pub totals_same : (a a' b b' c c' d d' : ℕ) → a ≡ a' → b ≡ b' → c ≡ c' → d ≡ d' → totals a b c d ≡ totals a' b' c' d'
totals_same a a' b b' c c' d d' e f g h = λ i. totals (e i) (f i) (g i) (h i)

pub tally-cons : (script : Contents) (n : ℕ) (ns : List ℕ) → tally_at script (n ∷ ns) ≡ plus (one_at script n) (tally_at script ns)
tally-cons script n ns = tally_same _ _ _ _ _ _ (sum_by-cons (λ (k : ℕ). (one_at script k).changes) n ns) (sum_by-cons (λ (k : ℕ). (one_at script k).pulls) n ns) (sum_by-cons (λ (k : ℕ). (one_at script k).reports) n ns)

pub tally-append : (script : Contents) (xs ys : List ℕ) → tally_at script (xs ++ ys) ≡ plus (tally_at script xs) (tally_at script ys)
tally-append script xs ys = tally_same _ _ _ _ _ _ (sum_by-append (λ (k : ℕ). (one_at script k).changes) xs ys) (sum_by-append (λ (k : ℕ). (one_at script k).pulls) xs ys) (sum_by-append (λ (k : ℕ). (one_at script k).reports) xs ys)

pub tally-permuted : (script : Contents) (xs ys : List ℕ) → IsPermutation xs ys → tally_at script ys ≡ tally_at script xs
tally-permuted script xs ys perm = tally_same _ _ _ _ _ _ (sum_by-IsPermutation (λ (k : ℕ). (one_at script k).changes) xs ys perm) (sum_by-IsPermutation (λ (k : ℕ). (one_at script k).pulls) xs ys perm) (sum_by-IsPermutation (λ (k : ℕ). (one_at script k).reports) xs ys perm)

pub moved-append : (xs ys : List Done) → moved_in (xs ++ ys) ≡ moved_in xs + moved_in ys
moved-append xs ys = sum_by-append (λ (d : Done). moved_by (answer_of d.report)) xs ys

pub moved-one : (d : Done) → moved_in (d ∷ []) ≡ moved_by (answer_of d.report)
moved-one d = let h = sum_by-cons (λ (x : Done). moved_by (answer_of x.report)) d [] in omega (arith, h)

pub one_is : (script : Contents) (n : ℕ) (c : Command) → command_of script n ≡ Some c → one_at script n ≡ one_of (kind_of c)
one_is script n c is = rw is refl

-- the answer counts as the command's kind and reports few versions moved
pub record CountsAs (k : CommandKind) (a : Answer) : Type 0 where
  pub can : (left : Tally) → CanCount (kind_told a) (plus (one_of k) left)
  pub by : (parts : ℕ) (left : Tally) (done : Totals) → counted (kind_told a) (stake parts (plus (one_of k) left) done) ≡ stake parts left (both done (worked (one_of k) (moved_by a)))

stake_same : (p a a' b b' c c' : ℕ) (d d' e e' f f' g g' : ℕ) → a ≡ a' → b ≡ b' → c ≡ c' → d ≡ d' → e ≡ e' → f ≡ f' → g ≡ g' → stake p (tally a b c) (totals d e f g) ≡ stake p (tally a' b' c') (totals d' e' f' g')
stake_same p a a' b b' c c' d d' e e' f f' g g' h i j k l m n = λ t. stake p (tally (h t) (i t) (j t)) (totals (k t) (l t) (m t) (n t))

as_change : (a : Answer) → kind_told a ≡ Change → moved_by a ≡ 0 → CountsAs kind.Change a
as_change a told none = record {
  can = λ left. subst (λ k. CanCount k (plus (tally 1 0 0) left)) (sym told) (omega arith);
  by = λ parts left done. ap (λ k. counted k (stake parts (plus (tally 1 0 0) left) done)) told
      ∙ stake_same parts _ _ _ _ _ _ _ _ _ _ _ _ _ _ (omega arith) (omega arith) (omega arith) (omega arith) (omega arith) (omega arith) (omega (arith, none));
}

as_question : (a : Answer) → kind_told a ≡ Report → moved_by a ≡ 0 → CountsAs kind.Question a
as_question a told none = record {
  can = λ left. subst (λ k. CanCount k (plus (tally 0 0 1) left)) (sym told) (omega arith);
  by = λ parts left done. ap (λ k. counted k (stake parts (plus (tally 0 0 1) left) done)) told
      ∙ stake_same parts _ _ _ _ _ _ _ _ _ _ _ _ _ _ (omega arith) (omega arith) (omega arith) (omega arith) (omega arith) (omega arith) (omega (arith, none));
}

as_pull : (a : Answer) (counts : PullCounts) → a ≡ Plain (Pulled counts) → MovesFew (Exactly (Pulled counts)) → CountsAs kind.Pull a
as_pull a counts is few =
    let most = few counts refl in
    subst (CountsAs kind.Pull) (sym is) (record {
      can = λ left. (omega arith, most.0, most.1);
      by = λ parts left done. stake_same parts _ _ _ _ _ _ _ _ _ _ _ _ _ _ (omega arith) (omega arith) (omega arith) (omega arith) (omega arith) (omega arith) (omega arith);
    })

either : (k : CommandKind) (a : Answer) (b : Bool) (x y : Effect) → (Tells a x.report → CountsAs k a) → (Tells a y.report → CountsAs k a) → Tells a (cond b x y).report → CountsAs k a
either k a true x y f g told = f told
either k a false x y f g told = g told

changes_as : (a : Answer) (right : RightAnswer) → kind_told (Plain right) ≡ Change → moved_by (Plain right) ≡ 0 → Tells a (Exactly right) → CountsAs kind.Change a
changes_as a right told none is = as_change a (ap kind_told is ∙ told) (ap moved_by is ∙ none)

asks_as : (a : Answer) (right : RightAnswer) → kind_told (Plain right) ≡ Report → moved_by (Plain right) ≡ 0 → Tells a (Exactly right) → CountsAs kind.Question a
asks_as a right told none is = as_question a (ap kind_told is ∙ told) (ap moved_by is ∙ none)

pub counts_as : (c : Command) (d : ModelDevice) (other : Option ModelDevice) (a : Answer) → MovesFew (effect c d other).report → Tells a (effect c d other).report → CountsAs (kind_of c) a
counts_as (command.New k p r) d other a few told = changes_as a _ refl refl told
counts_as (command.Edit k p r) d other a few told = either kind.Change a (is_held d p) (making d other p r) (telling d other (Exactly NotHeld)) (changes_as a _ refl refl) (changes_as a _ refl refl) told
counts_as (command.Remove k p) d other a few told = either kind.Change a (is_held d p) (making d other p Removed) (telling d other (Exactly NotHeld)) (changes_as a _ refl refl) (changes_as a _ refl refl) told
counts_as (command.Pull t s) d None a few told = as_pull a _ told few
counts_as (command.Pull t s) d (Some x) a few told = as_pull a _ told few
counts_as (command.Narrow k tree) d other a few told = either kind.Change a (covers d.tree tree) (record { first = narrowed tree d; second = other; report = Exactly (Narrowed (moved tree d)); entries = [] }) (telling d other (Exactly NotNarrower)) (changes_as a _ refl refl) (changes_as a _ refl refl) told
counts_as (command.Refilter k tree) d other a few told = changes_as a _ refl refl told
counts_as (command.Preview t s) d None a few told = asks_as a _ refl refl told
counts_as (command.Preview t s) d (Some x) a few told = asks_as a _ refl refl told
counts_as (command.List k) d other a few told = asks_as a _ refl refl told
counts_as (command.Conflicts k) d other a few told = asks_as a _ refl refl told
counts_as (command.Knowledge k) d other a few told = as_question a (ap kind_told told.given) (ap moved_by told.given)
counts_as (command.Knows k p v) d other a few told = asks_as a _ refl refl told

-- the tally of a single command
one_command : (script : Contents) (n : ℕ) (c : Command) → command_of script n ≡ Some c → tally_at script (n ∷ []) ≡ one_of (kind_of c)
one_command script n c is = tally-cons script n [] ∙ ap (λ (t : Tally). plus t none_left) (one_is script n c is) ∙ tally_same _ _ _ _ _ _ (omega arith) (omega arith) (omega arith)

restored : (one left : Tally) → Within one left → plus one (less left one) ≡ left
restored one left within = tally_same _ _ _ _ _ _ (omega (arith, within.0)) (omega (arith, within.1)) (omega (arith, within.2))

-- a share that may count the command
record MayCount (script : Contents) (n : ℕ) (c : Command) (left : Tally) : Type 0 where
  one : tally_at script (n ∷ []) ≡ one_of (kind_of c)
  all : plus (one_of (kind_of c)) (less left (one_of (kind_of c))) ≡ left

may : (script : Contents) (n : ℕ) (c : Command) (left : Tally) → command_of script n ≡ Some c → Within (tally_at script (n ∷ [])) left → MayCount script n c left
may script n c left is within =
    let one = one_command script n c is in
    record { one = one; all = restored (one_of (kind_of c)) left (subst (λ (t : Tally). Within t left) one within) }

pub may_count : (script : Contents) (n : ℕ) (c : Command) (a : Answer) (left : Tally) → command_of script n ≡ Some c → CountsAs (kind_of c) a → Within (tally_at script (n ∷ [])) left → CanCount (kind_told a) left
may_count script n c a left is counting within =
    subst (CanCount (kind_told a)) (may script n c left is within).all (counting.can (less left (one_of (kind_of c))))

pub has_counted : (script : Contents) (n : ℕ) (c : Command) (d : Done) (share new : Stake) → command_of script n ≡ Some c → CountsAs (kind_of c) (answer_of d.report) → Within (tally_at script (n ∷ [])) share.left → new ≡ counted (kind_told (answer_of d.report)) share
    → new ≡ stake share.parts (less share.left (tally_at script (n ∷ []))) (both share.done (worked (tally_at script (n ∷ [])) (moved_in (d ∷ []))))
has_counted script n c d share new is counting within now =
    let m = may script n c share.left is within in
    let a = answer_of d.report in
    now ∙ (λ i. counted (kind_told a) (stake share.parts (sym m.all i) share.done)) ∙ counting.by share.parts (less share.left (one_of (kind_of c))) share.done
    ∙ (λ i. stake share.parts (less share.left (sym m.one i)) (both share.done (worked (sym m.one i) (sym (moved-one d) i))))
