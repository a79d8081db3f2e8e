-- Deals a batch to workers, command by command.
use Rattle.std.proofs.Common.{◌≡◌, ◌≢◌, ℕ, zero, suc, ◌+◌, ◌<◌, ◌%◌, Bool, true, false, ◌==◌, cond, List, [], ◌∷◌, ◌++◌, ◌⊎◌, inl, inr, length, get_or, set, map, take, drop, replicate, refl, sym, ap, ◌∙◌, subst, arith, append_assoc, append-nil, length-set}
use Rattle.std.specs.Prelude.{Option, Some, None, IfSome, IsSome, IsPermutation, Vec}
use Rattle.std.specs.List.{AllByRecursion, flat_map}
use Rattle.std.proofs.lemmas.List.{get_or-set_same, get_or-set_other, map-append, length-map, length-replicate}
use Rattle.std.proofs.lemmas.List.Sorted.{IsPermutation-refl, IsPermutation-trans, IsPermutation-map, IsPermutation-append_left, IsPermutation-append_right, IsPermutation-to_front}
use Rattle.std.proofs.lemmas.Bool.{cases_eq, eq-eqb, ne_eqb}
use Rattle.photo_device.specs.Device.{Kept}
use Rattle.fleet_model.specs.declared.command.Command.{Command}
use Rattle.fleet_model.specs.Contents.{Contents, command_of, devices_of, IsWithin}
use Rattle.photo_batcher.specs.Related.{IsNumber, uses, works_on}
use Rattle.photo_batcher.specs.Orders.{times}
use Rattle.photo_batcher.proofs.Counting.{times_cons, times_append}
use Rattle.photo_batcher.proofs.Turns.{all_by_times, self_counts}
use Rattle.photo_batcher.proofs.Exchange.{used}
use Rattle.photo_batcher.proofs.Lasts.{works_first, works_second}
use Rattle.photo_batcher.proofs.Checked.{at_place}
use Rattle.photo_model.proofs.AllLemmas.{all_front, all_back, all_append}
use Rattle.fleet_workers.specs.declared.work.Job.{Job}
use Rattle.fleet_workers.specs.Jobs.{jobs_of, numbers_of}
use Rattle.fleet_workers.specs.Batch.{IsJobAt, IsSecondAt, IsTaken, AreApart, AreOut, in_places, with_other, taken_slots}
use Rattle.fleet_workers.specs.Dealing.{at_places, part_of, with_job, IsDealt}
use Rattle.fleet_workers.proofs.Batched.{in_places_long, in_places_others}

-- no command that has been dealt works on a device of the next one
pub not_yet_used : (script : Contents) (members : List ℕ) (i k : ℕ) → AreApart script members → i < length members → uses script (get_or members i 0) k ≡ true → AllByRecursion (λ m. uses script m k ≡ false) (take i members)
not_yet_used script members i k apart below used = all_by_times (λ m. uses script m k ≡ false) (take i members) (λ m stands. by_case m (uses script m k) refl stands)
  where
    by_case : (m : ℕ) (b : Bool) → uses script m k ≡ b → 0 < times m (take i members) → uses script m k ≡ false
    by_case m false is stands = is
    by_case m true is stands =
        let n = get_or members i 0 in
        let whole = ap (times m) (at_place members i below) ∙ times_append m (take i members) (n ∷ drop (i + 1) members) in
        let here = ap (times n) (at_place members i below) ∙ times_append n (take i members) (n ∷ drop (i + 1) members) in
        let one = times_cons n n (drop (i + 1) members) in
        let self = self_counts n in
        let once = apart.once n in
        let not : m ≡ n → ⊥ = λ same. let there = subst (λ x. 0 < times x (take i members)) same stands in omega (arith, here, one, self, once, there) in
        absurd (apart.apart m n (omega (arith, whole, stands)) (omega (arith, here, one, self)) not (record { device = k; first = is; second = used }))

pub taken_is : (script : Contents) (n : ℕ) (c : Command) (slots : List (Option Kept)) → command_of script n ≡ Some c → taken_slots script n slots ≡ in_places c None (Some None) slots
taken_is script n c slots is = rw is refl

not_worked : (script : Contents) (n k : ℕ) (c : Command) → command_of script n ≡ Some c → uses script n k ≡ false → works_on c k ≡ true → ⊥
not_worked script n k c is not works = let e : false ≡ true = sym not ∙ used script n k c is works in cc

pub out_more : (script : Contents) (numbers : List ℕ) (n : ℕ) (c : Command) (devices : List Kept) (slots : List (Option Kept)) → command_of script n ≡ Some c → AreOut script numbers devices slots → AreOut script (numbers ++ n ∷ []) devices (taken_slots script n slots)
out_more script numbers n c devices slots is out = record {
  long = ap length (taken_is script n c slots is) ∙ in_places_long c None (Some None) slots ∙ out.long;
  here = λ k below free x d.
      let not : works_on c k ≡ true → ⊥ = not_worked script n k c is (all_back (λ m. uses script m k ≡ false) numbers (n ∷ []) free).0 in
      ap (λ (l : List (Option Kept)). get_or l k x) (taken_is script n c slots is) ∙ in_places_others c None (Some None) slots k x not ∙ out.here k below (all_front (λ m. uses script m k ≡ false) numbers (n ∷ []) free) x d;
}

pub out_none : (script : Contents) (devices : List Kept) → AreOut script [] devices (map Some devices)
out_none script devices = record {
  long = length-map devices Some;
  here = λ k below free x d. at devices k below x d;
}
  where
    at : (ds : List Kept) (k : ℕ) → k < length ds → (x : Option Kept) (d : Kept) → get_or (map Some ds) k x ≡ Some (get_or ds k d)
    at [] k below x d = absurd (omega arith)
    at (e ∷ es) zero below x d = refl
    at (e ∷ es) (suc k) below x d = at es k (omega arith) x d

-- the jobs of all rows

rows_jobs : {Z : Type 0} (groups : List (Vec Job Z)) → jobs_of groups ≡ flat_map (λ (r : List Job). r) (map (λ v. v.items) groups)
rows_jobs [] = refl
rows_jobs (g ∷ gs) = ap (λ (l : List Job). g.items ++ l) (rows_jobs gs)

abbrev in_rows : List (List Job) → List Job
in_rows rows = flat_map (λ (r : List Job). r) rows

-- one more job in one of the rows
grouped : (rows : List (List Job)) (place : ℕ) (job : Job) → place < length rows → IsPermutation (in_rows rows ++ job ∷ []) (in_rows (with_job place job rows))
grouped [] place job below = absurd (omega arith)
grouped (g ∷ gs) zero job below =
    let moved : IsPermutation (g ++ (in_rows gs ++ job ∷ [])) (g ++ (job ∷ in_rows gs)) = IsPermutation-append_right g (in_rows gs ++ job ∷ []) (job ∷ in_rows gs) (IsPermutation-to_front (in_rows gs) job) in
    let from : g ++ (in_rows gs ++ job ∷ []) ≡ (g ++ in_rows gs) ++ job ∷ [] = sym (append_assoc g (in_rows gs) (job ∷ [])) in
    let to : g ++ (job ∷ in_rows gs) ≡ (g ++ job ∷ []) ++ in_rows gs = sym (append_assoc g (job ∷ []) (in_rows gs)) in
    subst (λ (xs : List Job). IsPermutation ((g ++ in_rows gs) ++ job ∷ []) xs) to (subst (λ (xs : List Job). IsPermutation xs (g ++ (job ∷ in_rows gs))) from moved)
grouped (g ∷ gs) (suc place) job below =
    let rest = grouped gs place job (omega arith) in
    let moved : IsPermutation (g ++ (in_rows gs ++ job ∷ [])) (g ++ in_rows (with_job place job gs)) = IsPermutation-append_right g (in_rows gs ++ job ∷ []) (in_rows (with_job place job gs)) rest in
    subst (λ (xs : List Job). IsPermutation xs (g ++ in_rows (with_job place job gs))) (sym (append_assoc g (in_rows gs) (job ∷ []))) moved

each_more : (P : Job → Type 0) (rows : List (List Job)) (place : ℕ) (job : Job) → place < length rows → AllByRecursion P (in_rows rows) → P job → AllByRecursion P (in_rows (with_job place job rows))
each_more P [] place job below all new = absurd (omega arith)
each_more P (g ∷ gs) zero job below all new = all_append P (g ++ job ∷ []) (in_rows gs) (all_append P g (job ∷ []) (all_front P g (in_rows gs) all) (new, tt)) (all_back P g (in_rows gs) all)
each_more P (g ∷ gs) (suc place) job below all new = all_append P g (in_rows (with_job place job gs)) (all_front P g (in_rows gs) all) (each_more P gs place job (omega arith) (all_back P g (in_rows gs) all) new)

-- the elements at tested places, with one more element
places_more : (test : ℕ → Bool) (i n : ℕ) (xs : List ℕ) → at_places test i (xs ++ n ∷ []) ≡ at_places test i xs ++ cond (test (i + length xs)) (n ∷ []) []
places_more test i n [] = let zero_more : i + 0 ≡ i = omega arith in ap (λ (j : ℕ). cond (test j) (n ∷ []) []) (sym zero_more)
places_more test i n (x ∷ xs) =
    let more = places_more test (i + 1) n xs in
    let place : (i + 1) + length xs ≡ i + suc (length xs) = omega arith in
    let rest : at_places test (i + 1) (xs ++ n ∷ []) ≡ at_places test (i + 1) xs ++ cond (test (i + suc (length xs))) (n ∷ []) [] = more ∙ ap (λ (j : ℕ). at_places test (i + 1) xs ++ cond (test j) (n ∷ []) []) place in
    by_case (test i) (cond (test (i + suc (length xs))) (n ∷ []) []) (at_places test (i + 1) (xs ++ n ∷ [])) rest
  where
    by_case : (b : Bool) (last all : List ℕ) → all ≡ at_places test (i + 1) xs ++ last → cond b (x ∷ all) all ≡ cond b (x ∷ at_places test (i + 1) xs) (at_places test (i + 1) xs) ++ last
    by_case true last all is = ap (λ (l : List ℕ). x ∷ l) is
    by_case false last all is = is

part_more : (rows : List (List Job)) (count i k n : ℕ) (job : Job) (members : List ℕ) → length rows ≡ count → k < count → length members ≡ i → job.number ≡ n
    → numbers_of (get_or rows k []) ≡ part_of count k members → numbers_of (get_or (with_job (i % count) job rows) k []) ≡ part_of count k (members ++ n ∷ [])
part_more rows count i k n job members many below long is old =
    let more : part_of count k (members ++ n ∷ []) ≡ part_of count k members ++ cond ((i % count) == k) (n ∷ []) [] = places_more (λ j. (j % count) == k) 0 n members ∙ ap (λ (j : ℕ). part_of count k members ++ cond ((j % count) == k) (n ∷ []) []) (let place : 0 + length members ≡ i = omega (arith, long) in place) in
    by_case (cases_eq (i % count) k) more
  where
    by_case : ((i % count) ≡ k) ⊎ ((i % count) ≡ k → ⊥) → part_of count k (members ++ n ∷ []) ≡ part_of count k members ++ cond ((i % count) == k) (n ∷ []) [] → numbers_of (get_or (with_job (i % count) job rows) k []) ≡ part_of count k (members ++ n ∷ [])
    by_case (inl same) more =
        let row : get_or (with_job (i % count) job rows) k [] ≡ get_or rows k [] ++ job ∷ [] = ap (λ (j : ℕ). get_or (with_job j job rows) k []) same ∙ get_or-set_same rows k (get_or rows k [] ++ job ∷ []) [] (omega (arith, many, below)) in
        ap numbers_of row ∙ map-append (λ (j : Job). j.number) (get_or rows k []) (job ∷ []) ∙ (λ t. old t ++ is t ∷ []) ∙ ap (λ (b : Bool). part_of count k members ++ cond b (n ∷ []) []) (sym (eq-eqb (i % count) k same)) ∙ sym more
    by_case (inr other) more =
        let row : get_or (with_job (i % count) job rows) k [] ≡ get_or rows k [] = get_or-set_other rows (i % count) k (get_or rows (i % count) [] ++ job ∷ []) [] (λ e. other (sym e)) in
        ap numbers_of row ∙ old ∙ sym (append-nil (part_of count k members)) ∙ ap (λ (b : Bool). part_of count k members ++ cond b (n ∷ []) []) (sym (ne_eqb (i % count) k other)) ∙ sym more

none_in : (count : ℕ) → in_rows (replicate count []) ≡ []
none_in zero = refl
none_in (suc n) = none_in n

row_none : (count k : ℕ) → get_or (replicate {A = List Job} count []) k [] ≡ []
row_none zero k = refl
row_none (suc n) zero = refl
row_none (suc n) (suc k) = row_none n k

-- before the first command is dealt
pub dealt_none : {Z : Type 0} (script : Contents) (devices : List Kept) (count : ℕ) (groups : List (Vec Job Z)) (slots : List (Option Kept)) → map (λ v. v.items) groups ≡ replicate count [] → slots ≡ map Some devices → IsDealt script [] devices count groups slots
dealt_none script devices count groups slots none is =
    let jobs : jobs_of groups ≡ [] = rows_jobs groups ∙ ap in_rows none ∙ none_in count in
    record {
      many = sym (length-map groups (λ v. v.items)) ∙ ap length none ∙ length-replicate count [];
      parts = λ k below. ap (λ (rows : List (List Job)). numbers_of (get_or rows k [])) none ∙ ap numbers_of (row_none count k);
      all = subst (λ (js : List Job). IsPermutation [] (numbers_of js)) (sym jobs) (IsPermutation-refl []);
      each = subst (AllByRecursion (IsJobAt script devices)) (sym jobs) tt;
      out = subst (AreOut script [] devices) (sym is) (out_none script devices);
    }

-- after one more command is dealt
pub dealt_more : {Z : Type 0} (script : Contents) (members : List ℕ) (n i : ℕ) (c : Command) (devices : List Kept) (count : ℕ) (groups new : List (Vec Job Z)) (slots now : List (Option Kept)) (job : Job)
    → IsDealt script members devices count groups slots → length members ≡ i → 0 < count → command_of script n ≡ Some c → job.number ≡ n → IsJobAt script devices job → (i % count) < count
    → map (λ v. v.items) new ≡ with_job (i % count) job (map (λ v. v.items) groups) → now ≡ taken_slots script n slots → IsDealt script (members ++ n ∷ []) devices count new now
dealt_more script members n i c devices count groups new slots now job dealt long some is number job_at low added taken =
    let rows = map (λ v. v.items) groups in
    let many : length rows ≡ count = length-map groups (λ v. v.items) ∙ dealt.many in
    let place : (i % count) < length rows = omega (arith, low, many) in
    let old : jobs_of groups ≡ in_rows rows = rows_jobs groups in
    let jobs : jobs_of new ≡ in_rows (with_job (i % count) job rows) = rows_jobs new ∙ ap in_rows added in
    let perm : IsPermutation (in_rows rows ++ job ∷ []) (jobs_of new) = subst (IsPermutation (in_rows rows ++ job ∷ [])) (sym jobs) (grouped rows (i % count) job place) in
    let numbers : numbers_of (in_rows rows ++ job ∷ []) ≡ numbers_of (jobs_of groups) ++ n ∷ [] = map-append (λ (j : Job). j.number) (in_rows rows) (job ∷ []) ∙ (λ t. numbers_of (sym old t) ++ number t ∷ []) in
    record {
      many = sym (length-map new (λ v. v.items)) ∙ ap length added ∙ length-set rows (i % count) (get_or rows (i % count) [] ++ job ∷ []) ∙ many;
      parts = λ k below. ap (λ (r : List (List Job)). numbers_of (get_or r k [])) added ∙ part_more rows count i k n job members many below long number (dealt.parts k below);
      all = IsPermutation-trans (members ++ n ∷ []) (numbers_of (jobs_of groups) ++ n ∷ []) (numbers_of (jobs_of new))
          (IsPermutation-append_left (n ∷ []) members (numbers_of (jobs_of groups)) dealt.all)
          (subst (λ (l : List ℕ). IsPermutation l (numbers_of (jobs_of new))) numbers (IsPermutation-map (λ (j : Job). j.number) (in_rows rows ++ job ∷ []) (jobs_of new) perm));
      each = subst (AllByRecursion (IsJobAt script devices)) (sym jobs) (each_more (IsJobAt script devices) rows (i % count) job place (subst (AllByRecursion (IsJobAt script devices)) old dealt.each) job_at);
      out = subst (AreOut script (members ++ n ∷ []) devices) (sym taken) (out_more script members n c devices slots is dealt.out);
    }

-- the next command's devices are in their slots

element : {X : Type 0} (xs : List X) (k : ℕ) → k < length xs → X
element [] k below = absurd (omega arith)
element (x ∷ xs) k below = x

pub slot_is : (script : Contents) (members : List ℕ) (i k : ℕ) (devices : List Kept) (slots : List (Option Kept)) → AreApart script members → i < length members → AreOut script (take i members) devices slots → k < length devices → uses script (get_or members i 0) k ≡ true
    → (x : Option Kept) (d : Kept) → get_or slots k x ≡ Some (get_or devices k d)
slot_is script members i k devices slots apart below out low used x d = out.here k low (not_yet_used script members i k apart below used) x d

pub slot_here : (script : Contents) (members : List ℕ) (i k : ℕ) (devices : List Kept) (slots : List (Option Kept)) → AreApart script members → i < length members → AreOut script (take i members) devices slots → k < length slots → uses script (get_or members i 0) k ≡ true
    → (x : Option Kept) → IsSome (get_or slots k x)
slot_here script members i k devices slots apart below out low used x =
    let low' : k < length devices = omega (arith, low, out.long) in
    subst IsSome (sym (slot_is script members i k devices slots apart below out low' used x (element devices k low'))) refl

-- what is taken out of the slots makes a job

same_some : {X : Type 0} (x y : X) → Some x ≡ Some y → x ≡ y
same_some x y e = cc

-- the devices on which a command works are in their slots
abbrev pub AreHere : Contents → ℕ → List (Option Kept) → Type 0
AreHere script n slots = (k : ℕ) → k < length slots → uses script n k ≡ true → (x : Option Kept) → IsSome (get_or slots k x)

pub first_here : (script : Contents) (n : ℕ) (c : Command) (place : ℕ) (slots : List (Option Kept)) → command_of script n ≡ Some c → IsWithin (length script.names) c → length slots ≡ length script.names → place ≡ (devices_of c).0 → AreHere script n slots → (x : Option Kept) → IsSome (get_or slots place x)
first_here script n c place slots is within long at here x =
    let low = within.0 in
    subst (λ (j : ℕ). IsSome (get_or slots j x)) (sym at) (here (devices_of c).0 (omega (arith, low, long)) (used script n (devices_of c).0 c is (works_first c)) x)

pub second_here : (script : Contents) (n : ℕ) (c : Command) (place : ℕ) (other : Option ℕ) (slots : List (Option Kept)) → command_of script n ≡ Some c → IsWithin (length script.names) c → length slots ≡ length script.names → place ≡ (devices_of c).0 → other ≡ (devices_of c).1 → AreHere script n slots
    → IfSome other (λ k. (x : Option Kept) → IsSome (get_or (set slots place None) k x))
second_here script n c place other slots is within long at second here = subst (λ o. IfSome o (λ k. (x : Option Kept) → IsSome (get_or (set slots place None) k x))) (sym second) (by_cases (devices_of c).1 refl within.1)
  where
    by_cases : (o : Option ℕ) → (devices_of c).1 ≡ o → IfSome o (λ s. (s < length script.names) × (s ≢ (devices_of c).0)) → IfSome o (λ k. (x : Option Kept) → IsSome (get_or (set slots place None) k x))
    by_cases None same w = tt
    by_cases (Some k) same w = λ x. let low = w.0 in subst IsSome (sym (get_or-set_other slots place k None x (λ e. w.1 (e ∙ at)))) (here k (omega (arith, low, long)) (used script n k c is (works_second c k same)) x)

pub job_taken : (script : Contents) (n : ℕ) (c : Command) (slots : List (Option Kept)) (devices : List Kept) (place : ℕ) (other : Option ℕ) (job : Job) → command_of script n ≡ Some c → IsWithin (length script.names) c → length slots ≡ length script.names → length devices ≡ length slots
    → place ≡ (devices_of c).0 → other ≡ (devices_of c).1 → job.number ≡ n → ((x : Option Kept) → get_or slots place x ≡ Some job.first) → IsTaken other (set slots place None) job.second
    → ((k : ℕ) → k < length devices → uses script n k ≡ true → (x : Option Kept) (d : Kept) → get_or slots k x ≡ Some (get_or devices k d)) → IsJobAt script devices job
job_taken script n c slots devices place other job is within long same at second number first taken here =
    let count : length script.names ≡ length devices = sym (same ∙ long) in
    let low = within.0 in
    record {
      command = c;
      is = ap (command_of script) number ∙ is;
      within = subst (λ m. IsWithin m c) count within;
      first = λ x. same_some (get_or devices (devices_of c).0 x) job.first (sym (here (devices_of c).0 (omega (arith, low, count)) (used script n (devices_of c).0 c is (works_first c)) None x) ∙ ap (λ (j : ℕ). get_or slots j None) (sym at) ∙ first None);
      second = by_cases (devices_of c).1 refl within.1 (subst (λ o. IsTaken o (set slots place None) job.second) second taken);
    }
  where
    by_cases : (o : Option ℕ) → (devices_of c).1 ≡ o → IfSome o (λ s. (s < length script.names) × (s ≢ (devices_of c).0)) → IsTaken o (set slots place None) job.second → IsSecondAt o devices job.second
    by_cases None same' w none = none
    by_cases (Some k) same' w some =
        let low = w.0 in
        (some.0, some.1, λ y. same_some (get_or devices k y) some.0 (sym (here k (omega (arith, low, long, same)) (used script n k c is (works_second c k same')) None y) ∙ sym (get_or-set_other slots place k None None (λ e. w.1 (e ∙ at))) ∙ some.2 None))

pub slots_taken : (script : Contents) (n : ℕ) (c : Command) (place : ℕ) (other : Option ℕ) (slots one two : List (Option Kept)) → command_of script n ≡ Some c → place ≡ (devices_of c).0 → other ≡ (devices_of c).1 → one ≡ set slots place None → two ≡ with_other other (Some None) one → two ≡ taken_slots script n slots
slots_taken script n c place other slots one two is at second first then =
    then ∙ (λ i. with_other (second i) (Some None) (first i)) ∙ ap (λ (k : ℕ). with_other (devices_of c).1 (Some None) (set slots k None)) at ∙ sym (taken_is script n c slots is)

-- the number at an index of the batch
pub numbered_at : (script : Contents) (members : List ℕ) (i : ℕ) → AllByRecursion (IsNumber script) members → i < length members → IsNumber script (get_or members i 0)
numbered_at script [] i all below = absurd (omega arith)
numbered_at script (n ∷ ns) zero all below = all.0
numbered_at script (n ∷ ns) (suc i) all below = numbered_at script ns i all.1 (omega (arith, below))

pub put_in_row : {Z : Type 0} (groups : List (Vec Job Z)) (place : ℕ) (new : Vec Job Z) (job : Job) → place < length groups → new.items ≡ (get_or groups place new).items ++ job ∷ [] → map (λ v. v.items) (set groups place new) ≡ with_job place job (map (λ v. v.items) groups)
put_in_row [] place new job below is = absurd (omega arith)
put_in_row (g ∷ gs) zero new job below is = ap (λ (r : List Job). r ∷ map (λ v. v.items) gs) is
put_in_row (g ∷ gs) (suc place) new job below is = ap (λ (rows : List (List Job)). g.items ∷ rows) (put_in_row gs place new job (omega (arith, below)) is)

pub many_groups : {Z : Type 0} (groups : List (Vec Job Z)) (count : ℕ) → map (λ v. v.items) groups ≡ replicate count [] → length groups ≡ count
many_groups groups count is = sym (length-map groups (λ v. v.items)) ∙ ap length is ∙ length-replicate count []
