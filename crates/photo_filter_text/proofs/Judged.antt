-- A verdict on tokens that can be computed, and that agrees with the grammar.
use Rattle.std.proofs.Common.{◌≡◌, ◌≢◌, ◌⊎◌, inl, inr, ℕ, ◌+◌, Bool, true, false, cond, leb, if◌then◌else◌, List, [], ◌∷◌, length, take, drop, Option, Some, None, Result, Ok, Err, refl, sym, ap, subst, ◌∙◌}
use Rattle.std.proofs.lemmas.Bool.{leb-true, leb-false, false≢true}
use Rattle.photo_filter_text.specs.declared.reader.Refusal.{Refusal}
use Rattle.photo_filter_text.specs.declared.reader.Refusal.TheVariants as refusal
use Rattle.photo_filter_text.specs.declared.fault.FilterFault.{FilterFault}
use Rattle.photo_filter_text.specs.declared.fault.FilterFault.TheVariants.{Empty, Unexpected, EndsEarly, TooDeep, TooManyTokens, BadWord, NoMemory}
use Rattle.photo_filter_text.specs.Limits.{max_tokens, max_height}
use Rattle.photo_filter_text.specs.Tree.{Tree, height}
use Rattle.photo_filter_text.specs.Tokens.{Token, tokens_of}
use Rattle.photo_filter_text.specs.Grammar.{IsExpr}
use Rattle.photo_filter_text.specs.Fault.{IsRoomy, IsFilter, IsFault}
use Rattle.photo_filter_text.specs.Examples.{HasFault}
use Rattle.photo_filter_text.specs.Steps.{State, start, step, run, finish}
use Rattle.photo_filter_text.proofs.Complete.{expr-read, tree_read}
use Rattle.photo_filter_text.proofs.Sound.{read-expr}
use Rattle.photo_filter_text.proofs.Faults.{refused-as, run-begins, run-next, next-is, stops-at, no-word-at, bad-word-at}
use Rattle.photo_filter_text.proofs.Verdict.{all-taken}

-- a tree or a fault; `None` stands for want of memory, which no step here meets
abbrev Answer : Type 0
Answer = Option (Result Tree FilterFault)

abbrev at_end : Option Tree → Answer
at_end None = Some (Err EndsEarly)
at_end (Some tree) = Some (if leb (height tree) max_height then Ok tree else Err TooDeep)

abbrev after_step : ℕ → (State → Answer) → Result State Refusal → Answer
after_step n more (Ok s) = more s
after_step n more (Err refusal.Unexpected) = Some (Err (Unexpected (n + 1)))
after_step n more (Err refusal.BadWord) = Some (Err BadWord)
after_step n more (Err refusal.NoMemory) = None

-- the verdict on these tokens after n others
abbrev verdict_from : ℕ → State → List Token → Answer
verdict_from n s [] = at_end (finish s)
verdict_from n s (x ∷ rest) = after_step n (λ q. verdict_from (n + 1) q rest) (step s x)

abbrev verdict : List Token → Answer
verdict [] = Some (Err Empty)
verdict (t ∷ ts) = if leb (length (t ∷ ts)) max_tokens then verdict_from 0 start (t ∷ ts) else Some (Err TooManyTokens)

abbrev IsAnswer : List Token → Answer → Type 0
IsAnswer ts None = Unit {0}
IsAnswer ts (Some (Ok tree)) = IsFilter ts tree
IsAnswer ts (Some (Err fault)) = IsFault ts fault

none-read : (ts : List Token) (s : State) → run start ts ≡ Ok s → finish s ≡ None → (tree : Tree) → IsExpr ts tree → ⊥
none-read ts s e f tree x =
    let p = expr-read x in
    let q = ap tree_read e in
    cc

end-judged : (ts : List Token) (s : State) → IsRoomy ts → run start ts ≡ Ok s → (found : Option Tree) → finish s ≡ found → IsAnswer ts (at_end found)
end-judged ts s r e None f = (r, run-begins ts s e, none-read ts s e f)
end-judged ts s r e (Some tree) f = by_height (leb (height tree) max_height) refl
  where
    by_height : (low : Bool) → leb (height tree) max_height ≡ low → IsAnswer ts (Some (cond low (Ok tree) (Err TooDeep)))
    by_height true h = record { short = r.1; grammar = read-expr ts s tree e f; low = leb-true _ _ h }
    by_height false h = (r, (tree, read-expr ts s tree e f, leb-false _ _ h))

rest-judged : (ts : List Token) (n : ℕ) (s : State) (rest : List Token) → IsRoomy ts → run start (take n ts) ≡ Ok s → drop n ts ≡ rest → IsAnswer ts (verdict_from n s rest)
rest-judged ts n s [] r e d = end-judged ts s r (ap (run start) (sym (all-taken n ts d)) ∙ e) (finish s) refl
rest-judged ts n s (x ∷ rest) r e d = by_step (step s x) refl (λ q h. rest-judged ts (n + 1) q rest r (run-next ts n x rest s e d ∙ h) (next-is ts n x rest d).behind)
  where
    by_step : (o : Result State Refusal) → step s x ≡ o → ((q : State) → step s x ≡ Ok q → IsAnswer ts (verdict_from (n + 1) q rest)) → IsAnswer ts (after_step n (λ q. verdict_from (n + 1) q rest) o)
    by_step (Ok q) h more = more q h
    by_step (Err refusal.Unexpected) h more = (r, stops-at ts n x rest s refusal.Unexpected e d h, no-word-at ts n x rest s e d h)
    by_step (Err refusal.BadWord) h more = (r, (n + 1, stops-at ts n x rest s refusal.BadWord e d h, bad-word-at ts n x rest s e d h))
    by_step (Err refusal.NoMemory) h more = tt

judged : (ts : List Token) → IsAnswer ts (verdict ts)
judged [] = refl
judged (t ∷ ts) = by_length (leb (length (t ∷ ts)) max_tokens) refl
  where
    by_length : (short : Bool) → leb (length (t ∷ ts)) max_tokens ≡ short → IsAnswer (t ∷ ts) (cond short (verdict_from 0 start (t ∷ ts)) (Some (Err TooManyTokens)))
    by_length true h = rest-judged (t ∷ ts) 0 start (t ∷ ts) (λ e. cc, leb-true _ _ h) refl refl
    by_length false h = leb-false _ _ h

no-memory-wanted : (s : State) (x : Token) → step s x ≡ Err refusal.NoMemory → ⊥
no-memory-wanted s x h =
    elim (refused-as s.place s.level s.outer x refusal.NoMemory h) [
      | inl unexpected ↦ cc
      | inr bad ↦ let e = bad.0 in cc
    ]

-- the answer is a tree, or a fault other than want of memory
abbrev is_told : Answer → Bool
is_told None = false
is_told (Some (Ok tree)) = true
is_told (Some (Err NoMemory)) = false
is_told (Some (Err Empty)) = true
is_told (Some (Err (Unexpected k))) = true
is_told (Some (Err EndsEarly)) = true
is_told (Some (Err TooDeep)) = true
is_told (Some (Err TooManyTokens)) = true
is_told (Some (Err BadWord)) = true

end-told : (found : Option Tree) → is_told (at_end found) ≡ true
end-told None = refl
end-told (Some tree) = by_height (leb (height tree) max_height)
  where
    by_height : (low : Bool) → is_told (Some (cond low (Ok tree) (Err TooDeep))) ≡ true
    by_height true = refl
    by_height false = refl

rest-told : (n : ℕ) (s : State) (rest : List Token) → is_told (verdict_from n s rest) ≡ true
rest-told n s [] = end-told (finish s)
rest-told n s (x ∷ rest) = by_step (step s x) refl (λ q. rest-told (n + 1) q rest)
  where
    by_step : (o : Result State Refusal) → step s x ≡ o → ((q : State) → is_told (verdict_from (n + 1) q rest) ≡ true) → is_told (after_step n (λ q. verdict_from (n + 1) q rest) o) ≡ true
    by_step (Ok q) h more = more q
    by_step (Err refusal.Unexpected) h more = refl
    by_step (Err refusal.BadWord) h more = refl
    by_step (Err refusal.NoMemory) h more = absurd (no-memory-wanted s x h)

told : (ts : List Token) → is_told (verdict ts) ≡ true
told [] = refl
told (t ∷ ts) = by_length (leb (length (t ∷ ts)) max_tokens)
  where
    by_length : (short : Bool) → is_told (cond short (verdict_from 0 start (t ∷ ts)) (Some (Err TooManyTokens))) ≡ true
    by_length true = rest-told 0 start (t ∷ ts)
    by_length false = refl

-- tokens are a filter or have a fault
pub filter-or-fault : (ts : List Token) → ((tree : Tree) × IsFilter ts tree) ⊎ ((fault : FilterFault) × (fault ≢ NoMemory) × IsFault ts fault)
filter-or-fault ts = by_answer (verdict ts) (told ts) (judged ts)
  where
    by_answer : (a : Answer) → is_told a ≡ true → IsAnswer ts a → ((tree : Tree) × IsFilter ts tree) ⊎ ((fault : FilterFault) × (fault ≢ NoMemory) × IsFault ts fault)
    by_answer None h j = absurd (false≢true h)
    by_answer (Some (Ok tree)) h j = inl (tree, j)
    by_answer (Some (Err fault)) h j = inr (fault, λ e. false≢true (sym (ap (λ f. is_told (Some (Err f))) e) ∙ h), j)

pub fault-of : (text : List ℕ) (fault : FilterFault) → verdict (tokens_of text) ≡ Some (Err fault) → HasFault text fault
fault-of text fault h = record { is = subst (IsAnswer (tokens_of text)) h (judged (tokens_of text)) }

pub filter-of : (ts : List Token) (tree : Tree) → verdict ts ≡ Some (Ok tree) → IsFilter ts tree
filter-of ts tree h = subst (IsAnswer ts) h (judged ts)
