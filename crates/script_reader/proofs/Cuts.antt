-- Where a text is cut at its first colon or dot.
use Rattle.std.proofs.Common.{◌≡◌, ℕ, ◌<◌, List, Option, Some, None, ap, sym, ◌∙◌, lit<, arith, Bor, eqb}
use Rattle.std.specs.List.{position_or_len, after_first}
use Rattle.std.specs.Option.{MatchOption}
use Rattle.std.proofs.lemmas.Bool.{cond-true, cond-false}
use Rattle.std.proofs.lemmas.List.Folds.{list_any_at}
use Rattle.std.proofs.lemmas.List.Sums.{passes_at_first}
use Rattle.std.proofs.lemmas.Str.Pattern.{IsSplitOnceResult, split_once_first}
use Rattle.script_reader.specs.Fields.{cut_at, cut_at_colon, cut_at_dot}
use Rattle.script_reader.proofs.Places.{list_any-front}

found : (mark : ℕ) → mark < 128 → (text : List ℕ) (r : Option (Bor (List ℕ) × Bor (List ℕ))) → IsSplitOnceResult mark text r
    → MatchOption r (cut_at (λ c. eqb c mark) text ≡ None) (λ parts. cut_at (λ c. eqb c mark) text ≡ Some (parts.0.now, parts.1.now))
found mark ascii text None h = cond-false _ _ _ (list_any-front (λ c. eqb c mark) text (let end = split_once_first mark text None h ascii in omega arith))
found mark ascii text (Some (front, back)) h =
    let (within, before, behind) = split_once_first mark text (Some (front, back)) h ascii in
    let has = list_any_at (λ c. eqb c mark) text (position_or_len (λ c. eqb c mark) text) 0 within (passes_at_first (λ c. eqb c mark) text 0 within) in
    cond-true _ _ _ has ∙ ap (λ x. Some (x, after_first (λ c. eqb c mark) text)) (sym before) ∙ ap (λ y. Some (front.now, y)) (sym behind)

pub cut-found : (text : List ℕ) (r : Option (Bor (List ℕ) × Bor (List ℕ))) → IsSplitOnceResult 58 text r
    → MatchOption r (cut_at_colon text ≡ None) (λ parts. cut_at_colon text ≡ Some (parts.0.now, parts.1.now))
cut-found text r h = found 58 (lit< tt) text r h

pub dot-found : (text : List ℕ) (r : Option (Bor (List ℕ) × Bor (List ℕ))) → IsSplitOnceResult 46 text r
    → MatchOption r (cut_at_dot text ≡ None) (λ parts. cut_at_dot text ≡ Some (parts.0.now, parts.1.now))
dot-found text r h = found 46 (lit< tt) text r h
