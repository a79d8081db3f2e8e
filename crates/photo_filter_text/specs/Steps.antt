-- Machinery of the proofs: the reader's steps, one token each. Private contracts alone cite them; `Grammar`, `Fronts` and
-- `Fault` define filters and their faults.
use Rattle.std.specs.Prelude.{ℕ, suc, zero, ◌+◌, Bool, true, false, not, ◌||◌, ◌&&◌, nat_lt, if◌then◌else◌, List, [], ◌∷◌, map, reverse, Option, Some, None, is_some, option_map, Result, Ok, Err, codes}
use Rattle.std.specs.Str.{bytes_eq}
use Rattle.photo_record.specs.Reading.{rating_of_text, day_of_text, word_of_text}
use Rattle.photo_filter_text.specs.declared.tree.Cmp.{Cmp}
use Rattle.photo_filter_text.specs.declared.symbol.Symbol.{Symbol}
use Rattle.photo_filter_text.specs.declared.symbol.Symbol.TheVariants.{Open, Close, OrWord, AndWord, NotWord, AllWord, NoneWord, RatingWord, DayWord, KeywordWord, Other}
use Rattle.photo_filter_text.specs.declared.reader.Refusal.{Refusal}
use Rattle.photo_filter_text.specs.declared.reader.Refusal.TheVariants.{Unexpected, BadWord}
use Rattle.photo_filter_text.specs.declared.reader.Field.{Field}
use Rattle.photo_filter_text.specs.declared.reader.Field.TheVariants.{RatingField, DayField}
use Rattle.photo_filter_text.specs.declared.reader.Place as code
use Rattle.photo_filter_text.specs.declared.reader.Place.TheVariants as places
use Rattle.photo_filter_text.specs.declared.reader.Level as code_level
use Rattle.photo_filter_text.specs.declared.reader.Reader as code_reader
use Rattle.photo_filter_text.specs.Tree.{Tree, All, Nothing, Rate, On, Keyword, Not, Both, Either, tree_of}
use Rattle.photo_filter_text.specs.Tokens.{Token}
use Rattle.photo_filter_text.specs.Grammar.{cmp_of, is_bracket}

-- which of the grammar's fixed tokens this token is
unfoldable pub symbol_of : Token → Symbol
symbol_of token =
    if bytes_eq token (codes "(") then Open
    else (if bytes_eq token (codes ")") then Close
    else (if bytes_eq token (codes "or") then OrWord
    else (if bytes_eq token (codes "and") then AndWord
    else (if bytes_eq token (codes "not") then NotWord
    else (if bytes_eq token (codes "all") then AllWord
    else (if bytes_eq token (codes "none") then NoneWord
    else (if bytes_eq token (codes "rating") then RatingWord
    else (if bytes_eq token (codes "day") then DayWord
    else (if bytes_eq token (codes "keyword") then KeywordWord
    else Other)))))))))

-- what may come next; after a term, that term too
pub data Place : Type 0 where
  AtFactor : Place
  AtOperator : Field → Place
  AtValue : Field → Cmp → Place
  AtWord : Place
  After : Tree → Place

-- what stands before the next factor in the innermost open bracket: the terms before its last `or`, the factors since then
-- before the last `and`, and the number of `not` after these
pub record Level : Type 0 where
  pub either : Option Tree
  pub both : Option Tree
  pub negations : ℕ

pub record State : Type 0 where
  pub place : Place
  pub level : Level
  pub outer : List Level

abbrev pub level_with : Option Tree → Option Tree → ℕ → Level
level_with e b n = record { either = e; both = b; negations = n }

abbrev pub state_with : Place → Level → List Level → State
state_with p l outer = record { place = p; level = l; outer = outer }

abbrev pub fresh : Level
fresh = level_with None None 0

abbrev pub start : State
start = state_with AtFactor fresh []

abbrev pub joined : (Tree → Tree → Tree) → Option Tree → Tree → Tree
joined f None t = t
joined f (Some a) t = f a t

abbrev pub negated : ℕ → Tree → Tree
negated zero t = t
negated (suc n) t = Not (negated n t)

-- the state after a complete factor
unfoldable pub after_factor : Level → List Level → Tree → State
after_factor l outer t = state_with (After (joined Both l.both (negated l.negations t))) (level_with l.either None 0) outer

unfoldable pub at_factor : Level → List Level → Symbol → Result State Refusal
at_factor l outer Open = Ok (state_with AtFactor fresh (l ∷ outer))
at_factor l outer NotWord = Ok (state_with AtFactor (level_with l.either l.both (l.negations + 1)) outer)
at_factor l outer AllWord = Ok (after_factor l outer All)
at_factor l outer NoneWord = Ok (after_factor l outer Nothing)
at_factor l outer RatingWord = Ok (state_with (AtOperator RatingField) l outer)
at_factor l outer DayWord = Ok (state_with (AtOperator DayField) l outer)
at_factor l outer KeywordWord = Ok (state_with AtWord l outer)
at_factor l outer Close = Err Unexpected
at_factor l outer OrWord = Err Unexpected
at_factor l outer AndWord = Err Unexpected
at_factor l outer Other = Err Unexpected

-- the state after a closing bracket; the tree is what the bracket holds
abbrev pub closed : Tree → List Level → Result State Refusal
closed t [] = Err Unexpected
closed t (l ∷ outer) = Ok (after_factor l outer t)

unfoldable pub after_term : Level → List Level → Tree → Symbol → Result State Refusal
after_term l outer t AndWord = Ok (state_with AtFactor (level_with l.either (Some t) 0) outer)
after_term l outer t OrWord = Ok (state_with AtFactor (level_with (Some (joined Either l.either t)) None 0) outer)
after_term l outer t Close = closed (joined Either l.either t) outer
after_term l outer t Open = Err Unexpected
after_term l outer t NotWord = Err Unexpected
after_term l outer t AllWord = Err Unexpected
after_term l outer t NoneWord = Err Unexpected
after_term l outer t RatingWord = Err Unexpected
after_term l outer t DayWord = Err Unexpected
after_term l outer t KeywordWord = Err Unexpected
after_term l outer t Other = Err Unexpected

-- the state after a test's value, if the value is valid
abbrev pub test_of : {A : Type 0} → Level → List Level → (A → Tree) → Option A → Result State Refusal
test_of l outer f None = Err Unexpected
test_of l outer f (Some x) = Ok (after_factor l outer (f x))

abbrev pub at_operator : Level → List Level → Field → Option Cmp → Result State Refusal
at_operator l outer field None = Err Unexpected
at_operator l outer field (Some cmp) = Ok (state_with (AtValue field cmp) l outer)

abbrev pub at_word : {E : Type 0} → Level → List Level → Result (List ℕ) E → Result State Refusal
at_word l outer (Ok word) = Ok (after_factor l outer (Keyword word))
at_word l outer (Err fault) = Err BadWord

abbrev pub step_at : Place → Level → List Level → Token → Result State Refusal
step_at AtFactor l outer token = at_factor l outer (symbol_of token)
step_at (AtOperator field) l outer token = at_operator l outer field (cmp_of token)
step_at (AtValue RatingField cmp) l outer token = test_of l outer (Rate cmp) (rating_of_text token)
step_at (AtValue DayField cmp) l outer token = test_of l outer (On cmp) (day_of_text token)
step_at AtWord l outer token = if is_bracket token then Err Unexpected else at_word l outer (word_of_text token)
step_at (After t) l outer token = after_term l outer t (symbol_of token)

abbrev pub step : State → Token → Result State Refusal
step s token = step_at s.place s.level s.outer token

abbrev pub go_on : (State → Result State Refusal) → Result State Refusal → Result State Refusal
go_on f (Ok s) = f s
go_on f (Err e) = Err e

-- the state after these tokens, or the first refusal
abbrev pub run : State → List Token → Result State Refusal
run s [] = Ok s
run s (t ∷ ts) = go_on (λ r. run r ts) (step s t)

-- the whole tree, if a term ends here and no bracket is open
abbrev pub finished : Place → Level → List Level → Option Tree
finished (After t) l [] = Some (joined Either l.either t)
finished (After t) l (m ∷ outer) = None
finished AtFactor l outer = None
finished (AtOperator field) l outer = None
finished (AtValue field cmp) l outer = None
finished AtWord l outer = None

abbrev pub finish : State → Option Tree
finish s = finished s.place s.level s.outer

-- Where the reader may ask for memory: for a factor after a `not` or an `and`
abbrev pub keeps_factor : Level → Bool
keeps_factor l = nat_lt 0 l.negations || is_some l.both

unfoldable pub keeps_at_factor : Level → Symbol → Bool
keeps_at_factor l Open = true
keeps_at_factor l AllWord = keeps_factor l
keeps_at_factor l NoneWord = keeps_factor l
keeps_at_factor l NotWord = false
keeps_at_factor l RatingWord = false
keeps_at_factor l DayWord = false
keeps_at_factor l KeywordWord = false
keeps_at_factor l Close = false
keeps_at_factor l OrWord = false
keeps_at_factor l AndWord = false
keeps_at_factor l Other = false

-- for the last term in a bracket that closes, and for the bracket as a factor
abbrev pub keeps_closed : Option Tree → List Level → Bool
keeps_closed either [] = false
keeps_closed either (below ∷ outer) = is_some either || keeps_factor below

unfoldable pub keeps_after_term : Level → List Level → Symbol → Bool
keeps_after_term l outer OrWord = is_some l.either
keeps_after_term l outer Close = keeps_closed l.either outer
keeps_after_term l outer AndWord = false
keeps_after_term l outer Open = false
keeps_after_term l outer NotWord = false
keeps_after_term l outer AllWord = false
keeps_after_term l outer NoneWord = false
keeps_after_term l outer RatingWord = false
keeps_after_term l outer DayWord = false
keeps_after_term l outer KeywordWord = false
keeps_after_term l outer Other = false

abbrev pub keeps_at : Place → Level → List Level → Token → Bool
keeps_at AtFactor l outer token = keeps_at_factor l (symbol_of token)
keeps_at (AtOperator field) l outer token = false
keeps_at (AtValue RatingField cmp) l outer token = is_some (rating_of_text token) && keeps_factor l
keeps_at (AtValue DayField cmp) l outer token = is_some (day_of_text token) && keeps_factor l
keeps_at AtWord l outer token = not (is_bracket token)
keeps_at (After t) l outer token = keeps_after_term l outer (symbol_of token)

abbrev pub keeps : State → Token → Bool
keeps s token = keeps_at s.place s.level s.outer token

abbrev pub keeps_finished : Place → Level → List Level → Bool
keeps_finished (After t) l [] = is_some l.either
keeps_finished (After t) l (m ∷ outer) = false
keeps_finished AtFactor l outer = false
keeps_finished (AtOperator field) l outer = false
keeps_finished (AtValue field cmp) l outer = false
keeps_finished AtWord l outer = false

abbrev pub keeps_at_end : State → Bool
keeps_at_end s = keeps_finished s.place s.level s.outer

-- The code's values as values of these definitions
abbrev pub place_of : code.Place → Place
place_of places.Factor = AtFactor
place_of (places.Operator field) = AtOperator field
place_of (places.Value field cmp) = AtValue field cmp
place_of places.Word = AtWord
place_of (places.After t) = After (tree_of t)

abbrev pub level_of : code_level.Level → Level
level_of l = level_with (option_map tree_of l.either) (option_map tree_of l.both) l.negations

abbrev pub levels_of : List code_level.Level → List Level
levels_of ls = map level_of (reverse ls)

abbrev pub state_of : code_reader.Reader → State
state_of r = state_with (place_of r.place) (level_of r.level) (levels_of r.outer.items)
