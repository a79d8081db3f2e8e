-- Lines behind a text, which are read one after another.
use Rattle.std.proofs.Common.{◌≡◌, ◌≢◌, ◌<◌, ◌≤◌, ◌+◌, ◌∷◌, ◌++◌, ℕ, zero, suc, Bool, true, false, cond, eqb, List, [], length, get_or, take, drop, map, Ok, Err, refl, sym, ap, subst, ◌∙◌, append_assoc, drop-cons, length-append, arith, Bor}
use Rattle.std.specs.Prelude.{Option, Result, option_to_list}
use Rattle.std.specs.List.{flat_map, list_any, onto_first, slice_split}
use Rattle.std.specs.Str.{IsUtf8}
use Rattle.std.specs.Str.Lines.{strip_carriage_return}
use Rattle.std.proofs.lemmas.Bool.{eqb-true, ne_eqb}
use Rattle.std.proofs.lemmas.List.{append-nil, map-append, take-append-drop}
use Rattle.std.proofs.lemmas.List.Concat.{flat_map-append}
use Rattle.std.proofs.lemmas.Str.{is_utf8-from_IsUtf8, IsCharBoundary-at_seam, IsUtf8-nil, IsUtf8-take}
use Rattle.std.proofs.Math.Seq.{take-append_seam}
use Rattle.fleet_model.specs.declared.command.Command.{Command}
use Rattle.script_reader.specs.Earlier.{earlier, names_of, filters_of}
use Rattle.script_reader.specs.Growing as growing
use Rattle.script_reader.specs.Limits.{max_text_bytes}
use Rattle.script_reader.specs.Lines.{lines_of, pieces_of, without_last_empty}
use Rattle.script_reader.specs.Reading.{commands_said, sayings, script_of, script_of_commands, script_of_lines, with_front, MayWantMemory}
use Rattle.script_reader.specs.Saying.{said}
use Rattle.script_reader.specs.declared.fault.LineFault.{LineFault}
use Rattle.script_reader.specs.declared.fault.ScriptFault.{ScriptFault}
use Rattle.script_reader.specs.declared.fault.ScriptFault.TheVariants.{NoMemory}
use Rattle.script_reader.proofs.Grown.{utf8_line, utf8_more}
use Rattle.script_reader.proofs.Whole.{script_of-text}
use Rattle.live_script.specs.Live.{with_line}
use Rattle.live_script.specs.Refused.{IsFaultOf}

abbrev ends : ℕ → Bool
ends b = eqb b 10

-- each line with an LF in front
abbrev pub each_behind : List (List ℕ) → List ℕ
each_behind lines = flat_map (λ line. 10 ∷ line) lines

-- the pieces of lines, each with an LF in front, are the lines with one in front
onto_behind : (b : ℕ) (bs : List ℕ) (pieces : List (List ℕ)) → each_behind pieces ≡ 10 ∷ bs → each_behind (onto_first b pieces) ≡ 10 ∷ b ∷ bs
onto_behind b bs [] h = cc
onto_behind b bs (piece ∷ more) h = ap (λ t. 10 ∷ b ∷ drop 1 t) h

pub pieces_behind : (lines : List ℕ) → each_behind (slice_split (λ b. eqb b 10) lines) ≡ 10 ∷ lines
pieces_behind [] = refl
pieces_behind (b ∷ bs) = by (eqb b 10) refl (pieces_behind bs)
  where
    by : (t : Bool) → eqb b 10 ≡ t → each_behind (slice_split ends bs) ≡ 10 ∷ bs → each_behind (cond t ([] ∷ slice_split ends bs) (onto_first b (slice_split ends bs))) ≡ 10 ∷ b ∷ bs
    by true is rest = ap (λ t. 10 ∷ t) rest ∙ ap (λ c. 10 ∷ c ∷ bs) (sym (eqb-true b 10 is))
    by false is rest = onto_behind b bs (slice_split ends bs) rest

-- no piece has an LF
abbrev AreWhole : List (List ℕ) → Type 0
AreWhole [] = Unit {0}
AreWhole (piece ∷ more) = (list_any ends piece ≡ false) × AreWhole more

onto_whole : (b : ℕ) (pieces : List (List ℕ)) → eqb b 10 ≡ false → AreWhole pieces → AreWhole (onto_first b pieces)
onto_whole b [] is h = (rw is refl, tt)
onto_whole b (piece ∷ more) is h = (rw is h.0, h.1)

pieces_whole : (lines : List ℕ) → AreWhole (slice_split ends lines)
pieces_whole [] = (refl, tt)
pieces_whole (b ∷ bs) = by (eqb b 10) refl (pieces_whole bs)
  where
    by : (t : Bool) → eqb b 10 ≡ t → AreWhole (slice_split ends bs) → AreWhole (cond t ([] ∷ slice_split ends bs) (onto_first b (slice_split ends bs)))
    by true is rest = (refl, rest)
    by false is rest = onto_whole b (slice_split ends bs) is rest

whole_at : (pieces : List (List ℕ)) (n : ℕ) (piece : List ℕ) → AreWhole pieces → n < length pieces → piece ≡ get_or pieces n piece → list_any ends piece ≡ false
whole_at [] n piece h within is = absurd (omega arith)
whole_at (p ∷ ps) zero piece h within is = ap (list_any ends) is ∙ h.0
whole_at (p ∷ ps) (suc n) piece h within is = whole_at ps n piece h.1 (omega arith) is

pub piece_whole : (lines : List ℕ) (n : ℕ) (piece : List ℕ) → n < length (slice_split (λ b. eqb b 10) lines) → piece ≡ get_or (slice_split (λ b. eqb b 10) lines) n piece → list_any (λ b. eqb b 10) piece ≡ false
piece_whole lines n piece within is = whole_at (slice_split ends lines) n piece (pieces_whole lines) within is

-- the pieces of a text with lines behind it

onto_front : (b : ℕ) (pieces more : List (List ℕ)) → 0 < length pieces → onto_first b (pieces ++ more) ≡ onto_first b pieces ++ more
onto_front b [] more some = absurd (omega arith)
onto_front b (piece ∷ pieces) more some = refl

onto_some : (b : ℕ) (pieces : List (List ℕ)) → 0 < length pieces → 0 < length (onto_first b pieces)
onto_some b [] some = absurd (omega arith)
onto_some b (piece ∷ pieces) some = omega arith

pub some_pieces : (text : List ℕ) → 0 < length (slice_split ends text)
some_pieces [] = omega arith
some_pieces (b ∷ bs) = by (eqb b 10) (some_pieces bs)
  where
    by : (t : Bool) → 0 < length (slice_split ends bs) → 0 < length (cond t ([] ∷ slice_split ends bs) (onto_first b (slice_split ends bs)))
    by true rest = omega arith
    by false rest = onto_some b (slice_split ends bs) rest

split_behind : (text lines : List ℕ) → slice_split ends (text ++ 10 ∷ lines) ≡ slice_split ends text ++ slice_split ends lines
split_behind [] lines = refl
split_behind (b ∷ text) lines = by (eqb b 10) (split_behind text lines)
  where
    by : (t : Bool) → slice_split ends (text ++ 10 ∷ lines) ≡ slice_split ends text ++ slice_split ends lines
        → cond t ([] ∷ slice_split ends (text ++ 10 ∷ lines)) (onto_first b (slice_split ends (text ++ 10 ∷ lines))) ≡ cond t ([] ∷ slice_split ends text) (onto_first b (slice_split ends text)) ++ slice_split ends lines
    by true more = ap (λ pieces. [] ∷ pieces) more
    by false more = ap (onto_first b) more ∙ onto_front b (slice_split ends text) (slice_split ends lines) (some_pieces text)

-- so its lines begin with those of the text

front_lines : (pieces : List (List ℕ)) → (rest : List (List ℕ)) × (pieces ≡ without_last_empty pieces ++ rest)
front_lines [] = ([], refl)
front_lines ([] ∷ []) = ([] ∷ [], refl)
front_lines ((c ∷ cs) ∷ []) = ([], rw (ne_eqb (suc (length cs)) 0 (λ e. omega arith)) refl)
front_lines (p ∷ q ∷ more) = let h = front_lines (q ∷ more) in (h.0, ap (λ ps. p ∷ ps) h.1)

lines_front : (pieces more : List (List ℕ)) → 0 < length more → without_last_empty (pieces ++ more) ≡ pieces ++ without_last_empty more
lines_front [] more some = refl
lines_front (p ∷ []) [] some = absurd (omega arith)
lines_front (p ∷ []) (q ∷ more) some = refl
lines_front (p ∷ q ∷ pieces) more some = ap (λ ps. p ∷ ps) (lines_front (q ∷ pieces) more some)

lines_behind : (text lines : List ℕ) → (rest : List (List ℕ)) × (lines_of (text ++ 10 ∷ lines) ≡ lines_of text ++ rest)
lines_behind text lines =
    let front = front_lines (pieces_of text) in
    let own = without_last_empty (pieces_of text) in
    let behind = front.0 ++ without_last_empty (pieces_of lines) in
    let all : without_last_empty (pieces_of (text ++ 10 ∷ lines)) ≡ own ++ behind =
    ap without_last_empty (split_behind text lines) ∙ lines_front (pieces_of text) (pieces_of lines) (some_pieces lines)
    ∙ ap (λ ps. ps ++ without_last_empty (pieces_of lines)) front.1 ∙ append_assoc own front.0 (without_last_empty (pieces_of lines)) in
    (map strip_carriage_return behind, ap (map strip_carriage_return) all ∙ map-append strip_carriage_return own behind)

-- and a fault of the text is that of the text with them

abbrev Said : Type 0
Said = Result (Option Command) LineFault

refused_step : (n : ℕ) (first : Said) (front all : List Said) (e : ScriptFault) → (commands_said (n + 1) front ≡ Err e → commands_said (n + 1) all ≡ Err e)
    → commands_said n (first ∷ front) ≡ Err e → commands_said n (first ∷ all) ≡ Err e
refused_step n (Err f) front all e goes h = h
refused_step n (Ok x) front all e goes h = by (commands_said (n + 1) front) refl h
  where
    by : (r : Result (List Command) ScriptFault) → commands_said (n + 1) front ≡ r → with_front (option_to_list x) r ≡ Err e → with_front (option_to_list x) (commands_said (n + 1) all) ≡ Err e
    by (Ok commands) is h = cc
    by (Err f) is h = ap (with_front (option_to_list x)) (goes (is ∙ h))

said_refused : (n : ℕ) (before xs ys : List (List ℕ)) (e : ScriptFault) → commands_said n (sayings before xs) ≡ Err e → commands_said n (sayings before (xs ++ ys)) ≡ Err e
said_refused n before [] ys e h = cc
said_refused n before (x ∷ xs) ys e h =
    refused_step n (said (earlier before) x) (sayings (before ++ x ∷ []) xs) (sayings (before ++ x ∷ []) (xs ++ ys)) e (said_refused (n + 1) (before ++ x ∷ []) xs ys e) h

lines_refused : (xs ys : List (List ℕ)) (e : ScriptFault) → script_of_lines xs ≡ Err e → script_of_lines (xs ++ ys) ≡ Err e
lines_refused xs ys e h = by (commands_said 1 (sayings [] xs)) refl h
  where
    by : (r : Result (List Command) ScriptFault) → commands_said 1 (sayings [] xs) ≡ r → script_of_commands (names_of xs) (filters_of xs) r ≡ Err e → script_of_lines (xs ++ ys) ≡ Err e
    by (Ok commands) is h = cc
    by (Err f) is h = ap (script_of_commands (names_of (xs ++ ys)) (filters_of (xs ++ ys))) (said_refused 1 [] xs ys f is) ∙ h

fault_front : (text lines : List ℕ) (e : ScriptFault) → length text ≤ max_text_bytes → length (text ++ 10 ∷ lines) ≤ max_text_bytes → IsUtf8 text → IsUtf8 (text ++ 10 ∷ lines)
    → script_of text ≡ Err e → script_of (text ++ 10 ∷ lines) ≡ Err e
fault_front text lines e short small utf8 all h =
    let behind = lines_behind text lines in
    script_of-text (text ++ 10 ∷ lines) small all ∙ ap script_of_lines behind.1 ∙ lines_refused (lines_of text) behind.0 e (sym (script_of-text text short utf8) ∙ h)

wants_front : (text lines : List ℕ) → length (text ++ 10 ∷ lines) ≤ max_text_bytes → IsUtf8 (text ++ 10 ∷ lines) → MayWantMemory text → MayWantMemory (text ++ 10 ∷ lines)
wants_front text lines small utf8 h = record {
  small = small;
  utf8 = is_utf8-from_IsUtf8 (text ++ 10 ∷ lines) utf8;
  before = h.before;
  line = h.line;
  more = h.more ++ map strip_carriage_return (pieces_of lines);
  whole = ap (map strip_carriage_return) (split_behind text lines) ∙ map-append strip_carriage_return (pieces_of text) (pieces_of lines)
      ∙ ap (λ ls. ls ++ map strip_carriage_return (pieces_of lines)) h.whole ∙ append_assoc h.before (h.line ∷ h.more) (map strip_carriage_return (pieces_of lines));
  no_fault = h.no_fault;
  short = h.short;
  has_field = h.has_field;
}

-- a text of characters has characters up to an LF
utf8_front : (text lines : List ℕ) → IsUtf8 (text ++ 10 ∷ lines) → IsUtf8 text
utf8_front text lines utf8 =
    let behind : IsUtf8 (10 ∷ lines) = utf8_more (suc zero) [] lines (is_utf8-from_IsUtf8 [] IsUtf8-nil) (utf8_line (suc zero) text lines utf8) in
    subst IsUtf8 (take-append_seam text (10 ∷ lines)) (IsUtf8-take (text ++ 10 ∷ lines) (length text) utf8 (IsCharBoundary-at_seam (text ++ 10 ∷ lines) text (10 ∷ lines) refl behind))

pub fault_behind : (text lines : List ℕ) (fault : ScriptFault) → length (with_line text lines) ≤ max_text_bytes → IsUtf8 (with_line text lines) → IsFaultOf text fault → IsFaultOf (with_line text lines) fault
fault_behind text lines fault small utf8 h = record {
  first = λ other. fault_front text lines fault (omega (arith, length-append text (10 ∷ lines))) small (utf8_front text lines utf8) utf8 (h.first other);
  memory = λ e. wants_front text lines small utf8 (h.memory e);
}

fault_more : (text : List ℕ) (rest : List (List ℕ)) (fault : ScriptFault) → length (text ++ each_behind rest) ≤ max_text_bytes → IsUtf8 (text ++ each_behind rest) → IsFaultOf text fault → IsFaultOf (text ++ each_behind rest) fault
fault_more text [] fault small utf8 h = subst (λ t. IsFaultOf t fault) (sym (append-nil text)) h
fault_more text (line ∷ rest) fault small utf8 h = fault_behind text (line ++ each_behind rest) fault small utf8 h

pub fault_line : (n : ℕ) (text line : List ℕ) (fault : ScriptFault) → 0 < n → (fault ≢ NoMemory → script_of (growing.with_line n text line) ≡ Err fault) → (fault ≡ NoMemory → MayWantMemory (growing.with_line n text line))
    → IsFaultOf (with_line text line) fault
fault_line zero text line fault some first memory = absurd (omega arith)
fault_line (suc n) text line fault some first memory = record { first = first; memory = memory }

-- the lines so far, and one more
module _ (text lines : List ℕ) (front : List (List ℕ)) (n : ℕ) (piece : List ℕ) (begun : front ≡ take n (slice_split (λ b. eqb b 10) lines)) (within : n < length (slice_split (λ b. eqb b 10) lines))
    (item : piece ≡ get_or (slice_split (λ b. eqb b 10) lines) n piece) where
  abbrev so_far : List ℕ
  so_far = text ++ each_behind front

  abbrev rest : List (List ℕ)
  rest = drop (suc n) (slice_split ends lines)

  all_pieces : slice_split ends lines ≡ front ++ piece ∷ rest
  all_pieces =
      let pieces = slice_split ends lines in
      sym (take-append-drop n pieces) ∙ ap (λ ps. ps ++ drop n pieces) (sym begun) ∙ ap (λ ps. front ++ ps) (drop-cons pieces n piece within ∙ ap (λ p. p ∷ rest) (sym item))

  whole_text : with_line text lines ≡ with_line so_far piece ++ each_behind rest
  whole_text =
      ap (λ t. text ++ t) (sym (pieces_behind lines) ∙ ap each_behind all_pieces ∙ flat_map-append (λ line. 10 ∷ line) front (piece ∷ rest))
      ∙ sym (append_assoc text (each_behind front) (10 ∷ piece ++ each_behind rest)) ∙ sym (append_assoc so_far (10 ∷ piece) (each_behind rest))

  pub fault_so_far : (fault : ScriptFault) → length (with_line text lines) ≤ max_text_bytes → IsUtf8 (with_line text lines) → IsFaultOf (with_line so_far piece) fault → IsFaultOf (with_line text lines) fault
  fault_so_far fault small utf8 h =
      subst (λ t. IsFaultOf t fault) (sym whole_text) (fault_more (with_line so_far piece) rest fault (subst (λ t. length t ≤ max_text_bytes) whole_text small) (subst IsUtf8 whole_text utf8) h)

-- so it is a text once more
pub behind_push : (text : List ℕ) (yielded : List (Bor (List ℕ))) (piece : Bor (List ℕ)) (line : List ℕ) → line ≡ piece.now
    → with_line (text ++ each_behind (map (λ p. p.now) yielded)) line ≡ text ++ each_behind (map (λ p. p.now) (yielded ++ piece ∷ []))
behind_push text yielded piece line is =
    let front = map (λ (p : Bor (List ℕ)). p.now) yielded in
    let last : each_behind (piece.now ∷ []) ≡ 10 ∷ line = ap (λ l. 10 ∷ l) (append-nil piece.now ∙ sym is) in
    let all : each_behind (map (λ p. p.now) (yielded ++ piece ∷ [])) ≡ each_behind front ++ 10 ∷ line =
    ap each_behind (map-append (λ p. p.now) yielded (piece ∷ [])) ∙ flat_map-append (λ line. 10 ∷ line) front (piece.now ∷ []) ∙ ap (λ t. each_behind front ++ t) last in
    append_assoc text (each_behind front) (10 ∷ line) ∙ ap (λ t. text ++ t) (sym all)
