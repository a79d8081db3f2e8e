-- The turns of the loop over the pieces of a text.
use Rattle.std.proofs.Common.{◌≡◌, ◌≢◌, ◌<◌, ◌≤◌, ◌+◌, ◌∷◌, ◌++◌, ℕ, suc, List, [], length, get_or, take, drop, map, Option, Result, Ok, Err, refl, sym, ap, subst, ◌∙◌, drop-cons, Bor}
use Rattle.std.specs.Result.{is_ok}
use Rattle.std.specs.Str.{IsUtf8}
use Rattle.std.specs.Str.Lines.{strip_carriage_return}
use Rattle.std.proofs.lemmas.Str.{is_utf8-from_IsUtf8}
use Rattle.script_reader.specs.Limits.{max_text_bytes, max_line_bytes}
use Rattle.std.proofs.lemmas.List.{take-append-drop, map-append}
use Rattle.script_reader.specs.Lines.{pieces_of, lines_of, fields_of, third_field_on}
use Rattle.script_reader.specs.Earlier.{names_of, filters_of}
use Rattle.script_reader.specs.Saying.{said}
use Rattle.fleet_model.specs.Contents.{contents}
use Rattle.script_reader.specs.Reading.{script_of_commands, script_of_lines, MayWantMemory}
use Rattle.script_reader.specs.Steps.{HasTaken, Refuses, Takes, seen, fault_at}
use Rattle.fleet_model.specs.declared.command.Command.{Command}
use Rattle.script_reader.specs.declared.fault.ScriptFault.{ScriptFault}
use Rattle.script_reader.specs.declared.fault.ScriptFault.TheVariants.{NoMemory}
use Rattle.script_reader.specs.declared.reader.Reader.{Reader}
use Rattle.script_reader.specs.declared.refusal.Refusal.{Refusal}
use Rattle.script_reader.specs.declared.refusal.Refusal.TheVariants.{Memory, Fault}
use Rattle.script_reader.proofs.Gathered.{commands_said-fault}
use Rattle.script_reader.proofs.Taken.{HasTaken-more, seen-earlier}
use Rattle.script_reader.proofs.Trailing.{script_of_lines-pieces}

-- the lines of some pieces
abbrev pub taken_lines : List (Bor (List ℕ)) → List (List ℕ)
taken_lines pieces = map (λ p. strip_carriage_return p.now) pieces

taken_lines-now : (pieces : List (Bor (List ℕ))) → taken_lines pieces ≡ map strip_carriage_return (map (λ p. p.now) pieces)
taken_lines-now [] = refl
taken_lines-now (p ∷ ps) = ap (λ ls. strip_carriage_return p.now ∷ ls) (taken_lines-now ps)

length-taken_lines : (pieces : List (Bor (List ℕ))) → length (taken_lines pieces) ≡ length pieces
length-taken_lines [] = refl
length-taken_lines (p ∷ ps) = ap suc (length-taken_lines ps)

-- the lines so far, this one and the others
lines-turn : (pieces : List (List ℕ)) (yielded : List (Bor (List ℕ))) (piece : List ℕ) → map (λ p. p.now) yielded ≡ take (length yielded) pieces → length yielded < length pieces
    → piece ≡ get_or pieces (length yielded) piece → map strip_carriage_return pieces ≡ taken_lines yielded ++ strip_carriage_return piece ∷ map strip_carriage_return (drop (suc (length yielded)) pieces)
lines-turn pieces yielded piece front within item =
    let k = length yielded in
    let rest : drop k pieces ≡ piece ∷ drop (suc k) pieces = drop-cons pieces k piece within ∙ ap (λ x. x ∷ drop (suc k) pieces) (sym item) in
    let whole : pieces ≡ map (λ p. p.now) yielded ++ piece ∷ drop (suc k) pieces = sym (take-append-drop k pieces) ∙ ap (λ t. take k pieces ++ t) rest ∙ ap (λ t. t ++ piece ∷ drop (suc k) pieces) (sym front) in
    ap (map strip_carriage_return) whole ∙ map-append strip_carriage_return (map (λ p. p.now) yielded) (piece ∷ drop (suc k) pieces) ∙ ap (λ t. t ++ strip_carriage_return piece ∷ map strip_carriage_return (drop (suc k) pieces)) (sym (taken_lines-now yielded))

pub refused-line : (text : List ℕ) (lines rest : List (List ℕ)) (line : List ℕ) (r : Reader) (refusal : Refusal) (number : ℕ) → HasTaken lines r → Refuses refusal (said (seen r) line)
    → map strip_carriage_return (pieces_of text) ≡ lines ++ line ∷ rest → 1 + length lines ≡ number → fault_at number refusal ≢ NoMemory → script_of_lines (lines_of text) ≡ Err (fault_at number refusal)
refused-line text lines rest line r Memory number h refused whole place other = absurd (other refl)
refused-line text lines rest line r (Fault f) number h refused whole place other =
    let says = ap (λ b. said b line) (sym (seen-earlier lines r h)) ∙ refused in
    let found = commands_said-fault lines line r.script.commands h.said rest f says in
    sym (script_of_lines-pieces text) ∙ ap script_of_lines whole ∙ ap (script_of_commands (names_of (lines ++ line ∷ rest)) (filters_of (lines ++ line ∷ rest))) found ∙ ap (λ n. Err (fault_at n (Fault f))) place

-- where a line is refused, so is the script
pub refused-turn : (text : List ℕ) (yielded : List (Bor (List ℕ))) (piece line : List ℕ) (r : Reader) (refusal : Refusal) (number : ℕ) → HasTaken (taken_lines yielded) r
    → map (λ p. p.now) yielded ≡ take (length yielded) (pieces_of text) → length yielded < length (pieces_of text) → piece ≡ get_or (pieces_of text) (length yielded) piece
    → line ≡ strip_carriage_return piece → Refuses refusal (said (seen r) line) → 1 + length yielded ≡ number → fault_at number refusal ≢ NoMemory → script_of_lines (lines_of text) ≡ Err (fault_at number refusal)
refused-turn text yielded piece line r refusal number h front within item end refused place other =
    refused-line text (taken_lines yielded) _ (strip_carriage_return piece) r refusal number h (rw end at refused) (lines-turn (pieces_of text) yielded piece front within item) (ap (λ n. 1 + n) (length-taken_lines yielded) ∙ place) other

-- where a line is taken, so are all so far
pub taken-turn : (yielded : List (Bor (List ℕ))) (piece : Bor (List ℕ)) (old new : Reader) (x : Option Command) → HasTaken (taken_lines yielded) old
    → said (seen old) (strip_carriage_return piece.now) ≡ Ok x → Takes old (fields_of (strip_carriage_return piece.now)) (third_field_on (strip_carriage_return piece.now)) x new → HasTaken (taken_lines (yielded ++ piece ∷ [])) new
taken-turn yielded piece old new x h says takes =
    rw (map-append (λ p. strip_carriage_return p.now) yielded (piece ∷ [])) (HasTaken-more (taken_lines yielded) (strip_carriage_return piece.now) old new x h says takes)

-- where lines are taken, there is their script
pub taken-script : (lines : List (List ℕ)) (r : Reader) → HasTaken lines r → script_of_lines lines ≡ Ok r.script
taken-script lines r h =
    ap (script_of_commands (names_of lines) (filters_of lines)) h.said ∙ ap (λ n. Ok (contents n (filters_of lines) r.script.commands)) (sym h.names) ∙ ap (λ f. Ok (contents r.script.names f r.script.commands)) (sym h.filters)

-- where all are taken, there is the script
pub taken-end : (text : List ℕ) (yielded : List (Bor (List ℕ))) (r : Reader) → HasTaken (taken_lines yielded) r → map (λ p. p.now) yielded ≡ pieces_of text → script_of_lines (lines_of text) ≡ Ok r.script
taken-end text yielded r h all =
    let lines = taken_lines yielded in
    let whole = ap (map strip_carriage_return) (sym all) ∙ sym (taken_lines-now yielded) in
    sym (script_of_lines-pieces text) ∙ ap script_of_lines whole ∙ taken-script lines r h

-- and all of them are taken
pub taken-all : (text : List ℕ) (yielded : List (Bor (List ℕ))) (r : Reader) → HasTaken (taken_lines yielded) r → map (λ p. p.now) yielded ≡ pieces_of text → HasTaken (map strip_carriage_return (pieces_of text)) r
taken-all text yielded r h all = subst (λ lines. HasTaken lines r) (taken_lines-now yielded ∙ ap (map strip_carriage_return) all) h

-- where memory is refused, no fault came before
pub wants-turn : (text : List ℕ) (yielded : List (Bor (List ℕ))) (piece line : List ℕ) (r : Reader) (refusal : Refusal) (number : ℕ) → length text ≤ max_text_bytes → IsUtf8 text → HasTaken (taken_lines yielded) r
    → map (λ p. p.now) yielded ≡ take (length yielded) (pieces_of text) → length yielded < length (pieces_of text) → piece ≡ get_or (pieces_of text) (length yielded) piece
    → line ≡ strip_carriage_return piece → (refusal ≡ Memory → length line ≤ max_line_bytes) → (refusal ≡ Memory → fields_of line ≢ []) → ◌≡◌ {A = Result ℕ ScriptFault} (Err (fault_at number refusal)) (Err NoMemory) → MayWantMemory text
wants-turn text yielded piece line r (Fault f) number small utf8 h front within item end short has_field e = cc
wants-turn text yielded piece line r Memory number small utf8 h front within item end short has_field e =
    let read : script_of_lines (taken_lines yielded) ≡ Ok (contents (names_of (taken_lines yielded)) (filters_of (taken_lines yielded)) r.script.commands) = ap (script_of_commands (names_of (taken_lines yielded)) (filters_of (taken_lines yielded))) h.said in
    record {
      small = small;
      utf8 = is_utf8-from_IsUtf8 text utf8;
      before = taken_lines yielded;
      line = strip_carriage_return piece;
      more = map strip_carriage_return (drop (suc (length yielded)) (pieces_of text));
      whole = lines-turn (pieces_of text) yielded piece front within item;
      no_fault = ap is_ok read;
      short = rw (← end) (short refl);
      has_field = rw (← end) (has_field refl);
    }
