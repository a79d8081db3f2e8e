-- What a text is with one line more, and what a reader has taken then.
use Rattle.std.proofs.Common.{◌≡◌, ◌≢◌, ◌<◌, ◌≤◌, ◌+◌, ◌∷◌, ◌++◌, ℕ, zero, suc, List, [], length, map, get_or, drop, Bool, true, false, cond, ◌||◌, eqb, Option, Ok, Err, refl, sym, ap, subst, ◌∙◌, length-append, append_assoc, arith}
use Rattle.std.specs.List.{slice_split, onto_first, list_any}
use Rattle.std.specs.Result.{is_ok}
use Rattle.std.specs.Str.{IsUtf8, is_utf8}
use lib.Utf8.{encode}
use Rattle.std.specs.Str.Lines.{strip_carriage_return}
use Rattle.std.proofs.lemmas.List.{drop_at, get_or_at, map-append}
use Rattle.std.proofs.lemmas.List.Splits.{length-slice_split}
use Rattle.std.proofs.lemmas.List.Sums.{count_by-le-length}
use Rattle.std.proofs.lemmas.Str.{IsCharBoundary-after_ascii, IsUtf8-append, IsUtf8-drop, IsUtf8-from_is_utf8, IsUtf8-nil, is_utf8-from_IsUtf8}
use Rattle.fleet_model.specs.declared.command.Command.{Command}
use Rattle.script_reader.specs.Limits.{max_text_bytes, max_line_bytes}
use Rattle.script_reader.specs.Lines.{pieces_of, lines_of, fields_of, third_field_on}
use Rattle.script_reader.specs.Reading.{script_of, script_of_lines, MayWantMemory}
use Rattle.script_reader.specs.Saying.{said}
use Rattle.script_reader.specs.Growing.{AreTaken, lines_in, with_line}
use Rattle.script_reader.specs.Steps.{HasTaken, IsFirst, Refuses, Takes, fault_at, seen}
use Rattle.script_reader.specs.declared.fault.ScriptFault.TheVariants.{NoMemory}
use Rattle.script_reader.specs.declared.reader.Reader.{Reader}
use Rattle.script_reader.specs.declared.refusal.Refusal.{Refusal}
use Rattle.script_reader.specs.declared.refusal.Refusal.TheVariants.{Memory, Fault}
use Rattle.script_reader.proofs.Places.{length-map}
use Rattle.script_reader.proofs.Taken.{HasTaken-more, HasTaken-none}
use Rattle.script_reader.proofs.Trailing.{script_of_lines-pieces}
use Rattle.script_reader.proofs.Turns.{refused-line, taken-script}
use Rattle.script_reader.proofs.Whole.{script_of-text}

-- the lines of the text

abbrev ends : ℕ → Bool
ends b = eqb b 10

whole_line : (line : List ℕ) → list_any ends line ≡ false → slice_split ends line ≡ line ∷ []
whole_line [] one = refl
whole_line (b ∷ bs) one = by (eqb b 10) (whole_line bs) one
  where
    by : (t : Bool) → (list_any ends bs ≡ false → slice_split ends bs ≡ bs ∷ []) → (t || list_any ends bs) ≡ false → cond t ([] ∷ slice_split ends bs) (onto_first b (slice_split ends bs)) ≡ (b ∷ bs) ∷ []
    by true rest h = cc
    by false rest h = ap (onto_first b) (rest h)

onto_more : (b : ℕ) (parts : List (List ℕ)) (line : List ℕ) → 0 < length parts → onto_first b (parts ++ line ∷ []) ≡ onto_first b parts ++ line ∷ []
onto_more b [] line some = absurd (omega arith)
onto_more b (part ∷ parts) line some = refl

split_more : (text line : List ℕ) → slice_split ends line ≡ line ∷ [] → slice_split ends (text ++ 10 ∷ line) ≡ slice_split ends text ++ line ∷ []
split_more [] line one = ap (λ parts. [] ∷ parts) one
split_more (b ∷ text) line one = by (eqb b 10) (split_more text line one)
  where
    by : (t : Bool) → slice_split ends (text ++ 10 ∷ line) ≡ slice_split ends text ++ line ∷ []
        → cond t ([] ∷ slice_split ends (text ++ 10 ∷ line)) (onto_first b (slice_split ends (text ++ 10 ∷ line))) ≡ cond t ([] ∷ slice_split ends text) (onto_first b (slice_split ends text)) ++ line ∷ []
    by true more = ap (λ parts. [] ∷ parts) more
    by false more = ap (onto_first b) more ∙ onto_more b (slice_split ends text) line (omega (arith, length-slice_split ends text))

lines_more : (n : ℕ) (text line : List ℕ) → list_any ends line ≡ false → map strip_carriage_return (pieces_of (with_line n text line)) ≡ lines_in n text ++ strip_carriage_return line ∷ []
lines_more zero text line one = ap (map strip_carriage_return) (whole_line line one)
lines_more (suc n) text line one = ap (map strip_carriage_return) (split_more text line (whole_line line one)) ∙ map-append strip_carriage_return (pieces_of text) (line ∷ [])

-- there are no more of them than bytes, but for one
pub few_lines : (n : ℕ) (text : List ℕ) → length (lines_in n text) ≡ n → n ≤ length text + 1
few_lines zero text all = omega arith
few_lines (suc n) text all =
    let pieces = length-map strip_carriage_return (pieces_of text) in
    omega (arith, all, pieces, length-slice_split ends text, count_by-le-length ends text)

-- its characters

lf_utf8 : IsUtf8 (10 ∷ [])
unfolding encode
lf_utf8 = (10 ∷ [], (refl, refl))

-- and the text of a text and a line of characters has characters
pub utf8_more : (n : ℕ) (text line : List ℕ) → is_utf8 text ≡ true → IsUtf8 line → IsUtf8 (with_line n text line)
utf8_more zero text line was new = new
utf8_more (suc n) text line was new = IsUtf8-append text (10 ∷ line) (IsUtf8-from_is_utf8 text was) (IsUtf8-append (10 ∷ []) line lf_utf8 new)

-- the line of a text of characters has characters
pub utf8_line : (n : ℕ) (text line : List ℕ) → IsUtf8 (with_line n text line) → IsUtf8 line
utf8_line zero text line utf8 = utf8
utf8_line (suc n) text line utf8 =
    let whole = text ++ 10 ∷ line in
    let within : length text < length whole = omega (arith, length-append text (10 ∷ line)) in
    let lf : get_or whole (length text) 0 ≡ 10 = get_or_at text 10 line 0 (length text) refl in
    let rest : drop (length text + 1) whole ≡ line = ap (drop (length text + 1)) (sym (append_assoc text (10 ∷ []) line)) ∙ drop_at (text ++ 10 ∷ []) line (length text + 1) (length-append text (10 ∷ [])) in
    subst IsUtf8 rest (IsUtf8-drop whole (length text + 1) utf8 (IsCharBoundary-after_ascii whole (length text) utf8 within (omega (arith, lf))))

-- a reader of no lines has taken those of the empty text
pub taken_none : (r : Reader) → IsFirst r → AreTaken [] r 0 0
taken_none r first =
    let small : length {A = ℕ} [] ≤ max_text_bytes = omega arith in
    record {
      bytes_are = refl;
      lines_are = refl;
      none = λ e. refl;
      small = small;
      utf8 = is_utf8-from_IsUtf8 [] IsUtf8-nil;
      taken = HasTaken-none r first;
      read = script_of-text [] small IsUtf8-nil ∙ taken-script [] r (HasTaken-none r first);
    }

-- and one of a text has taken its lines
pub taken_text : (text : List ℕ) (r : Reader) (n : ℕ) → length text ≤ max_text_bytes → IsUtf8 text → n ≡ length (pieces_of text) → HasTaken (map strip_carriage_return (pieces_of text)) r → script_of_lines (lines_of text) ≡ Ok r.script → AreTaken text r n (length text)
taken_text text r zero small utf8 count taken read = absurd (omega (arith, count, length-slice_split ends text))
taken_text text r (suc n) small utf8 count taken read = record {
  bytes_are = refl;
  lines_are = length-map strip_carriage_return (pieces_of text) ∙ sym count;
  none = λ e. absurd (omega arith);
  small = small;
  utf8 = is_utf8-from_IsUtf8 text utf8;
  taken = taken;
  read = script_of-text text small utf8 ∙ read;
}

module _ (text line : List ℕ) (old : Reader) (n bytes : ℕ) (h : AreTaken text old n bytes) (one : list_any ends line ≡ false) (utf8 : IsUtf8 line) (small : length (with_line n text line) ≤ max_text_bytes) where
  abbrev whole : List ℕ
  whole = with_line n text line

  abbrev stripped : List ℕ
  stripped = strip_carriage_return line

  read_more : script_of whole ≡ script_of_lines (map strip_carriage_return (pieces_of whole))
  read_more = script_of-text whole small (utf8_more n text line h.utf8 utf8) ∙ sym (script_of_lines-pieces whole)

  -- where the line is taken, so is the text
  pub taken_more : (new : Reader) (x : Option Command) → said (seen old) stripped ≡ Ok x → Takes old (fields_of stripped) (third_field_on stripped) x new → AreTaken whole new (suc n) (length whole)
  taken_more new x says takes =
      let lines = lines_more n text line one in
      let taken : HasTaken (map strip_carriage_return (pieces_of whole)) new = subst (λ ls. HasTaken ls new) (sym lines) (HasTaken-more (lines_in n text) stripped old new x h.taken says takes) in
      let count = ap length lines ∙ length-append (lines_in n text) (stripped ∷ []) in
      record {
        bytes_are = refl;
        lines_are = omega (arith, count, h.lines_are);
        none = λ e. absurd (omega arith);
        small = small;
        utf8 = is_utf8-from_IsUtf8 whole (utf8_more n text line h.utf8 utf8);
        taken = taken;
        read = read_more ∙ taken-script (map strip_carriage_return (pieces_of whole)) new taken;
      }

  -- where it is refused, so is the text
  pub refused_more : (refusal : Refusal) → Refuses refusal (said (seen old) stripped) → fault_at (suc n) refusal ≢ NoMemory → script_of whole ≡ Err (fault_at (suc n) refusal)
  refused_more refusal refused other =
      script_of-text whole small (utf8_more n text line h.utf8 utf8) ∙ refused-line whole (lines_in n text) [] stripped old refusal (suc n) h.taken refused (lines_more n text line one) (omega (arith, h.lines_are)) other

  -- and where memory is refused, the text may want it
  pub wants_more : (refusal : Refusal) → (refusal ≡ Memory → length stripped ≤ max_line_bytes) → (refusal ≡ Memory → fields_of stripped ≢ []) → fault_at (suc n) refusal ≡ NoMemory → MayWantMemory whole
  wants_more (Fault f) short has_field e = cc
  wants_more Memory short has_field e = record {
    small = small;
    utf8 = is_utf8-from_IsUtf8 whole (utf8_more n text line h.utf8 utf8);
    before = lines_in n text;
    line = stripped;
    more = [];
    whole = lines_more n text line one;
    no_fault = ap is_ok (taken-script (lines_in n text) old h.taken);
    short = short refl;
    has_field = has_field refl;
  }
