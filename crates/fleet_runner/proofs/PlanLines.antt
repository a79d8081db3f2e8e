-- Writes the lines of a plan.
use Rattle.std.proofs.Common.{◌≡◌, ℕ, suc, ◌+◌, ◌-◌, ◌<◌, ◌≤◌, List, [], ◌++◌, length, sym, ap, ◌∙◌, subst, append_assoc, arith}
use Rattle.std.proofs.lemmas.List.{append-nil}
use Rattle.std.specs.Prelude.{Option}
use Rattle.std.specs.Io.KnownBytes.{Appends}
use Rattle.std.proofs.KnownBytes.{Appends-trans}
use Rattle.photo_batcher.specs.Plans.{Planned}
use Rattle.fleet_runner.specs.Outputs.{AppendsFront}
use Rattle.fleet_runner.specs.OrderStreams.{AppendsLines}
use Rattle.fleet_runner.specs.PlanTexts.{command_line, count_line, lines_from, plan_text}
use Rattle.fleet_runner.proofs.Known.{IsWrittenTo}

-- one piece of the rest has been written
piece_written : (before here after : Option (List ℕ)) (piece rest text : List ℕ) → IsWrittenTo before here (piece ++ rest) text → Appends here after piece → IsWrittenTo before after rest text
piece_written before here after piece rest text so_far more = record {
  front = so_far.front ++ piece;
  whole = append_assoc so_far.front piece rest ∙ so_far.whole;
  written = Appends-trans before here after so_far.front piece so_far.written more;
}

piece_cut : (before here after : Option (List ℕ)) (piece rest text : List ℕ) → IsWrittenTo before here (piece ++ rest) text → AppendsFront here after piece → AppendsFront before after text
piece_cut before here after piece rest text so_far part = record {
  front = so_far.front ++ part.front;
  rest = part.rest ++ rest;
  whole = append_assoc so_far.front part.front (part.rest ++ rest)
      ∙ ap (λ l. so_far.front ++ l) (sym (append_assoc part.front part.rest rest) ∙ ap (λ l. l ++ rest) part.whole)
      ∙ so_far.whole;
  written = Appends-trans before here after so_far.front part.front so_far.written part.written;
}

-- the line of the next command
next_line : (p : Planned) (place count : ℕ) → place < count → lines_from p (place + 1) (count - place) ≡ command_line p (place + 1) ++ lines_from p ((place + 1) + 1) (count - (place + 1))
next_line p place count h = let left : count - place ≡ suc (count - (place + 1)) = omega arith in ap (lines_from p (place + 1)) left

pub line_written : (before here after : Option (List ℕ)) (p : Planned) (place count : ℕ) (line text : List ℕ) → place < count → line ≡ command_line p (place + 1)
    → IsWrittenTo before here (lines_from p (place + 1) (count - place)) text → Appends here after line → IsWrittenTo before after (lines_from p ((place + 1) + 1) (count - (place + 1))) text
line_written before here after p place count line text h is so_far more =
    piece_written before here after (command_line p (place + 1)) (lines_from p ((place + 1) + 1) (count - (place + 1))) text
    (subst (λ (l : List ℕ). IsWrittenTo before here l text) (next_line p place count h) so_far) (subst (Appends here after) is more)

pub line_cut : (before here after : Option (List ℕ)) (p : Planned) (place count : ℕ) (line text : List ℕ) → place < count → line ≡ command_line p (place + 1)
    → IsWrittenTo before here (lines_from p (place + 1) (count - place)) text → AppendsFront here after line → AppendsFront before after text
line_cut before here after p place count line text h is so_far part =
    piece_cut before here after (command_line p (place + 1)) (lines_from p ((place + 1) + 1) (count - (place + 1))) text
    (subst (λ (l : List ℕ). IsWrittenTo before here l text) (next_line p place count h) so_far) (subst (AppendsFront here after) is part)

-- after the last command the last line is left
last_line : (p : Planned) (place count : ℕ) → place ≡ count → lines_from p (place + 1) (count - place) ≡ count_line p
last_line p place count all = let none : count - place ≡ 0 = omega arith in ap (lines_from p (place + 1)) none

pub last_cut : (before here after : Option (List ℕ)) (p : Planned) (place count : ℕ) (line text : List ℕ) → place ≡ count → line ≡ count_line p
    → IsWrittenTo before here (lines_from p (place + 1) (count - place)) text → AppendsFront here after line → AppendsFront before after text
last_cut before here after p place count line text all is so_far part =
    piece_cut before here after (count_line p) [] text
    (subst (λ (l : List ℕ). IsWrittenTo before here l text) (last_line p place count all ∙ sym (append-nil (count_line p))) so_far) (subst (AppendsFront here after) is part)

-- up to here exactly the lines of the first `place` commands have been written
pub lines_appended : (before here : Option (List ℕ)) (p : Planned) (place : ℕ) → place ≤ length p.batches
    → IsWrittenTo before here (lines_from p (place + 1) (length p.batches - place)) (plan_text p) → AppendsLines before here p
lines_appended before here p place few so_far = record { count = place; few = few; front = so_far.front; whole = so_far.whole; written = so_far.written }
