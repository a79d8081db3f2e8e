use Rattle.std.proofs.Common.{◌≡◌, ◌≤◌, length, take, drop, Ok}
use denote.Text.{Utf8}
use denote.Shadow.{shadow}
use Rattle.photo_filter_text.specs.Tokens.{tokens_of}
use Rattle.photo_filter_text.specs.Steps.{start, run, state_of}
use Rattle.photo_filter_text.proofs.reading.take_all.Given as goal

abbrev pub invariant-loop-token : goal.invariant-loop-token
invariant-loop-token l = record {
  text : shadow (Utf8 l.rest);
  at : run start (take l.number (tokens_of l.text)) ≡ Ok (state_of l.reader);
  behind : tokens_of l.rest ≡ drop l.number (tokens_of l.text);
  within : l.number ≤ length (tokens_of l.text);
}

abbrev pub decreases-loop-token : goal.decreases-loop-token
decreases-loop-token l = length l.rest
