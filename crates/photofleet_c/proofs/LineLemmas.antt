-- What a call with a line tells.
use Rattle.std.proofs.Common.{ℕ, List, inr, refl, arith}
use Rattle.photofleet_c.specs.declared.session.Session.{Session}
use Rattle.photofleet_c.specs.Placed.{HasNoRoom}
use Rattle.photofleet_c.specs.Sessions.{IsStepOf, TellsNoStep, with_line}
use Rattle.live_script.specs.Live.{IsTold}

-- the session that has a line more
abbrev pub next_of : Session → List ℕ → Session
next_of session line = record { live = with_line session line }

pub step_to : (session : Session) (line text : List ℕ) → IsTold session.live (with_line session line) text → IsStepOf session line (next_of session line) text
step_to session line text told = record {
  has = record { source = refl; output = told.after; printed = told.is };
  tells = told;
}

-- the output has no room
pub no_room : (session : Session) (line text old new : List ℕ) (written : ℕ) → IsTold session.live (with_line session line) text → HasNoRoom old new written text → TellsNoStep session line old new written 5
no_room session line text old new written told room = record {
  which = inr (inr refl);
  fault = λ e. absurd (omega arith);
  want = λ e. absurd (omega arith);
  small = λ e. (next_of session line, text, step_to session line text told, room);
}
