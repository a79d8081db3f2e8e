-- A line behind those of a text that has grown.
use Rattle.std.proofs.Common.{◌≡◌, ℕ, zero, suc, ◌<◌, List, [], ◌∷◌, ◌++◌, refl, sym, subst, arith}
use Rattle.std.proofs.Math.Seq.{drop-append_seam}
use Rattle.std.specs.Prelude.{Option, Ok, IfSome, Result}
use Rattle.fleet_model.specs.Contents.{Contents}
use Rattle.fleet_steps.specs.Laws.{AcceptedStaysSound}
use Rattle.script_reader.specs.Growing.{Adds, IsGrown, script_in}
use Rattle.script_reader.specs.Growing as growing
use Rattle.script_reader.specs.Reading.{script_of}
use Rattle.script_reader.specs.declared.growing.GrowingScript.{GrowingScript}
use Rattle.script_reader.specs.declared.growing.Said.{Said}
use Rattle.script_reader.specs.declared.fault.ScriptFault.{ScriptFault}
use Rattle.live_fleet.specs.Fleets.{KeptFleet}
use Rattle.live_script.specs.Printed.{IsOutput}
use Rattle.live_script.specs.Live.{ComesBehind, IsAnswered, IsLive, IsTold, IsToldOf, ShowsRun, with_line}

ok_same : (r : Result Contents ScriptFault) (x y : Contents) → r ≡ Ok x → r ≡ Ok y → x ≡ y
ok_same r x y e f = cc

-- a script that has gone back is what it was
pub back_live : (text : List ℕ) (old new : GrowingScript) (fleet now : Option KeptFleet) → IsLive text old fleet → IsGrown text new → new.lines ≡ old.lines → IfSome now (ShowsRun (script_in old)) → IsLive text new now
back_live text old new fleet now live grown lines shown =
    let same : script_in old ≡ script_in new = ok_same (script_of text) (script_in old) (script_in new) live.grown.read grown.read in
    record {
      grown = grown;
      some = subst (λ n. 0 < n) (sym lines) live.some;
      answered = subst IsAnswered same live.answered;
      shown = subst (λ s. IfSome now (ShowsRun s)) same shown;
    }

-- a line that was put behind the others comes behind their script
abbrev pub comes_behind : (text : List ℕ) (said : Said) (old new : GrowingScript) (fleet : Option KeptFleet) (script : Contents) → IsLive text old fleet → Adds said (script_in old) (script_in new) → script ≡ script_in new → ComesBehind said fleet script
comes_behind text said old new fleet script live adds is = record { old = script_in old; answered = live.answered; shown = live.shown; adds = subst (Adds said (script_in old)) (sym is) adds }

pub grown_line : (n : ℕ) (text line : List ℕ) (new : GrowingScript) → 0 < n → IsGrown (growing.with_line n text line) new → IsGrown (with_line text line) new
grown_line zero text line new some grown = absurd (omega arith)
grown_line (suc n) text line new some grown = grown

-- what is told of the scripts is told of their texts
pub told_text : (text line told : List ℕ) (old new : GrowingScript) (fleet : Option KeptFleet) (script : Contents) → AcceptedStaysSound → IsLive text old fleet → IsGrown (with_line text line) new → script ≡ script_in new
    → IsToldOf (script_in old) script told → IsTold text (with_line text line) told
told_text text line told old new fleet script sound live grown is h = record {
  before = h.before;
  after = h.before ++ told;
  was = record { script = script_in old; read = live.grown.read; sound = sound _ _ live.grown.read; printed = h.was };
  is = record { script = script_in new; read = grown.read; sound = sound _ _ grown.read; printed = subst (λ s. IsOutput s (h.before ++ told)) is h.is };
  behind = sym (drop-append_seam h.before told);
}

-- the line is taken
pub taken_live : (text : List ℕ) (new : GrowingScript) (now : Option KeptFleet) (script : Contents) → IsGrown text new → 0 < new.lines → script ≡ script_in new → IsAnswered script → IfSome now (ShowsRun script) → IsLive text new now
taken_live text new now script grown some is answered shown = record {
  grown = grown;
  some = some;
  answered = subst IsAnswered is answered;
  shown = subst (λ s. IfSome now (ShowsRun s)) is shown;
}

-- a text that is there has a line
pub some_lines : (n : ℕ) (text line : List ℕ) (new : GrowingScript) → 0 < n → IsGrown (growing.with_line n text line) new → 0 < new.lines
some_lines n text line new some grown = by new.lines refl
  where
    by : (k : ℕ) → k ≡ new.lines → 0 < new.lines
    by zero e = absurd (not_empty (grown_line n text line new some grown).none (sym e))
      where
        not_empty : (new.lines ≡ 0 → with_line text line ≡ []) → new.lines ≡ 0 → ⊥
        not_empty none z = ends text line (none z)
          where
            ends : (xs ys : List ℕ) → xs ++ 10 ∷ ys ≡ [] → ⊥
            ends [] ys e = cc
            ends (x ∷ xs) ys e = cc
    by (suc k) e = omega (arith, e)
