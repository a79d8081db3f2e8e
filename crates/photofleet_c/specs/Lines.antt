-- The lines that tell why a call gives no reports, as the program 'photofleet' writes them.
use Rattle.std.specs.Prelude.{ℕ, List, ◌++◌, codes}
use Rattle.script_reader.specs.declared.fault.ScriptFault.{ScriptFault}
use Rattle.script_reader.specs.FaultTexts.{fault_text}
use Rattle.live_script.specs.declared.refusal.Refusal.{Refusal}
use Rattle.live_script.specs.declared.refusal.Refusal.TheVariants as refusal

abbrev pub fault_line : ScriptFault → List ℕ
fault_line fault = codes "script fault: " ++ fault_text fault ++ codes "\n"

abbrev pub want_line : List ℕ
want_line = codes "run error: E1 NoMemory\n"

abbrev pub line_of : Refusal → List ℕ
line_of (refusal.Script fault) = fault_line fault
line_of refusal.NoMemory = want_line
