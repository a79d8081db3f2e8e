-- A pull after commands in any order moves no more versions than there can be commands.
use Rattle.std.proofs.Common.{◌≡◌, ℕ, ◌≤◌, List, length, refl, sym, subst, arith}
use Rattle.fleet_model.specs.Limits.{max_commands}
use Rattle.fleet_model.specs.declared.command.Command.{Command}
use Rattle.fleet_model.specs.Contents.{Contents, IsWithin, IsScript}
use Rattle.fleet_model.specs.Answers.{RightAnswer, ModelReport, Exactly, Pulled}
use Rattle.photo_script.specs.Reports.{Plain, Tells}
use Rattle.fleet_model.specs.Runs.{run_in_order}
use Rattle.photo_script.specs.Tallies.{moved_by}
use Rattle.fleet_model.specs.Steps.{effect_on}
use Rattle.fleet_steps.specs.Moved.{MovesFew}
use Rattle.fleet_steps.proofs.FewMoved.{pulls_move_what_was_made}

tells_it : (a : RightAnswer) (r : ModelReport) → r ≡ Exactly a → Tells (Plain a) r
tells_it a r is = subst (Tells (Plain a)) (sym is) refl

pub moves_few_after : (script : Contents) (front : List ℕ) (c : Command) → IsScript script → length front ≤ max_commands → IsWithin (length script.names) c → MovesFew (effect_on (run_in_order script front).devices c).report
moves_few_after script front c is few within = λ counts told.
    let moved : moved_by (Plain (Pulled counts)) ≤ length front = pulls_move_what_was_made script front c (Plain (Pulled counts)) is (omega (arith, few)) within (tells_it (Pulled counts) _ told) in
    (omega (arith, moved, few), omega (arith, moved, few))
