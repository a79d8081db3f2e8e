-- The text of a plan.
use Rattle.std.specs.Prelude.{ℕ, zero, suc, ◌+◌, List, ◌++◌, length, Option, Some, None, codes}
use Rattle.std.specs.Fmt.{decimal}
use Rattle.photo_batcher.specs.Plans.{Planned, batch_in, after_in}

-- the number of a command, or a dash where there is none
abbrev pub after_text : Option ℕ → List ℕ
after_text None = codes "-"
after_text (Some number) = decimal number

-- the line of a command
abbrev pub command_line : Planned → ℕ → List ℕ
command_line p number = decimal number ++ codes " batch " ++ decimal (batch_in p number) ++ codes " after " ++ after_text (after_in p number) ++ codes "\n"

-- the last line
abbrev pub count_line : Planned → List ℕ
count_line p = codes "batches " ++ decimal (length p.members) ++ codes "\n"

-- the lines of that many commands, from a number on, and then the last line
abbrev pub lines_from : Planned → ℕ → ℕ → List ℕ
lines_from p number zero = count_line p
lines_from p number (suc left) = command_line p number ++ lines_from p (number + 1) left

-- a line for each command of the plan, in the order of their numbers, and then the last line
abbrev pub plan_text : Planned → List ℕ
plan_text p = lines_from p 1 (length p.batches)
