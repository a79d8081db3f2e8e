-- Exit statuses of the programs.
use Rattle.std.specs.Prelude.{ℕ, Bool, ◌||◌, ◌==◌, Result, Ok, Err}
use Rattle.run_error.specs.declared.error.RunError.{RunError}
use Rattle.run_error.specs.declared.error.RunError.TheVariants.{NoMemory, NoWorker, NotLawful, Script, Write}

-- 0: done; 2: bad words; 3: no script; 4: what was asked for is incomplete; 5: the output couldn't all be written
abbrev pub is_status : ℕ → Bool
is_status n = (n == 0) || ((n == 2) || ((n == 3) || ((n == 4) || (n == 5))))

-- the status of what was done
abbrev pub status_of : {A : Type 0} → Result A RunError → ℕ
status_of (Ok done) = 0
status_of (Err (Script fault)) = 3
status_of (Err NoMemory) = 4
status_of (Err NoWorker) = 4
status_of (Err NotLawful) = 4
status_of (Err Write) = 5
