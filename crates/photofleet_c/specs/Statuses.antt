-- The statuses of calls.
use Rattle.std.specs.Prelude.{◌≡◌, ◌⊎◌, ℕ}
use Rattle.live_script.specs.declared.refusal.Refusal.{Refusal}
use Rattle.live_script.specs.declared.refusal.Refusal.TheVariants.{Script, NoMemory}

-- of a call on a whole script: done, no script, no memory, or no room
abbrev pub IsPlainStatus : ℕ → Type 0
IsPlainStatus n = (n ≡ 0) ⊎ ((n ≡ 3) ⊎ ((n ≡ 4) ⊎ (n ≡ 5)))

-- of a call that opens a session: done, open already, no script, or no memory
abbrev pub IsOpeningStatus : ℕ → Type 0
IsOpeningStatus n = (n ≡ 0) ⊎ ((n ≡ 2) ⊎ ((n ≡ 3) ⊎ (n ≡ 4)))

-- of a call with a line: done, closed, no script, no memory, or no room
abbrev pub IsLineStatus : ℕ → Type 0
IsLineStatus n = (n ≡ 0) ⊎ ((n ≡ 2) ⊎ ((n ≡ 3) ⊎ ((n ≡ 4) ⊎ (n ≡ 5))))

-- of a call that closes a session: done, or closed already
abbrev pub IsClosingStatus : ℕ → Type 0
IsClosingStatus n = (n ≡ 0) ⊎ (n ≡ 2)

-- of a refusal
abbrev pub status_of : Refusal → ℕ
status_of (Script fault) = 3
status_of NoMemory = 4
