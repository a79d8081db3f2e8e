use Rattle.std.proofs.Common.{◌≡◌, ◌≤◌, length}
use Rattle.script_views.proofs.playing.play.Given as goal

abbrev pub invariant-loop-place : goal.invariant-loop-place
invariant-loop-place l = (length l.fleet.devices ≡ length l.script.names) × (l.fleet.commands ≤ l.place)
