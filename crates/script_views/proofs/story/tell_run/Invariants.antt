use Rattle.std.proofs.Common.{◌≡◌, ◌≤◌, length}
use Rattle.script_views.proofs.story.tell_run.Given as goal

abbrev pub invariant-loop-place : goal.invariant-loop-place
invariant-loop-place l = (length l.fleet.devices ≡ length l.script.names) × (l.fleet.commands ≤ l.place)
