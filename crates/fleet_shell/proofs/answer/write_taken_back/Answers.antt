use Rattle.std.proofs.KnownBytes.{Appends-trans}
use Rattle.std.proofs.lemmas.Result.{on_ok_weaker}
use Rattle.fleet_shell.proofs.answer.write_taken_back.Goals as goal

pub returns : goal.returns
returns g c =
    on_ok_weaker c.write_all-3.result
    (λ last. Appends-trans _ _ _ _ _ c.in_ok-write_all.ensures.bytes (Appends-trans _ _ _ _ _ c.in_ok-write_all-2.ensures.bytes last))
    c.write_all-3.ensures.bytes
