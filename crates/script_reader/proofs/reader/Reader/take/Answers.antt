use Rattle.std.proofs.Common.{Some, Ok, refl, ◌∙◌}
use Rattle.script_reader.proofs.Commands.{last-taken, reads-memory}
use Rattle.script_reader.proofs.reader.Reader.take.Goals as goal

pub returns-in_err-push : goal.returns-in_err-push
returns-in_err-push c =
    λ before fields filter lacks same.
    reads-memory before _ fields filter (Ok (Some c.args.command)) c.from_residual.result c.from_residual.ensures.1 (c.in_err-push.ensures.err ∙ same.0, same.1)

pub returns : goal.returns
returns c =
    λ before fields filter lacks same.
    let old = c.args.self.now in
    (Some c.args.command, refl, last-taken before old (record old { script = c.push.new.self }) fields filter c.args.command lacks c.in_ok-push.ensures.ok refl)
