use Rattle.std.proofs.Common.{ap, ◌∙◌, refl}
use Rattle.std.specs.Str.{is_utf8}
use Rattle.std.specs.Str.Lines.{strip_carriage_return}
use Rattle.std.proofs.lemmas.Bool.{false_from_ne_true}
use Rattle.std.proofs.lemmas.Str.{is_utf8-from_IsUtf8, IsUtf8-from_is_utf8}
use Rattle.script_reader.specs.Lines.{fields_of}
use Rattle.fleet_shell.specs.Kinds.{kind_of_fields}
use Rattle.fleet_shell.proofs.kind.kind_of.Goals as goal

pub returns-in-Ok : goal.returns-in-Ok
returns-in-Ok c =
    rw (is_utf8-from_IsUtf8 c.args.line.now c.in-Ok.ensures.cases.1)
    (c.kind_of_text.ensures ∙ ap (λ t. kind_of_fields (fields_of t)) (c.without_return.ensures ∙ ap strip_carriage_return c.in-Ok.ensures.cases.0))

pub returns-in-Err : goal.returns-in-Err
returns-in-Err c = rw (false_from_ne_true (is_utf8 c.args.line.now) (λ t. c.in-Err.ensures.cases.0 (IsUtf8-from_is_utf8 c.args.line.now t))) refl
