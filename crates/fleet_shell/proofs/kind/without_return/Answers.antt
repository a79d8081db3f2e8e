use Rattle.std.proofs.Common.{ap, ◌∙◌, lit<}
use Rattle.std.proofs.lemmas.Str.Pattern.{strip_suffix_char}
use Rattle.fleet_shell.proofs.Returns.{strip-from_suffix}
use Rattle.fleet_shell.proofs.kind.without_return.Goals as goal

pub returns : goal.returns
returns c = ap (λ x. x.now) c.unwrap_or.ensures ∙ strip-from_suffix c.args.line c.strip_suffix.result (strip_suffix_char 13 c.args.line.now c.strip_suffix.result c.strip_suffix.ensures.cases (lit< tt))
