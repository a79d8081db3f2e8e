-- Machinery of the proofs: codes a script as the tuple of its parts, so that equality of scripts can be decided.
use Rattle.std.specs.Prelude.{ℕ, List, refl}
use Rattle.std.specs.Coded.{Coded, code_by, coded×, coded_ℕ, coded_list}
use Rattle.photo_filter_text.specs.Tree.{Tree}
use Rattle.photo_filter_rules.specs.Coding.{tree_code}
use Rattle.fleet_model.specs.declared.command.Command.{Command}
use Rattle.fleet_model.specs.contracts.command.Command as command
use Rattle.fleet_model.specs.Contents.{Contents, contents}

abbrev pub contents_code : Coded Contents
contents_code =
    code_by (List (List ℕ) × (List Tree × List Command))
    (coded× (coded_list (coded_list coded_ℕ)) (coded× (coded_list tree_code) (coded_list command.the_row.coded)))
    (λ c. (c.names, (c.filters, c.commands)))
    (λ p. contents p.0 p.1.0 p.1.1)
    (λ _. refl)
