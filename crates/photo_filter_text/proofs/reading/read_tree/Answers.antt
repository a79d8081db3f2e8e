use Rattle.std.proofs.Common.{refl, sym, ap, ◌∙◌, option_map}
use Rattle.photo_filter_text.specs.Tokens.{tokens_of}
use Rattle.photo_filter_text.specs.Tree.{tree_of}
use Rattle.photo_filter_text.specs.Steps.{state_of}
use Rattle.photo_filter_text.proofs.Complete.{expr-read, tree_read}
use Rattle.photo_filter_text.proofs.Sound.{read-expr}
use Rattle.photo_filter_text.proofs.Faults.{run-begins}
use Rattle.photo_filter_text.proofs.Memory.{wants-at_end}
use Rattle.photo_filter_text.proofs.reading.read_tree.Goals as goal

pub returns-in-Ok-Some-clause-tree : goal.returns-in-Ok-Some-clause-tree
returns-in-Ok-Some-clause-tree c =
    read-expr (tokens_of c.args.text.now) (state_of c.in_ok-reader.reader) _ c.in_ok-reader.ensures.taken (sym c.in-Ok-Some.ensures.tree ∙ ap (option_map tree_of) c.in-Ok-Some.field-0-is)

pub returns-in-Ok-None-clause-fault : goal.returns-in-Ok-None-clause-fault
returns-in-Ok-None-clause-fault c =
    let ts = tokens_of c.args.text.now in
    let s = state_of c.in_ok-reader.reader in (
      c.requires,
      run-begins ts s c.in_ok-reader.ensures.taken,
      λ tree e.
          let p = expr-read e in
          let q = ap tree_read c.in_ok-reader.ensures.taken in
          let r = sym c.in-Ok-None.ensures.tree ∙ ap (option_map tree_of) c.in-Ok-None.field-0-is in
          cc,
    )

pub returns-in-Err-clause-fault : goal.returns-in-Err-clause-fault
returns-in-Err-clause-fault c =
    (c.requires, wants-at_end (tokens_of c.args.text.now) (state_of c.in_ok-reader.reader) c.in_ok-reader.ensures.taken (c.in-Err.ensures.memory refl))
