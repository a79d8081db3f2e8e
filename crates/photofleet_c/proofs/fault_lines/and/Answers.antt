use Rattle.std.proofs.Common.{◌≡◌, ◌++◌, ℕ, List, length, length-append, refl, ap, ◌∙◌, arith}
use Rattle.std.proofs.lemmas.Bool.{le-leb}
use Rattle.std.specs.Fmt.InlineText.{inline_text}
use Rattle.std.specs.Fmt.Cut.{cut_to}
use Rattle.photofleet_c.proofs.fault_lines.and.Goals as goal

-- a text that has room is not cut
whole : (text : List ℕ) → cut_to (length text) text ≡ text
unfolding cut_to
whole text = rw (le-leb (length text) (length text) (omega arith)) refl

pub returns-clause-text : goal.returns-clause-text
returns-clause-text c = c.and_str.ensures.within c.requires ∙ ap (λ t. inline_text c.args.text ++ t) (whole c.args.part.now)

pub returns-clause-length : goal.returns-clause-length
returns-clause-length c =
    ap length (c.and_str.ensures.within c.requires ∙ ap (λ t. inline_text c.args.text ++ t) (whole c.args.part.now))
    ∙ length-append (inline_text c.args.text) c.args.part.now
