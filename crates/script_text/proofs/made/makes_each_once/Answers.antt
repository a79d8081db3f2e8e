use Rattle.std.proofs.Common.{◌≡◌, ℕ, ◌+◌, ◌-◌, [], ◌∷◌, slice_get, Some, refl, sym, ap, ◌∙◌, arith}
use Rattle.std.proofs.lemmas.Bool.{false≢true, not-true, not-false}
use Rattle.script_text.proofs.Differing.{made-same, made-more, made-again, made-apart}
use Rattle.script_text.proofs.made.makes_each_once.Goals as goal

pub loop-i-preserved-in_default : goal.loop-i-preserved-in_default
loop-i-preserved-in_default c =
    let commands = c.args.script.now.commands in
    let i = c.loop-i.i in
    let place : i ≡ i + 1 - 1 = omega arith in
    let at : slice_get commands i ≡ Some c.command.result.now = ap (slice_get commands) place ∙ c.command.ensures.command in
    made-same commands i c.command.result.now at c.loop-i.made c.loop-i.invariant (sym c.in_default.ensures)

pub returns-then-not-branch : goal.returns-then-not-branch
returns-then-not-branch c =
    let commands = c.args.script.now.commands in
    let i = c.loop-i.i in
    let place : i ≡ i + 1 - 1 = omega arith in
    let at : slice_get commands i ≡ Some c.command.result.now = ap (slice_get commands) place ∙ c.command.ensures.command in
    let makes = sym c.in-Some.ensures ∙ ap (λ (q : ℕ). q ∷ []) (sym c.value.ensures.value) in
    let again = not-false _ (sym c.in_ok-insert.ensures.added ∙ c.if-not-branch.true) in
    (λ t. absurd (false≢true t), λ apart. absurd (made-again commands i c.command.result.now at c.loop-i.made c.value.result c.loop-i.invariant makes again apart))

pub loop-i-preserved : goal.loop-i-preserved
loop-i-preserved c =
    let commands = c.args.script.now.commands in
    let i = c.loop-i.i in
    let place : i ≡ i + 1 - 1 = omega arith in
    let at : slice_get commands i ≡ Some c.command.result.now = ap (slice_get commands) place ∙ c.command.ensures.command in
    let makes = sym c.in-Some.ensures ∙ ap (λ (q : ℕ). q ∷ []) (sym c.value.ensures.value) in
    let fresh = not-true _ (sym c.in_ok-insert.ensures.added ∙ c.if-not-branch.false) in
    made-more commands i c.command.result.now at c.loop-i.made c.insert.new.self c.value.result c.loop-i.invariant makes fresh c.in_ok-insert.ensures.updates

pub returns : goal.returns
returns c = (λ t. made-apart c.args.script.now.commands c.loop-i.i c.loop-i.made (omega arith) c.loop-i.invariant, λ apart. refl)
