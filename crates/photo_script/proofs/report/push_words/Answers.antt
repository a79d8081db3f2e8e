use Rattle.std.proofs.Common.{◌≡◌, ◌≢◌, ◌∷◌, ◌++◌, [], take, codes, string_bytes, sym, ap, ◌∙◌, append_assoc, arith}
use Rattle.std.specs.List.{join_with_byte}
use Rattle.std.proofs.lemmas.Bool.{false≢true}
use Rattle.photo_script.proofs.Joined.{join-first, join-turn, join-all}
use Rattle.photo_script.proofs.report.push_words.Goals as goal

pub loop-i-preserved : goal.loop-i-preserved
loop-i-preserved c =
    let old = string_bytes c.args.text.now in
    let front = join_with_byte 44 (take c.loop-i.i c.args.words.now) in
    let word = c.text-in-loop-i.result.now in
    let written = c.in_ok-push_str-4.ensures.bytes ∙ ap (λ t. t ++ word) (c.in_ok-push_str-3.ensures.bytes ∙ ap (λ t. t ++ codes ",") c.loop-i.invariant) in
    let regrouped : ((old ++ front) ++ codes ",") ++ word ≡ old ++ (front ++ (44 ∷ word)) = simp append_assoc in
    let more = join-turn c.args.words.now c.loop-i.i _ (omega arith) c.get-in-loop-i.ensures in
    written ∙ regrouped ∙ ap (λ w. old ++ (front ++ (44 ∷ w))) c.text-in-loop-i.ensures.text ∙ ap (λ t. old ++ t) (sym more)

pub loop-i-init : goal.loop-i-init
loop-i-init c = c.in_ok-push_str-2.ensures.bytes ∙ ap (λ w. string_bytes c.args.text.now ++ w) (c.text.ensures.text ∙ join-first c.args.words.now _ c.get.ensures)

pub returns : goal.returns
returns c =
    let full : c.args.words.now ≢ [] = λ e. false≢true (c.if-is_empty.ensures.1 e) in
    c.loop-i.invariant ∙ ap (λ t. string_bytes c.args.text.now ++ t) (join-all c.args.words.now c.loop-i.i full (omega arith))
