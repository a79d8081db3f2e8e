use Rattle.std.proofs.Common.{◌≡◌, ◌++◌, ◌∷◌, [], true, false, sym, ◌∙◌, ap}
use Rattle.photo_record.specs.Word.{has_word}
use Rattle.photo_filter_rules.proofs.Sets.{union_skips, union_takes}
use Rattle.photo_filter_rules.proofs.words.both_sets.Goals as goal

pub loop-word-preserved-then-contains : goal.loop-word-preserved-then-contains
loop-word-preserved-then-contains c =
    let word = c.word-item.result in
    let has : has_word c.args.words.now.items word ≡ true = ap (λ ws. has_word ws word) (sym c.deref.ensures.value) ∙ sym c.contains.ensures.value ∙ c.if-contains.true in
    union_skips c.args.words.now.items c.loop-word.union.items c.deref-word-items.result.now c.loop-word.word-index word c.loop-word.invariant c.loop-word-test.true c.word-item.is has

pub loop-word-preserved : goal.loop-word-preserved
loop-word-preserved c =
    let word = c.word-item.result in
    let has : has_word c.args.words.now.items word ≡ false = ap (λ ws. has_word ws word) (sym c.deref.ensures.value) ∙ sym c.contains.ensures.value ∙ c.if-contains.false in
    let grown : c.push.new.self.items ≡ c.loop-word.union.items ++ word ∷ [] = c.in_ok-push.ensures.items ∙ ap (λ w. c.loop-word.union.items ++ w ∷ []) c.in_ok-try_clone.ensures in
    union_takes c.args.words.now.items c.loop-word.union.items c.push.new.self.items c.deref-word-items.result.now c.loop-word.word-index word c.loop-word.invariant c.loop-word-test.true c.word-item.is has grown
