use Rattle.std.proofs.Common.{rules, ◌≡◌, true, false, sym, arith}
use Rattle.photo_version.specs.Author.{author_before}
use Rattle.photo_version.proofs.JoinLemmas.{pass_right, pass_both, missing_end, missing_author, missing_number}
use Rattle.photo_version.proofs.bounds.is_within.Goals as goal

pub returns-then-j-others : goal.returns-then-j-others
returns-then-j-others c =
    sym (missing_end c.args.bounds.now c.args.others.now c.loop-i.i c.loop-i.j c.loop-i.invariant (omega arith) (omega arith))

pub loop-i-preserved-then-lt : goal.loop-i-preserved-then-lt
loop-i-preserved-then-lt c =
    let x = c.index-bounds-i.result in
    let y = c.index-others-j.result in
    let test : author_before y.0 x.0 ≡ true = search rules in
    pass_right c.args.bounds.now c.args.others.now c.loop-i.i c.loop-i.j x y c.loop-i.invariant (omega arith) (omega arith) (search rules) (search rules) test

pub returns-then-lt-2 : goal.returns-then-lt-2
returns-then-lt-2 c =
    let x = c.index-bounds-i.result in
    let y = c.index-others-j.result in
    let test : author_before x.0 y.0 ≡ true = search rules in
    sym (missing_author c.args.bounds.now c.args.others.now c.loop-i.i c.loop-i.j x y c.loop-i.invariant (omega arith) (omega arith) (search rules) (search rules) test)

pub returns-then-y-x : goal.returns-then-y-x
returns-then-y-x c =
    let x = c.index-bounds-i.result in
    let y = c.index-others-j.result in
    let after : author_before y.0 x.0 ≡ false = search rules in
    let before : author_before x.0 y.0 ≡ false = search rules in
    sym (missing_number c.args.bounds.now c.args.others.now c.loop-i.i c.loop-i.j x y c.loop-i.invariant (omega arith) (omega arith) (search rules) (search rules) before after (search rules))

pub loop-i-preserved : goal.loop-i-preserved
loop-i-preserved c =
    let x = c.index-bounds-i.result in
    let y = c.index-others-j.result in
    let after : author_before y.0 x.0 ≡ false = search rules in
    let before : author_before x.0 y.0 ≡ false = search rules in
    pass_both c.args.bounds.now c.args.others.now c.loop-i.i c.loop-i.j x y c.loop-i.invariant (omega arith) (omega arith) (search rules) (search rules) before after (search rules)
