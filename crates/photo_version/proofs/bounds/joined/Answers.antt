use Rattle.std.proofs.Common.{rules, ◌≡◌, ◌≤◌, ◌<◌, ◌++◌, ◌∷◌, [], max, true, false, length, ap, ◌∙◌, arith}
use Rattle.photo_version.specs.Author.{author_before}
use Rattle.photo_version.proofs.JoinLemmas.{take_left, take_right, take_both, all_left, all_joined}
use Rattle.photo_version.proofs.bounds.joined.Goals as goal
use Rattle.photo_version.proofs.bounds.joined.Goals.{then-loop-i-test+else-j-others, else-loop-i-test}

pub loop-i-preserved-then-lt : goal.loop-i-preserved-then-lt
loop-i-preserved-then-lt c =
    let x = c.index-bounds-i.result in
    let y = c.index-others-j.result in
    let test : author_before x.0 y.0 ≡ true = search rules in
    let is : c.push.new.self.items ≡ c.loop-i.all.items ++ x ∷ [] = search rules in
    take_left c.args.bounds.now c.args.others.now c.loop-i.all.items _ c.loop-i.i c.loop-i.j x y c.loop-i.invariant (omega arith) (omega arith) (search rules) (search rules) test is

pub loop-i-preserved-then-lt-2 : goal.loop-i-preserved-then-lt-2
loop-i-preserved-then-lt-2 c =
    let x = c.index-bounds-i.result in
    let y = c.index-others-j.result in
    let test : author_before y.0 x.0 ≡ true = search rules in
    let is : c.push-then-lt-2.new.self.items ≡ c.loop-i.all.items ++ y ∷ [] = search rules in
    take_right c.args.bounds.now c.args.others.now c.loop-i.all.items _ c.loop-i.i c.loop-i.j x y c.loop-i.invariant (omega arith) (omega arith) (search rules) (search rules) test is

pub loop-i-preserved : goal.loop-i-preserved
loop-i-preserved c =
    let x = c.index-bounds-i.result in
    let y = c.index-others-j.result in
    let before : author_before x.0 y.0 ≡ false = search rules in
    let after : author_before y.0 x.0 ≡ false = search rules in
    let greater : c.max-in-loop-i.result ≡ max x.1 y.1 = search rules in
    let is : c.push-in-loop-i.new.self.items ≡ c.loop-i.all.items ++ (x.0, c.max-in-loop-i.result) ∷ [] = search rules in
    take_both c.args.bounds.now c.args.others.now c.loop-i.all.items _ c.loop-i.i c.loop-i.j x y c.loop-i.invariant (omega arith) (omega arith) (search rules) (search rules) before after (is ∙ ap (λ n. c.loop-i.all.items ++ (x.0, n) ∷ []) greater)

pub returns : goal.returns
returns c =
    let xs = c.args.bounds.now in
    let ys = c.args.others.now in
    let over : c.loop-i.i < length xs → length ys ≤ c.loop-i.j = λ less. elim c.loop-i-test.branch [
      | then-loop-i-test+else-j-others w ↦ omega arith
      | else-loop-i-test w ↦ omega arith
    ] in
    all_joined xs ys c.loop-i.all.items c.extend_from_slice.new.self.items _ c.loop-i.i c.loop-i.j c.loop-i.invariant over
    (c.in_ok-extend_from_slice.ensures.items ∙ ap (λ zs. c.loop-i.all.items ++ zs) (all_left xs c.loop-i.i))
    (c.in_ok-extend_from_slice-2.ensures.items ∙ ap (λ zs. c.extend_from_slice.new.self.items ++ zs) (all_left ys c.loop-i.j))
