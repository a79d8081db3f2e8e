use Rattle.std.proofs.Common.{◌≡◌, ◌∙◌, sym, ap}
use Rattle.std.specs.Prelude.{string_bytes}
use Rattle.photo_filter_text.specs.Tree.{tree_of, Both, Either}
use Rattle.photo_filter_text.proofs.Bracketed.{both_text, either_text, both_sound, either_sound}
use Rattle.photo_filter_text.proofs.printing.+push_tree.Goals as goal

pub returns-in_ok-push_tree-in-Both-2-clause-text : goal.returns-in_ok-push_tree-in-Both-2-clause-text
returns-in_ok-push_tree-in-Both-2-clause-text t c =
    let left = tree_of c.deref-in-Both.result.now in
    let right = tree_of c.deref-in-Both-2.result.now in
    let tree : tree_of c.args.tree.now ≡ Both left right = ap tree_of c.in-Both.is ∙ (λ i. Both (tree_of (sym c.deref-in-Both.ensures i)) (tree_of (sym c.deref-in-Both-2.ensures i))) in
    both_text c.push_str-in-Both.result (tree_of c.args.tree.now) left right (string_bytes c.args.text.now) (string_bytes c.push_str.new.self) (string_bytes c.push_tree-in-Both.new.text) (string_bytes c.push_tree-in-Both-2.new.text) (string_bytes c.push_str-in-Both.new.self) c.args.front.now
    tree c.in_ok-push_str.ensures.bytes c.in_ok-push_tree-in-Both.ensures.text c.in_ok-push_tree-in-Both-2.ensures.text c.push_str-in-Both.ensures.bytes

pub returns-in_ok-push_tree-in-Both-2-clause-sound : goal.returns-in_ok-push_tree-in-Both-2-clause-sound
returns-in_ok-push_tree-in-Both-2-clause-sound t c =
    let left = tree_of c.deref-in-Both.result.now in
    let right = tree_of c.deref-in-Both-2.result.now in
    let tree : tree_of c.args.tree.now ≡ Both left right = ap tree_of c.in-Both.is ∙ (λ i. Both (tree_of (sym c.deref-in-Both.ensures i)) (tree_of (sym c.deref-in-Both-2.ensures i))) in
    both_sound c.push_str-in-Both.result (tree_of c.args.tree.now) left right tree c.in_ok-push_tree-in-Both.ensures.sound c.in_ok-push_tree-in-Both-2.ensures.sound

pub returns-in_ok-push_tree-in-Either-2-clause-text : goal.returns-in_ok-push_tree-in-Either-2-clause-text
returns-in_ok-push_tree-in-Either-2-clause-text t c =
    let left = tree_of c.deref-in-Either.result.now in
    let right = tree_of c.deref-in-Either-2.result.now in
    let tree : tree_of c.args.tree.now ≡ Either left right = ap tree_of c.in-Either.is ∙ (λ i. Either (tree_of (sym c.deref-in-Either.ensures i)) (tree_of (sym c.deref-in-Either-2.ensures i))) in
    either_text c.push_str-in-Either.result (tree_of c.args.tree.now) left right (string_bytes c.args.text.now) (string_bytes c.push_str.new.self) (string_bytes c.push_tree-in-Either.new.text) (string_bytes c.push_tree-in-Either-2.new.text) (string_bytes c.push_str-in-Either.new.self) c.args.front.now
    tree c.in_ok-push_str.ensures.bytes c.in_ok-push_tree-in-Either.ensures.text c.in_ok-push_tree-in-Either-2.ensures.text c.push_str-in-Either.ensures.bytes

pub returns-in_ok-push_tree-in-Either-2-clause-sound : goal.returns-in_ok-push_tree-in-Either-2-clause-sound
returns-in_ok-push_tree-in-Either-2-clause-sound t c =
    let left = tree_of c.deref-in-Either.result.now in
    let right = tree_of c.deref-in-Either-2.result.now in
    let tree : tree_of c.args.tree.now ≡ Either left right = ap tree_of c.in-Either.is ∙ (λ i. Either (tree_of (sym c.deref-in-Either.ensures i)) (tree_of (sym c.deref-in-Either-2.ensures i))) in
    either_sound c.push_str-in-Either.result (tree_of c.args.tree.now) left right tree c.in_ok-push_tree-in-Either.ensures.sound c.in_ok-push_tree-in-Either-2.ensures.sound
