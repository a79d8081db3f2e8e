use Rattle.std.proofs.Common.{◌≡◌, ◌<◌, ◌+◌, ◌++◌, true≢false, List, ℕ, length, take, drop, set, slice_index_or, refl, subst, subst₂, sym, ◌∙◌, ap, arith}
use Rattle.photo_batcher.specs.Related.{IsNumber}
use Rattle.photo_batcher.specs.Orders.{KeepsOrder}
use Rattle.photo_batcher.specs.Steps.{IsAbove, IsCheckedTo, with_place}
use Rattle.photo_batcher.proofs.Checked.{lawful_long, lawful_from, checked_more, out_of_order, at_place, written_back, taken_more, taken_all}
use Rattle.photo_batcher.proofs.order.lawful.Goals as goal

pub returns-then-order-commands : goal.returns-then-order-commands
returns-then-order-commands c =
    let script = c.args.script.now in
    let order = c.args.order.now in
    (λ e. absurd (true≢false (sym e)), λ l. let long = lawful_long script order l in let count = c.commands.ensures.count in absurd (omega (arith, c.if-order-commands.true)))

pub returns-then-not-is_above : goal.returns-then-not-is_above
returns-then-not-is_above c =
    let script = c.args.script.now in
    let order = c.args.order.now in
    let i = c.loop-number.number-index in
    let items = c.loop-number.last.items in
    let n = slice_index_or order i 0 in
    let p = c.places_at-first in
    let inside : i < length order = c.loop-number-test.true in
    let number : IsNumber script n = (omega (arith, c.if-number-eq0.false), omega (arith, c.if-number-commands.false)) in
    let not : IsAbove items n p.result.0 p.result.1 → ⊥ = λ h. true≢false (sym (c.is_above.ensures.1 (subst (λ (l : List ℕ). IsAbove l n p.result.0 p.result.1) (sym c.as_slice.ensures.value) h)) ∙ c.if-not-is_above.true) in
    (λ e. absurd (true≢false (sym e)), λ l. absurd (out_of_order script (take i order) items (drop (i + 1) order) n p.result.0 p.result.1 c.loop-number.invariant p.ensures not number (subst (KeepsOrder script) (at_place order i inside) l.in_order)))

pub loop-number-preserved : goal.loop-number-preserved
loop-number-preserved c =
    let script = c.args.script.now in
    let order = c.args.order.now in
    let i = c.loop-number.number-index in
    let last = c.loop-number.last in
    let items = last.items in
    let n = slice_index_or order i 0 in
    let p = c.places_at-first in
    let new = c.note.new.last in
    let given = c.as_mut_slice.ensures in
    let inside : i < length order = c.loop-number-test.true in
    let number : IsNumber script n = (omega (arith, c.if-number-eq0.false), omega (arith, c.if-number-commands.false)) in
    let above : IsAbove items n p.result.0 p.result.1 = subst (λ (l : List ℕ). IsAbove l n p.result.0 p.result.1) c.as_slice.ensures.value (c.is_above.ensures.0 c.if-not-is_above.false) in
    let same : length new ≡ length items = c.note.auto.last ∙ ap length given.value in
    let whole : take last.len (new ++ drop (length new) items) ≡ new = written_back new items last.len same (sym given.len ∙ ap length given.value) in
    let noted : new ≡ with_place p.result.1 n (set items p.result.0 n) = c.note.ensures ∙ ap (λ (l : List ℕ). with_place p.result.1 n (set l p.result.0 n)) given.value in
    subst₂ (IsCheckedTo script) (sym (taken_more order i inside)) (sym (whole ∙ noted)) (checked_more script (take i order) items n p.result.0 p.result.1 number c.loop-number.invariant p.ensures above)

pub returns : goal.returns
returns c =
    let script = c.args.script.now in
    let order = c.args.order.now in
    let i = c.loop-number.number-index in
    let all : take i order ≡ order = taken_all order i c.loop-number-test.false in
    let count = c.commands.ensures.count in
    let checked : IsCheckedTo script order c.loop-number.last.items = subst (λ (l : List ℕ). IsCheckedTo script l c.loop-number.last.items) all c.loop-number.invariant in
    (λ e. lawful_from script order checked.numbers checked.in_order (c.if-order-commands.false ∙ count), λ l. refl)
