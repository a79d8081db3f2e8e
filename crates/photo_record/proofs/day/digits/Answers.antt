use Rattle.std.proofs.Common.{Some, None, sym, ap, ◌∙◌, inl, inr, arith, rules, tests}
use Rattle.std.proofs.lemmas.Bool.{cond-true, cond-false}
use Rattle.std.proofs.lemmas.Iterator.{YieldsList-from_slice}
use Rattle.std.proofs.lemmas.Iterator.Search.{all_from_yields_List}
use Rattle.std.proofs.lemmas.List.{take_all}
use Rattle.std.specs.Char.{is_ascii_digit}
use Rattle.std.specs.Str.Parse.{digits_value}
use Rattle.photo_record.specs.Reading.{is_number, number}
use Rattle.photo_record.proofs.DayLemmas.{digit_range, value_more, value_short, no_number, a_number}
use Rattle.photo_record.proofs.day.digits.Goals as goal
use Rattle.photo_record.proofs.day.digits.Goals.{then-is_empty-via-then-is_empty, then-is_empty-via-else-is_empty+then-not-all}

pub returns-then-is_empty : goal.returns-then-is_empty
returns-then-is_empty c =
    sym (cond-false (is_number c.args.text.now) (Some (number c.args.text.now)) None
    (no_number c.args.text.now (elim c.then-is_empty.branch [
      | then-is_empty-via-then-is_empty w ↦ inl (sym c.is_empty.ensures ∙ w.if-is_empty.true)
      | then-is_empty-via-else-is_empty+then-not-all w ↦
          let all = all_from_yields_List is_ascii_digit _ _ w.all.result w.all.ensures.ran (YieldsList-from_slice c.args.text.now w.iter.ensures.rest) (λ x b q k. search (rules, tests)) in
          inr (sym all ∙ w.if-not-all.true)
    ])))

pub overflow_mul-value : goal.overflow_mul-value
overflow_mul-value c =
    let all = all_from_yields_List is_ascii_digit _ _ c.all.result c.all.ensures.ran (YieldsList-from_slice c.args.text.now c.iter.ensures.rest) (λ x b q k. search (rules, tests)) in
    let digits = (a_number c.args.text.now (sym c.is_empty.ensures ∙ c.if-is_empty.false) (sym all ∙ c.if-not-all.false)).1 in
    omega (arith, value_short c.args.text.now c.loop-digit.digit-index digits c.loop-digit-test.true c.requires, c.loop-digit.invariant)

pub overflow_add-value : goal.overflow_add-value
overflow_add-value c =
    let all = all_from_yields_List is_ascii_digit _ _ c.all.result c.all.ensures.ran (YieldsList-from_slice c.args.text.now c.iter.ensures.rest) (λ x b q k. search (rules, tests)) in
    let digits = (a_number c.args.text.now (sym c.is_empty.ensures ∙ c.if-is_empty.false) (sym all ∙ c.if-not-all.false)).1 in
    omega (
      arith,
      value_short c.args.text.now c.loop-digit.digit-index digits c.loop-digit-test.true c.requires,
      c.loop-digit.invariant,
      digit_range c.args.text.now c.loop-digit.digit-index digits c.loop-digit-test.true,
      c.from.ensures,
    )

pub loop-digit-preserved : goal.loop-digit-preserved
loop-digit-preserved c =
    let all = all_from_yields_List is_ascii_digit _ _ c.all.result c.all.ensures.ran (YieldsList-from_slice c.args.text.now c.iter.ensures.rest) (λ x b q k. search (rules, tests)) in
    let digits = (a_number c.args.text.now (sym c.is_empty.ensures ∙ c.if-is_empty.false) (sym all ∙ c.if-not-all.false)).1 in
    omega (arith, value_more c.args.text.now c.loop-digit.digit-index digits c.loop-digit-test.true, c.loop-digit.invariant, c.from.ensures)

pub returns : goal.returns
returns c =
    let all = all_from_yields_List is_ascii_digit _ _ c.all.result c.all.ensures.ran (YieldsList-from_slice c.args.text.now c.iter.ensures.rest) (λ x b q k. search (rules, tests)) in
    let is = (a_number c.args.text.now (sym c.is_empty.ensures ∙ c.if-is_empty.false) (sym all ∙ c.if-not-all.false)).0 in
    ap (λ n. Some n) (c.loop-digit.invariant ∙ ap (digits_value 10) (take_all c.loop-digit.digit-index c.args.text.now (omega arith)))
    ∙ sym (cond-true (is_number c.args.text.now) (Some (number c.args.text.now)) None is)
