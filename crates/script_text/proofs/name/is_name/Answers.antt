use Rattle.std.proofs.Common.{◌≡◌, length, Bool, true, ◌&&◌, sym, ap, ◌∙◌, rules, tests}
use Rattle.std.proofs.lemmas.Iterator.{YieldsList-from_slice}
use Rattle.std.proofs.lemmas.Iterator.Search.{all_from_yields_List}
use Rattle.std.proofs.lemmas.Bool.{lt-ltb}
use Rattle.script_reader.specs.Fields.{is_name_character, is_name}
use Rattle.script_text.proofs.name.is_name.Goals as goal

both_true : (a b x : Bool) → a ≡ true → b ≡ true → (a && (b && x)) ≡ x
both_true a b x p q = rw (p, q)

pub returns : goal.returns
returns c =
    let others = c.in-Some.others.now in
    let e = all_from_yields_List is_name_character _ _ c.all.result c.all.ensures.ran (YieldsList-from_slice others (cc)) (λ x b q k. search (rules, tests)) in
    let text = sym c.as_bytes.ensures.value ∙ c.in-Some.ensures.cases.0 in
    e ∙ sym (ap is_name text ∙ both_true _ _ _ (sym c.if-not-is_ascii_lowercase.ensures.value) (lt-ltb (length others) 16 c.if-others-ge-MAX_NAME_CHARACTERS.false))
