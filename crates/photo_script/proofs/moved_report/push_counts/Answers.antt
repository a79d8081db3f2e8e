use Rattle.std.proofs.Common.{◌≡◌, ◌++◌, List, ℕ, string_bytes, codes, ap, ◌∙◌, append_assoc}
use Rattle.std.specs.Fmt.{decimal}
use Rattle.photo_script.specs.Reports.{yes_or_no}
use Rattle.photo_script.proofs.moved_report.push_counts.Goals as goal

-- the text after all pieces are appended in turn
written : (old x1 x2 x3 x4 x5 x6 x7 new word a b c d e f g h i j k : List ℕ) → x1 ≡ old ++ word → x2 ≡ x1 ++ a ++ b → x3 ≡ x2 ++ c ++ d → x4 ≡ x3 ++ e ++ f
    → x5 ≡ x4 ++ g ++ h → x6 ≡ x5 ++ i → x7 ≡ x6 ++ j → new ≡ x7 ++ k → new ≡ old ++ (word ++ a ++ b ++ c ++ d ++ e ++ f ++ g ++ h ++ i ++ j ++ k)
written old x1 x2 x3 x4 x5 x6 x7 new word a b c d e f g h i j k e1 e2 e3 e4 e5 e6 e7 e8 = rw (e8, e7, e6, e5, e4, e3, e2, e1) (simp append_assoc)

pub returns : goal.returns
returns c =
    let counts = c.args.counts.now in
    let learned = c.in_ok-push_str-3.ensures.bytes ∙ ap (λ t. string_bytes c.push_str-2.new.self ++ t) c.yes_or_no.ensures in
    written (string_bytes c.args.text.now) _ _ _ _ _ _ _ _ c.args.word.now (codes "taken ") (decimal counts.taken) (codes " handed ") (decimal counts.handed)
    (codes " notices ") (decimal counts.notices) (codes " dropped ") (decimal counts.dropped) (codes " learned ") (yes_or_no counts.learned) (codes "\n")
    c.in_ok-push_str.ensures.bytes c.in_ok-push_count.ensures c.in_ok-push_count-2.ensures c.in_ok-push_count-3.ensures c.in_ok-push_count-4.ensures c.in_ok-push_str-2.ensures.bytes learned c.in_ok-push_str-4.ensures.bytes
