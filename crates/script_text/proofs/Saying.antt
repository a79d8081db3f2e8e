-- What the fields of a printed line say.
use Rattle.std.proofs.Common.{◌≡◌, ◌≢◌, ℕ, ℤ, ◌<◌, ◌≤◌, Bool, true, false, eqb, List, [], ◌∷◌, ◌++◌, length, Some, None, Ok, codes, refl, sym, ap, subst, ◌∙◌, append_assoc, arith}
use Rattle.std.specs.Fmt.{decimal}
use Rattle.std.specs.List.{All, AllByRecursion, list_any, before_first, after_first}
use Rattle.std.specs.Str.{IsUtf8}
use Rattle.std.proofs.lemmas.Bool.{cond-true, cond-false, eqb-true, eqb-false}
use Rattle.std.proofs.lemmas.List.{append-nil}
use Rattle.std.proofs.lemmas.List.Elements.{All-append, All-cons, All-nil, recursion_from_All}
use Rattle.std.proofs.lemmas.List.Folds.{list_any_none}
use Rattle.photo_record.specs.Limits.{max_rating, IsDay, IsPicNo}
use Rattle.photo_record.specs.Word.{IsWord}
use Rattle.photo_record.specs.declared.record.Record.TheVariants as content
use Rattle.photo_filter_text.specs.Printed.{date_text}
use Rattle.photo_filter_text.proofs.Digits.{date-read}
use Rattle.photo_version.specs.Author.{Author, author_at, device_of_author, epoch_of_author}
use Rattle.photo_version.specs.Version.{Version, version}
use Rattle.photo_version.proofs.AuthorLemmas.{parts_back}
use Rattle.fleet_model.specs.Contents.{Contents}
use Rattle.script_reader.specs.Earlier.{Earlier}
use Rattle.script_reader.specs.Limits.{max_version, max_epoch}
use Rattle.script_reader.specs.Fields.{is_name, place_of, is_colon, is_dot, cut_at_dot}
use Rattle.photo_record.specs.Showing.{words_text}
use Rattle.photo_version.specs.Showing.{epoch_text}
use Rattle.photo_script.specs.Reports.{name_of, author_text, version_text}
use Rattle.script_reader.specs.Saying.{or_fault, device_said, picture_said, new_picture_said, record_said, author_said, version_said}
use Rattle.script_reader.specs.declared.fault.LineFault.TheVariants as fault
use Rattle.script_text.specs.Printable.{AllDiffer, FitsVersion, AreWords}
use Rattle.script_text.proofs.Bytes.{is_from, from-append, none-is, from-cons}
use Rattle.script_text.proofs.Cuts.{IsField, cut-there, some-append}
use Rattle.script_text.proofs.Digits.{decimal-none, decimal-field, picture-read, epoch-read, version_number-read, rating-read}
use Rattle.script_text.proofs.Wording.{IsSpelt, words-read}
use Rattle.script_text.proofs.NameBytes.{name-from, name-no_colon, name-field, placed}

-- Records

spelt : (words : List (List ℕ)) → AllByRecursion IsWord words → AllByRecursion IsUtf8 words → AllByRecursion IsSpelt words
spelt [] h g = tt
spelt (w ∷ ws) h g = ((h.0, g.0), spelt ws h.1 g.1)

pub are-spelt : (words : List (List ℕ)) → AreWords words → AllByRecursion IsSpelt words
are-spelt words h = spelt words (recursion_from_All IsWord words h.0.each) h.1

pub record-said : (rating : ℕ) (day : ℤ) (words : List (List ℕ)) → rating ≤ max_rating → IsDay day → AreWords words → words ≢ (codes "-" ∷ []) → record_said (decimal rating) (date_text day) (words_text words) ≡ Ok (content.Picture rating day words)
unfolding record_said
record-said rating day words stars date set other =
    rw (rating-read rating stars, date-read day date, words-read words (are-spelt words set) set.0.rising set.0.few other)

-- Pictures

pub picture-said : (n : ℕ) → IsPicNo n → Ok n ≡ picture_said (decimal n)
unfolding picture_said
picture-said n h = sym (ap (λ o. or_fault o fault.BadNumber) (picture-read n h))

pub new_picture-said : (before : Earlier) (n : ℕ) → IsPicNo n → before.makes n ≡ false → Ok n ≡ new_picture_said before (decimal n)
unfolding new_picture_said
new_picture-said before n h fresh = rw (picture-read n h, fresh)

-- Devices

pub device-said : (s : Contents) (before : Earlier) → AllDiffer s.names → before.names ≡ s.names → (device : ℕ) → device < length s.names → Ok device ≡ device_said before (name_of s device)
unfolding device_said
device-said s before apart same device within =
    sym (ap (λ o. or_fault o fault.UnknownDevice) (ap (λ names. place_of names (name_of s device)) same ∙ placed s.names apart device within))

-- Versions

no-dot : (name : List ℕ) → is_name name ≡ true → All (λ b. is_dot b ≡ false) name
no-dot name h = none-is 46 48 name (omega arith) (name-from name h)

uncut : (name : List ℕ) → is_name name ≡ true → cut_at_dot name ≡ None
uncut name h = cond-false (list_any is_dot name) (Some (before_first is_dot name, after_first is_dot name)) None (list_any_none is_dot name (no-dot name h))

author-first : (before : Earlier) (name : List ℕ) (device : ℕ) → is_name name ≡ true → Ok device ≡ device_said before name → author_said before (name ++ []) ≡ Ok (author_at device 0)
unfolding author_said
author-first before name device good known = rw (append-nil name, uncut name good, ← known)

author-later : (before : Earlier) (name : List ℕ) (device epoch : ℕ) → is_name name ≡ true → Ok device ≡ device_said before name → 0 < epoch → epoch ≤ max_epoch → author_said before (name ++ (codes "." ++ decimal epoch)) ≡ Ok (author_at device epoch)
unfolding author_said
author-later before name device epoch good known later few =
    rw (cut-there is_dot name 46 (decimal epoch) (no-dot name good) refl, ← known, epoch-read epoch later few)

parts-said : (before : Earlier) (front : List ℕ) (number : ℕ) (a : Author) → All (λ b. is_colon b ≡ false) front → author_said before front ≡ Ok a → 0 < number → number ≤ max_version → version_said before (front ++ 58 ∷ decimal number) ≡ Ok (version a number)
unfolding version_said
parts-said before front number a none said first few = rw (cut-there is_colon front 58 (decimal number) none refl, said, version_number-read number first few)

first-text : (epoch : ℕ) → eqb epoch 0 ≡ true → epoch_text epoch ≡ []
first-text epoch e = cond-true (eqb epoch 0) [] (codes "." ++ decimal epoch) e

later-text : (epoch : ℕ) → eqb epoch 0 ≡ false → epoch_text epoch ≡ codes "." ++ decimal epoch
later-text epoch e = cond-false (eqb epoch 0) [] (codes "." ++ decimal epoch) e

author-said : (before : Earlier) (name : List ℕ) (device epoch : ℕ) → is_name name ≡ true → Ok device ≡ device_said before name → epoch ≤ max_epoch → author_said before (name ++ epoch_text epoch) ≡ Ok (author_at device epoch)
author-said before name device epoch good known few = by (eqb epoch 0) refl
  where
    by : (first : Bool) → eqb epoch 0 ≡ first → author_said before (name ++ epoch_text epoch) ≡ Ok (author_at device epoch)
    by true e =
        ap (λ t. author_said before (name ++ t)) (first-text epoch e) ∙ author-first before name device good known
        ∙ ap (λ n. Ok (author_at device n)) (sym (eqb-true epoch 0 e))
    by false e =
        let other : epoch ≢ 0 = eqb-false epoch 0 e in
        ap (λ t. author_said before (name ++ t)) (later-text epoch e) ∙ author-later before name device epoch good known (omega arith) few

epoch-no_colon : (epoch : ℕ) → epoch ≤ max_epoch → All (λ b. is_colon b ≡ false) (epoch_text epoch)
epoch-no_colon epoch few = by (eqb epoch 0) refl
  where
    by : (first : Bool) → eqb epoch 0 ≡ first → All (λ b. is_colon b ≡ false) (epoch_text epoch)
    by true e = subst (All (λ b. is_colon b ≡ false)) (sym (first-text epoch e)) (All-nil (λ b. is_colon b ≡ false))
    by false e = subst (All (λ b. is_colon b ≡ false)) (sym (later-text epoch e)) (All-cons (λ b. is_colon b ≡ false) 46 (decimal epoch) refl (decimal-none 58 epoch (omega arith) (omega arith)))

no-colon : (name : List ℕ) (epoch : ℕ) → is_name name ≡ true → epoch ≤ max_epoch → All (λ b. is_colon b ≡ false) (name ++ epoch_text epoch)
no-colon name epoch good few = All-append (λ b. is_colon b ≡ false) name (epoch_text epoch) (name-no_colon name good) (epoch-no_colon epoch few)

-- a version's text is its author, a colon and its number
cut-version : (s : Contents) (v : Version) → version_text s v ≡ author_text s v.author ++ 58 ∷ decimal v.number
cut-version s v = append_assoc (author_text s v.author) (58 ∷ []) (decimal v.number)

pub version-said : (s : Contents) (before : Earlier) (v : Version) → is_name (name_of s (device_of_author v.author)) ≡ true → Ok (device_of_author v.author) ≡ device_said before (name_of s (device_of_author v.author)) → FitsVersion s v → version_said before (version_text s v) ≡ Ok v
version-said s before v good known fits =
    let author = v.author in
    let device = device_of_author author in
    let epoch = epoch_of_author author in
    ap (version_said before) (cut-version s v)
    ∙ parts-said before (author_text s author) v.number (author_at device epoch) (no-colon (name_of s device) epoch good fits.early)
    (author-said before (name_of s device) device epoch good known fits.early) fits.first fits.few
    ∙ ap (λ (a : Author). Ok (version a v.number)) (parts_back author)

epoch-from : (epoch : ℕ) → epoch ≤ max_epoch → is_from 33 (epoch_text epoch) ≡ true
epoch-from epoch few = by (eqb epoch 0) refl
  where
    by : (first : Bool) → eqb epoch 0 ≡ first → is_from 33 (epoch_text epoch) ≡ true
    by true e = ap (is_from 33) (first-text epoch e)
    by false e = ap (is_from 33) (later-text epoch e) ∙ from-cons 33 46 (decimal epoch) (omega arith) (decimal-field epoch (omega arith)).plain

pub version-field : (s : Contents) (v : Version) → is_name (name_of s (device_of_author v.author)) ≡ true → FitsVersion s v → IsField (version_text s v)
version-field s v good fits =
    let name = name_of s (device_of_author v.author) in
    let epoch = epoch_of_author v.author in
    let n : v.number ≤ 100_000 = fits.few in
    let named = name-field name good in
    let number = decimal-field v.number (omega arith) in
    record {
      plain = from-append 33 ((name ++ epoch_text epoch) ++ codes ":") (decimal v.number) (from-append 33 (name ++ epoch_text epoch) (codes ":") (from-append 33 name (epoch_text epoch) named.plain (epoch-from epoch fits.early)) refl) number.plain;
      some = some-append ((name ++ epoch_text epoch) ++ codes ":") (decimal v.number) (some-append (name ++ epoch_text epoch) (codes ":") (some-append name (epoch_text epoch) named.some));
    }
