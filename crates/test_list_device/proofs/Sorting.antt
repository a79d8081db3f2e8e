-- Puts entries at their places one after another, the last of a list first.
use Rattle.std.proofs.Common.{◌≡◌, Bool, true, false, cond, List, [], ◌∷◌, ◌++◌, refl, sym, ap, ◌∙◌}
use Rattle.std.specs.Prelude.{filter}
use Rattle.std.proofs.lemmas.List.Elements.{filter-append}
use Rattle.std.proofs.lemmas.List.{map-append}
use Rattle.photo_model.specs.Entry.{Entry, put_entry, put_entry_if, put_entries}
use Rattle.test_list_device.specs.declared.list_entry.ListEntry.{ListEntry}
use Rattle.test_list_device.specs.Entries.{entry_of, entries_of}

put_entries-last : (xs : List Entry) (e : Entry) (list : List Entry) → put_entries (xs ++ e ∷ []) list ≡ put_entries xs (put_entry e list)
put_entries-last [] e list = refl
put_entries-last (x ∷ xs) e list = ap (put_entry x) (put_entries-last xs e list)

append_none : (es : List Entry) → es ++ [] ≡ es
append_none [] = refl
append_none (x ∷ es) = ap (λ l. x ∷ l) (append_none es)

-- the last entry goes to its place if it passes the test, and then the entries before it do
pub sorted_last : (q : Entry → Bool) (xs : List Entry) (e : Entry) (list : List Entry) → put_entries (filter q (xs ++ e ∷ [])) list ≡ put_entries (filter q xs) (put_entry_if (q e) e list)
sorted_last q xs e list = ap (λ es. put_entries es list) (filter-append q xs (e ∷ [])) ∙ by (q e)
  where
    by : (b : Bool) → put_entries (filter q xs ++ cond b (e ∷ []) []) list ≡ put_entries (filter q xs) (put_entry_if b e list)
    by true = put_entries-last (filter q xs) e list
    by false = ap (λ es. put_entries es list) (append_none (filter q xs))

-- one step of a loop that takes the last entry
pub sorted_step : (q : Entry → Bool) (coming rest : List ListEntry) (e : ListEntry) (before after : List Entry) → coming ≡ rest ++ e ∷ [] → after ≡ put_entry_if (q (entry_of e)) (entry_of e) before
    → put_entries (filter q (entries_of rest)) after ≡ put_entries (filter q (entries_of coming)) before
sorted_step q coming rest e before after coming_is after_is =
    ap (put_entries (filter q (entries_of rest))) after_is
    ∙ sym (sorted_last q (entries_of rest) (entry_of e) before)
    ∙ ap (λ es. put_entries (filter q es) before) (sym (ap entries_of coming_is ∙ map-append entry_of rest (e ∷ [])))
