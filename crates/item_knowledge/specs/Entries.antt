-- Authors with bounds, and the versions that they denote.
use Rattle.std.specs.Prelude.{ℕ, Bool, ◌&&◌, ◌==◌, max, nat_lt, nat_le, List}
use Rattle.std.specs.List.{list_any, list_all}
use Rattle.std.specs.Cmp.Lexicographic.{pointwise}
use Rattle.photo_version.specs.Author.{author_word, is_author_word}
use Rattle.photo_version.specs.Version.{Version}
use Rattle.item_knowledge.specs.Tables.{in_order, at, merge}

-- an author's word, with a bound
abbrev pub Entry : Type 0
Entry = ℕ × ℕ

-- the author's versions from 1 to the bound
abbrev pub denotes_one : Entry → Version → Bool
denotes_one e v = (e.0 == author_word v.author) && (nat_le 1 v.number && nat_le v.number e.1)

-- the versions that entries denote
abbrev pub denotes : List Entry → Version → Bool
denotes entries v = list_any (λ e. denotes_one e v) entries

-- the greatest number of a version
abbrev pub most_number : ℕ
most_number = 4294967295

-- the word is an author's, and its bound a version's number
abbrev pub is_entry : Entry → Bool
is_entry e = is_author_word e.0 && (nat_lt 0 e.1 && nat_le e.1 most_number)

-- authors rise, and each has a bound above 0
abbrev pub is_vector : List Entry → Bool
is_vector es = in_order es && list_all (λ e. is_entry e) es

-- the bound of an author, 0 where it has no entry
abbrev pub bound : List Entry → ℕ → ℕ
bound es a = at 0 es a

-- each bound of the first is at most the second's bound of the same author
abbrev pub leq : List Entry → List Entry → Bool
leq es fs = list_all (λ e. nat_le e.1 (bound fs e.0)) es

abbrev pub same_entries : List Entry → List Entry → Bool
same_entries es fs = pointwise (λ e f. (e.0 == f.0) && (e.1 == f.1)) es fs

-- for each author the greater bound
abbrev pub joined : List Entry → List Entry → List Entry
joined xs ys = merge (λ a. a) (λ a b. max a b) (λ b. b) xs ys
