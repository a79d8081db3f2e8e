-- Vectors: sets of versions that have with each version all earlier ones of its author.
use Rattle.std.specs.Prelude.{ℕ, Bool, true, ◌&&◌, ◌==◌, if◌then◌else◌, nat_lt, nat_le, max, List, [], ◌∷◌}
use Rattle.std.specs.List.{list_any, list_all}
use Rattle.std.specs.Cmp.Lexicographic.{pointwise}
use Rattle.photo_version.specs.Author.{Author, same_author, author_before}
use Rattle.photo_version.specs.Version.{Version, version, Versions}

-- an author with the number of its last version in a set
abbrev pub Bound : Type 0
Bound = Author × ℕ

-- the bound's versions: its author's, from 1 up to the bound
abbrev pub reaches : Bound → Version → Bool
reaches bound v = same_author bound.0 v.author && (nat_le 1 v.number && nat_le v.number bound.1)

-- the set of versions that the bounds denote
abbrev pub denotes : List Bound → Versions
denotes bounds = λ v. list_any (λ b. reaches b v) bounds

-- the bounds form a vector: each is above 0 and stands before those of later authors
abbrev pub is_vector : List Bound → Bool
is_vector [] = true
is_vector (b ∷ bounds) = nat_lt 0 b.1 && (list_all (λ c. author_before b.0 c.0) bounds && is_vector bounds)

-- the bounds with one more, at its author's place; of two for one author the greater stays
abbrev pub raised : Bound → List Bound → List Bound
raised b [] = b ∷ []
raised b (c ∷ bounds) =
    if author_before b.0 c.0 then b ∷ c ∷ bounds
    else if same_author b.0 c.0 then (b.0, max b.1 c.1) ∷ bounds
    else c ∷ raised b bounds

-- the union: for each author the greater bound
abbrev pub joined : List Bound → List Bound → List Bound
joined [] others = others
joined (b ∷ bounds) others = raised b (joined bounds others)

-- the last version of each bound is in the set of the others, and so are all versions of the bounds
abbrev pub is_within : List Bound → List Bound → Bool
is_within bounds others = list_all (λ b. denotes others (version b.0 b.1)) bounds

abbrev pub same_bound : Bound → Bound → Bool
same_bound b c = same_author b.0 c.0 && (b.1 == c.1)

abbrev pub same_bounds : List Bound → List Bound → Bool
same_bounds = pointwise same_bound
