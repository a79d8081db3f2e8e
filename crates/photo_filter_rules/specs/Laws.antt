-- Laws: alternatives agree with matching, and covering implies selecting.
use Rattle.std.specs.Prelude.{◌≡◌, true, not}
use Rattle.std.specs.List.{list_any}
use Rattle.photo_record.specs.declared.record.Record.{Record}
use Rattle.photo_filter_text.specs.Tree.{Tree}
use Rattle.photo_filter_rules.specs.declared.polarity.Polarity.TheVariants.{Plain, Negated}
use Rattle.photo_filter_rules.specs.Matching.{Content, IsContent, IsInRange, matches_picture, matches}
use Rattle.photo_filter_rules.specs.Alternatives.{fits, alternatives_of}
use Rattle.photo_filter_rules.specs.Covers.{covers}

-- a tree matches a picture exactly if the picture fits one of the tree's alternatives; it doesn't match exactly if the picture
-- fits one of those under `not`
abbrev pub FitsWhereMatched : Type 0
FitsWhereMatched =
    ((tree : Tree) (c : Content) → IsContent c → list_any (fits c) (alternatives_of tree Plain) ≡ matches_picture tree c)
    × ((tree : Tree) (c : Content) → IsContent c → list_any (fits c) (alternatives_of tree Negated) ≡ not (matches_picture tree c))

-- a filter selects every record, with rating and day in range, that a filter which it covers selects
abbrev pub CoversSelects : Type 0
CoversSelects =
    (f g : Tree) (r : Record) → IsInRange r → covers f g ≡ true → matches g r ≡ true → matches f r ≡ true
