-- Heights of trees.
use Rattle.std.proofs.Common.{◌<◌, arith}
use Rattle.photo_filter_text.specs.Tree.{Tree, All, Nothing, Rate, On, Keyword, Not, Both, Either, height}

pub height-positive : (t : Tree) → 0 < height t
height-positive (Not part) = omega arith
height-positive (Both left right) = omega arith
height-positive (Either left right) = omega arith
height-positive All = omega arith
height-positive Nothing = omega arith
height-positive (Rate cmp rating) = omega arith
height-positive (On cmp day) = omega arith
height-positive (Keyword word) = omega arith
