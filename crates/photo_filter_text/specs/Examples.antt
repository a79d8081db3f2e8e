-- The definitions, worked for some texts.
use Rattle.std.specs.Prelude.{◌≡◌, ℕ, zero, suc, List, [], ◌∷◌, ◌++◌, pos, codes}
use Rattle.photo_filter_text.specs.declared.tree.Cmp.TheVariants.{AtLeast, AtMost, Equal}
use Rattle.photo_filter_text.specs.declared.fault.FilterFault.{FilterFault}
use Rattle.photo_filter_text.specs.declared.fault.FilterFault.TheVariants as faults
use Rattle.photo_filter_text.specs.Tree.{Tree, All, Nothing, Rate, On, Keyword, Not, Both, Either, height}
use Rattle.photo_filter_text.specs.Tokens.{tokens_of}
use Rattle.photo_filter_text.specs.Grammar.{IsExpr}
use Rattle.photo_filter_text.specs.Fault.{IsFilter, IsFault}
use Rattle.photo_filter_text.specs.Printed.{text_of}

-- a text repeated several times
abbrev pub repeated : ℕ → List ℕ → List ℕ
repeated zero text = []
repeated (suc more) text = text ++ repeated more text

pub record TheTokens : Type 0 where
  pub brackets : tokens_of (codes "not (rating = 0 or all)") ≡ codes "not" ∷ codes "(" ∷ codes "rating" ∷ codes "=" ∷ codes "0" ∷ codes "or" ∷ codes "all" ∷ codes ")" ∷ []
  pub runs_of_spaces : tokens_of (codes "  a   b ") ≡ codes "a" ∷ codes "b" ∷ []
  pub no_spaces : tokens_of (codes "((a))b") ≡ codes "(" ∷ codes "(" ∷ codes "a" ∷ codes ")" ∷ codes ")" ∷ codes "b" ∷ []
  pub none : tokens_of (codes "  ") ≡ []
  pub operators : tokens_of (codes "rating >=4") ≡ codes "rating" ∷ codes ">=4" ∷ []

-- the tree of each of these texts
pub record TheTrees : Type 0 where
  pub and_first : IsExpr (tokens_of (codes "all or none and all")) (Either All (Both Nothing All))
  pub or_from_left : IsExpr (tokens_of (codes "all or none or all")) (Either (Either All Nothing) All)
  pub and_from_left : IsExpr (tokens_of (codes "all and none and all")) (Both (Both All Nothing) All)
  pub no_node : IsExpr (tokens_of (codes "((all))")) All
  pub not_first : IsExpr (tokens_of (codes "not all and none")) (Both (Not All) Nothing)
  pub rating : IsExpr (tokens_of (codes "rating >= 4")) (Rate AtLeast 4)
  pub day : IsExpr (tokens_of (codes "day = 1970-01-02")) (On Equal (pos 1))

pub record TheTexts : Type 0 where
  pub either : text_of (Either All (Both Nothing All)) ≡ codes "( all or ( none and all ) )"
  pub negation : text_of (Not (Rate AtMost 3)) ≡ codes "not rating <= 3"
  pub keyword : text_of (Keyword (codes "sun")) ≡ codes "keyword sun"
  pub low : height (Not (Both All (Not All))) ≡ 4

-- the text has this fault
pub record HasFault (text : List ℕ) (fault : FilterFault) : Type 0 where
  pub is : IsFault (tokens_of text) fault

-- the first fault of each of these texts
pub record TheFaults : Type 0 where
  pub nothing : HasFault [] faults.Empty
  pub spaces : HasFault (codes "   ") faults.Empty
  pub first : HasFault (codes "ALL") (faults.Unexpected 1)
  pub second : HasFault (codes "all all") (faults.Unexpected 2)
  pub no_space : HasFault (codes "rating >=4") (faults.Unexpected 2)
  pub bracket_for_word : HasFault (codes "keyword (") (faults.Unexpected 2)
  pub no_rating : HasFault (codes "rating >= 6") (faults.Unexpected 3)
  pub no_date : HasFault (codes "day = 2023-02-29") (faults.Unexpected 3)
  pub comma : HasFault (codes "keyword a,b") faults.BadWord
  pub not_closed : HasFault (codes "( all") faults.EndsEarly
  pub no_word : HasFault (codes "keyword") faults.EndsEarly
  pub deep : HasFault (repeated 32 (codes "not ") ++ codes "all") faults.TooDeep
  pub long : HasFault (repeated 128 (codes "(") ++ (codes "all" ++ repeated 128 (codes ")"))) faults.TooManyTokens

-- a tree under several `not`
abbrev pub under_nots : ℕ → Tree → Tree
under_nots zero tree = tree
under_nots (suc more) tree = Not (under_nots more tree)

-- texts just within the limits: a tree of height 32, and 256 tokens
pub record TheFilters : Type 0 where
  pub low : IsFilter (tokens_of (repeated 31 (codes "not ") ++ codes "all")) (under_nots 31 All)
  pub short : IsFilter (tokens_of (repeated 127 (codes "(") ++ (codes "not all" ++ repeated 127 (codes ")")))) (Not All)
