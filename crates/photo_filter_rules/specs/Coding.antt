-- Machinery of the proofs: a tree as a list of marks, each part before the tree that it belongs to, and back. With it a proof
-- tells trees apart.
use Rattle.std.specs.Prelude.{◌≡◌, ℕ, ℤ, pos, refl, List, [], ◌∷◌, ◌++◌, if◌then◌else◌, ◌==◌}
use Rattle.std.specs.Coded.{Coded, code_by, coded×, coded_ℕ, coded_ℤ, coded_list}
use Rattle.std.proofs.Common.{◌∙◌, ap, sym, append_assoc, append-nil}
use Rattle.photo_filter_text.specs.declared.tree.Cmp.{Cmp}
use Rattle.photo_filter_text.specs.declared.tree.Cmp.TheVariants.{AtLeast, AtMost, Equal}
use Rattle.photo_filter_text.specs.Tree.{Tree, All, Nothing, Rate, On, Keyword, Not, Both, Either}

-- a part's kind, and the rating, day or word that it names
abbrev pub Mark : Type 0
Mark = ℕ × (ℕ × (ℤ × List ℕ))

abbrev pub bare : ℕ → Mark
bare kind = (kind, (0, (pos 0, [])))

abbrev pub rate_mark : Cmp → ℕ → Mark
rate_mark AtLeast rating = (2, (rating, (pos 0, [])))
rate_mark AtMost rating = (3, (rating, (pos 0, [])))
rate_mark Equal rating = (4, (rating, (pos 0, [])))

abbrev pub day_mark : Cmp → ℤ → Mark
day_mark AtLeast day = (5, (0, (day, [])))
day_mark AtMost day = (6, (0, (day, [])))
day_mark Equal day = (7, (0, (day, [])))

abbrev pub marks_of : Tree → List Mark
marks_of All = bare 0 ∷ []
marks_of Nothing = bare 1 ∷ []
marks_of (Rate cmp rating) = rate_mark cmp rating ∷ []
marks_of (On cmp day) = day_mark cmp day ∷ []
marks_of (Keyword word) = (8, (0, (pos 0, word))) ∷ []
marks_of (Not part) = marks_of part ++ (bare 9 ∷ [])
marks_of (Both left right) = marks_of left ++ (marks_of right ++ (bare 10 ∷ []))
marks_of (Either left right) = marks_of left ++ (marks_of right ++ (bare 11 ∷ []))

-- the trees decoded so far, the last one first
abbrev pub with_not : List Tree → List Tree
with_not [] = []
with_not (part ∷ parts) = Not part ∷ parts

abbrev pub with_joint : (Tree → Tree → Tree) → List Tree → List Tree
with_joint f [] = []
with_joint f (right ∷ []) = []
with_joint f (right ∷ left ∷ parts) = f left right ∷ parts

abbrev pub with_mark : Mark → List Tree → List Tree
with_mark m parts =
    if m.0 == 0 then All ∷ parts
    else (if m.0 == 1 then Nothing ∷ parts
    else (if m.0 == 2 then Rate AtLeast m.1.0 ∷ parts
    else (if m.0 == 3 then Rate AtMost m.1.0 ∷ parts
    else (if m.0 == 4 then Rate Equal m.1.0 ∷ parts
    else (if m.0 == 5 then On AtLeast m.1.1.0 ∷ parts
    else (if m.0 == 6 then On AtMost m.1.1.0 ∷ parts
    else (if m.0 == 7 then On Equal m.1.1.0 ∷ parts
    else (if m.0 == 8 then Keyword m.1.1.1 ∷ parts
    else (if m.0 == 9 then with_not parts
    else (if m.0 == 10 then with_joint Both parts
    else with_joint Either parts))))))))))

abbrev pub with_marks : List Mark → List Tree → List Tree
with_marks [] parts = parts
with_marks (m ∷ ms) parts = with_marks ms (with_mark m parts)

abbrev pub first_part : List Tree → Tree
first_part [] = Nothing
first_part (part ∷ parts) = part

abbrev pub tree_of_marks : List Mark → Tree
tree_of_marks ms = first_part (with_marks ms [])

pub with_marks-marks_of : (tree : Tree) (more : List Mark) (parts : List Tree) → with_marks (marks_of tree ++ more) parts ≡ with_marks more (tree ∷ parts)
with_marks-marks_of All more parts = refl
with_marks-marks_of Nothing more parts = refl
with_marks-marks_of (Rate AtLeast rating) more parts = refl
with_marks-marks_of (Rate AtMost rating) more parts = refl
with_marks-marks_of (Rate Equal rating) more parts = refl
with_marks-marks_of (On AtLeast day) more parts = refl
with_marks-marks_of (On AtMost day) more parts = refl
with_marks-marks_of (On Equal day) more parts = refl
with_marks-marks_of (Keyword word) more parts = refl
with_marks-marks_of (Not part) more parts =
    ap (λ ms. with_marks ms parts) (append_assoc (marks_of part) (bare 9 ∷ []) more)
    ∙ with_marks-marks_of part (bare 9 ∷ more) parts
with_marks-marks_of (Both left right) more parts =
    ap (λ ms. with_marks ms parts) (append_assoc (marks_of left) (marks_of right ++ (bare 10 ∷ [])) more)
    ∙ with_marks-marks_of left ((marks_of right ++ (bare 10 ∷ [])) ++ more) parts
    ∙ ap (λ ms. with_marks ms (left ∷ parts)) (append_assoc (marks_of right) (bare 10 ∷ []) more)
    ∙ with_marks-marks_of right (bare 10 ∷ more) (left ∷ parts)
with_marks-marks_of (Either left right) more parts =
    ap (λ ms. with_marks ms parts) (append_assoc (marks_of left) (marks_of right ++ (bare 11 ∷ [])) more)
    ∙ with_marks-marks_of left ((marks_of right ++ (bare 11 ∷ [])) ++ more) parts
    ∙ ap (λ ms. with_marks ms (left ∷ parts)) (append_assoc (marks_of right) (bare 11 ∷ []) more)
    ∙ with_marks-marks_of right (bare 11 ∷ more) (left ∷ parts)

pub tree_of_marks-marks_of : (tree : Tree) → tree_of_marks (marks_of tree) ≡ tree
tree_of_marks-marks_of tree =
    ap (λ ms. first_part (with_marks ms [])) (sym (append-nil (marks_of tree))) ∙ ap first_part (with_marks-marks_of tree [] [])

abbrev pub tree_code : Coded Tree
tree_code =
    code_by (List Mark) (coded_list (coded× coded_ℕ (coded× coded_ℕ (coded× coded_ℤ (coded_list coded_ℕ))))) marks_of tree_of_marks tree_of_marks-marks_of
