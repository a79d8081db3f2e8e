use Rattle.std.proofs.Common.{◌≡◌, ◌∙◌, true, sym, ap, subst}
use Rattle.std.proofs.lemmas.Result.{IfOk-weaker}
use Rattle.photo_version.specs.Vector.{denotes, is_vector, joined, is_within}
use Rattle.photo_version.proofs.VectorLemmas.{denotes-joined, joined_vector, joined_within, within_joined}
use Rattle.photo_version.proofs.vector.Vector.join.Goals as goal

pub returns-then-is_within-clause-value : goal.returns-then-is_within-clause-value
returns-then-is_within-clause-value c =
    let xs = c.entries-entries.result.now in
    let ys = c.entries-others.result.now in
    let within : is_within ys xs ≡ true = sym c.is_within.ensures ∙ c.if-is_within.true in
    let same = joined_within xs ys c.entries-entries.ensures.vector c.entries-others.ensures.vector within in
    let is : c.args.self.now ≡ joined c.args.self.now c.args.other.now = sym c.entries-entries.ensures.value ∙ (same ∙ (λ i. joined (c.entries-entries.ensures.value i) (c.entries-others.ensures.value i))) in
    IfOk-weaker c.try_clone.result (λ r. r ≡ c.args.self.now) (λ r. r ≡ joined c.args.self.now c.args.other.now) (λ r e. e ∙ is) c.try_clone.ensures

pub returns-then-is_within-clause-union : goal.returns-then-is_within-clause-union
returns-then-is_within-clause-union c =
    IfOk-weaker c.try_clone.result (λ r. r ≡ joined c.args.self.now c.args.other.now) _ (λ r e v. ap (λ zs. denotes zs v) e ∙ denotes-joined c.args.self.now c.args.other.now v) (returns-then-is_within-clause-value c)

pub returns-then-is_within-2-clause-value : goal.returns-then-is_within-2-clause-value
returns-then-is_within-2-clause-value c =
    let xs = c.entries-entries.result.now in
    let ys = c.entries-others.result.now in
    let within : is_within xs ys ≡ true = sym c.is_within-2.ensures ∙ c.if-is_within-2.true in
    let same = within_joined xs ys c.entries-entries.ensures.vector c.entries-others.ensures.vector within in
    let is : c.args.other.now ≡ joined c.args.self.now c.args.other.now = sym c.entries-others.ensures.value ∙ (same ∙ (λ i. joined (c.entries-entries.ensures.value i) (c.entries-others.ensures.value i))) in
    IfOk-weaker c.try_clone-then-is_within-2.result (λ r. r ≡ c.args.other.now) (λ r. r ≡ joined c.args.self.now c.args.other.now) (λ r e. e ∙ is) c.try_clone-then-is_within-2.ensures

pub returns-then-is_within-2-clause-union : goal.returns-then-is_within-2-clause-union
returns-then-is_within-2-clause-union c =
    IfOk-weaker c.try_clone-then-is_within-2.result (λ r. r ≡ joined c.args.self.now c.args.other.now) _ (λ r e v. ap (λ zs. denotes zs v) e ∙ denotes-joined c.args.self.now c.args.other.now v) (returns-then-is_within-2-clause-value c)

pub from_entries-requires : goal.from_entries-requires
from_entries-requires c =
    subst (λ zs. is_vector zs ≡ true) (sym c.in_ok-joined.ensures)
    (joined_vector c.entries-entries.result.now c.entries-others.result.now c.entries-entries.ensures.vector c.entries-others.ensures.vector)

pub returns-clause-union : goal.returns-clause-union
returns-clause-union c =
    let is = c.in_ok-joined.ensures ∙ (λ i. joined (c.entries-entries.ensures.value i) (c.entries-others.ensures.value i)) in
    IfOk-weaker c.from_entries.result (λ r. r ≡ c.in_ok-joined.field-0.items) _ (λ r e v. ap (λ zs. denotes zs v) (e ∙ is) ∙ denotes-joined c.args.self.now c.args.other.now v) c.from_entries.ensures
