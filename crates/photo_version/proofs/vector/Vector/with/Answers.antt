use Rattle.std.proofs.Common.{rules, ◌≡◌, ◌∙◌, ◌<◌, true, [], ◌∷◌, sym, ap, subst}
use Rattle.std.specs.Prelude.{IfOk}
use Rattle.std.proofs.lemmas.Result.{IfOk-weaker}
use Rattle.photo_version.specs.Vector.{Bound, denotes, is_vector, raised}
use Rattle.photo_version.proofs.VectorLemmas.{denotes-joined, joined_vector, one_bound, raised_denoted}
use Rattle.photo_version.proofs.vector.Vector.with.Goals as goal

pub returns-then-has-clause-value : goal.returns-then-has-clause-value
returns-then-has-clause-value c =
    let xs = c.entries-entries.result.now in
    let v = c.args.version in
    let within : denotes xs v ≡ true = sym c.has.ensures ∙ c.if-has.true in
    let same = raised_denoted v xs c.entries-entries.ensures.vector within in
    let is : c.args.self.now ≡ raised (v.author, v.number) c.args.self.now = sym c.entries-entries.ensures.value ∙ (same ∙ ap (raised (v.author, v.number)) c.entries-entries.ensures.value) in
    IfOk-weaker c.try_clone.result (λ r. r ≡ c.args.self.now) (λ r. r ≡ raised (v.author, v.number) c.args.self.now) (λ r e. e ∙ is) c.try_clone.ensures

pub returns-then-has-clause-union : goal.returns-then-has-clause-union
returns-then-has-clause-union c =
    let b : Bound = (c.args.version.author, c.args.version.number) in
    IfOk-weaker c.try_clone.result (λ r. r ≡ raised b c.args.self.now) _ (λ r e w. ap (λ zs. denotes zs w) e ∙ denotes-joined (b ∷ []) c.args.self.now w) (returns-then-has-clause-value c)

pub from_entries-requires : goal.from_entries-requires
from_entries-requires c =
    let b : Bound = (c.args.version.author, c.args.version.number) in
    let xs = c.entries-entries.result.now in
    let is : c.in_ok-joined.field-0.items ≡ raised b xs = search rules in
    let positive : 0 < c.args.version.number = search rules in
    subst (λ zs. is_vector zs ≡ true) (sym is) (joined_vector (b ∷ []) xs (one_bound b positive) c.entries-entries.ensures.vector)

pub returns-clause-union : goal.returns-clause-union
returns-clause-union c =
    let b : Bound = (c.args.version.author, c.args.version.number) in
    let value : IfOk c.from_entries.result (λ r. r ≡ raised b c.args.self.now) = search rules in
    IfOk-weaker c.from_entries.result (λ r. r ≡ raised b c.args.self.now) _ (λ r e w. ap (λ zs. denotes zs w) e ∙ denotes-joined (b ∷ []) c.args.self.now w) value
