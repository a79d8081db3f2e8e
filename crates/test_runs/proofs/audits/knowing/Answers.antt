-- A knowledge of one device's first version alone says nothing of another device.
use Rattle.std.proofs.Common.{rules, ◌≡◌, ℕ, ◌<◌, true, false, ◌&&◌, List, if◌then◌else◌, refl, ap, ◌∙◌, inl, inr, arith}
use Rattle.std.proofs.lemmas.Bool.{and_parts, ne_eqb, ltb-true, cases_lt, lt-leb, le-leb}
use Rattle.std.proofs.Math.Dec.{eqb, leb}
use Rattle.photo_version.specs.Author.{Author, author, device_of_author, same_device, author_before, same_author, is_earlier_epoch}
use Rattle.photo_version.specs.Version.{Version, version, same_version}
use Rattle.item_knowledge.specs.Fragments.{Fragment, knows}
use Rattle.item_knowledge.specs.Kept.{star_bound}
use Rattle.photo_device.specs.Own.{KnowsItsOwn}
use Rattle.test_runs.proofs.audits.knowing.Goals as goal

none_up_to : (n : ℕ) → false ≡ (leb 1 n && leb n 0)
none_up_to n =
    elim (cases_lt n 1) [
      | inl none ↦ rw (lt-leb 1 n none) refl
      | inr some ↦ rw (le-leb 1 n some, lt-leb n 0 (omega arith)) refl
    ]

-- an author other than that version's knows exactly its own versions, of which there are none
knows_none_of_its_own : (a : Author) (counter : ℕ) (knowledge : List Fragment) → 0 < device_of_author a → counter ≡ 0
    → ((b : Author) → star_bound knowledge b ≡ (if same_author (author 0) b then 1 else 0))
    → ((p : ℕ) (v : Version) → 0 < p → knows knowledge p v ≡ same_version (version (author 0) 1) v)
    → KnowsItsOwn a counter knowledge
knows_none_of_its_own a counter knowledge other none star known = rw none record {
  star = star a ∙ ap (λ b. if b then 1 else 0) another;
  own = λ p n above. known p (version a n) above ∙ ap (λ b. b && eqb 1 n) another ∙ none_up_to n;
  later = λ p v above later. known p v above ∙ ap (λ b. b && eqb 1 v.number) (after v later);
}
  where
    another : same_author (author 0) a ≡ false
    another = ne_eqb 0 a.word (λ e. absurd (omega arith))

    after : (v : Version) → is_earlier_epoch a v.author ≡ true → same_author (author 0) v.author ≡ false
    after v later =
        let parts = and_parts (same_device a v.author) (author_before a v.author) later in
        let less = ltb-true a.word v.author.word parts.1 in
        ne_eqb 0 v.author.word (λ e. absurd (omega arith))

pub with_knowledge-requires-clause-own : goal.with_knowledge-requires-clause-own
with_knowledge-requires-clause-own c =
    let other : 0 < device_of_author c.args.device.author = search rules in
    let none : c.args.device.counter ≡ 0 = search rules in
    knows_none_of_its_own c.args.device.author c.args.device.counter c.args.knowledge.known other none c.requires.star c.requires.known
