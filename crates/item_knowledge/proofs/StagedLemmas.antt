-- What is known and what is staged, as a knowledge keeps them.
use Rattle.std.proofs.Common.{◌≡◌, ℕ, ◌<◌, true, List, Option, None, Some, IfSome, Result, Ok, Err, OnErr, sym, subst, ap, arith}
use Rattle.std.specs.Option.{is_some}
use Rattle.std.proofs.lemmas.Bool.{false≢true}
use Rattle.photo_version.specs.Version.{Version}
use Rattle.item_knowledge.specs.Fragments.{Fragment, knows}
use Rattle.item_knowledge.specs.Entries.{denotes}
use Rattle.item_knowledge.specs.Gathering.{vector_of}
use Rattle.item_knowledge.specs.Spare.{IsJoined}
use Rattle.item_knowledge.specs.Staged.{Knowing, settled, IsStagedUnion}

pub on_err : {T E P : Type 0} (r : Result T E) → P → OnErr r P
on_err (Ok x) p = tt
on_err (Err e) p = p

pub known_of : {k l : Knowing} → k ≡ l → k.known ≡ l.known
known_of e = ap (λ k. k.known) e

-- what is committed is known, and nothing is staged then
pub committed : (staged : Option (List Fragment)) (new : Knowing) (P : List Fragment → Type 0) → is_some staged ≡ true → IfSome staged P → IfSome staged (λ s. new ≡ settled s) → P new.known × (new.staged ≡ None)
committed None new P there has is = absurd (false≢true there)
committed (Some s) new P there has is = (subst P (sym (known_of is)) has, ap (λ (k : Knowing). k.staged) is)

-- the union with an operand, whose index leads to what its fragments know
pub operand_union : (staged : Option (List Fragment)) (left gs : List Fragment) (ys items : List (ℕ × ℕ)) → ((p : ℕ) (v : Version) → 0 < p → knows gs p v ≡ denotes (vector_of gs ys p) v)
    → items ≡ ys → is_some staged ≡ true → IfSome staged (λ s. IsJoined left gs items s) → IsStagedUnion staged left gs
operand_union None left gs ys items known e there joined = absurd (false≢true there)
operand_union (Some s) left gs ys items known e there joined = grind (arith, joined.star, joined.pairs, known)
