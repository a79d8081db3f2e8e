use Rattle.std.proofs.Common.{◌≡◌, ◌||◌, ◌&&◌, Bool, true, false, List, [], cond, eqb, refl, ap, ◌∙◌}
use Rattle.photo_version.specs.Vector as vectors
use Rattle.photo_version.specs.Vector.{Bound}
use Rattle.photo_version.specs.Version.{Version}
use Rattle.item_knowledge.specs.Fragments.{knows}
use Rattle.item_knowledge.proofs.StagedLemmas.{known_of}
use Rattle.item_knowledge.proofs.knowledge.Knowledge.learn.Goals as goal

pub returns-clause-learned : goal.returns-clause-learned
returns-clause-learned c p v z =
    c.in_ok-learn_table.ensures.learned p v z
    ∙ (λ i. knows (known_of c.unstage.ensures i) p v || vectors.denotes (cond (eqb c.args.picture p) (c.in_ok-try_clone.ensures i) []) v)
    ∙ ap (λ b. knows c.args.self.now.known p v || b) (one_at (eqb c.args.picture p) c.args.vector.now v)
  where
    one_at : (b : Bool) (bs : List Bound) (w : Version) → vectors.denotes (cond b bs []) w ≡ (b && vectors.denotes bs w)
    one_at true bs w = refl
    one_at false bs w = refl
