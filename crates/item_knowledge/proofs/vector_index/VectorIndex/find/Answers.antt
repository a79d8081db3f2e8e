use Rattle.std.proofs.Common.{◌<◌, length, sym, subst, ◌∙◌, arith}
use Rattle.std.proofs.lemmas.Grind.{get_or_default_zero}
use Rattle.item_knowledge.specs.VectorIndex.{bucket, vectors_at}
use Rattle.item_knowledge.proofs.ChainLemmas.{along_first}
use Rattle.item_knowledge.proofs.vector_index.VectorIndex.find.Goals as goal

pub index-requires : goal.index-requires
index-requires c = omega (arith, c.args.self.now.heads.ok, c.requires.placed.below c.args.row.now, c.bucket-bucket.ensures)

pub loop-place-init : goal.loop-place-init
loop-place-init c =
    let below : c.bucket-bucket.result < length c.args.self.now.heads.items = subst (λ b. b < length c.args.self.now.heads.items) (sym c.bucket-bucket.ensures) (c.requires.placed.below c.args.row.now) in
    record {
      along = along_first (bucket c.args.self.now.seed (length c.args.self.now.heads.items)) c.args.self.now.heads.items c.args.self.now.before.items (vectors_at c.args.rows.now c.args.self.now.numbers.items) c.args.row.now c.bucket-bucket.result c.index.result.now c.requires.placed c.bucket-bucket.ensures below (c.index.ensures ∙ get_or_default_zero c.args.self.now.heads.items c.bucket-bucket.result c.index.result.now below);
    }

pub returns-then-eq-clause-inside : goal.returns-then-eq-clause-inside
returns-then-eq-clause-inside c = omega (arith, c.bucket-bucket.ensures, c.requires.placed.below c.args.row.now)

pub returns-clause-inside : goal.returns-clause-inside
returns-clause-inside c = omega (arith, c.bucket-bucket.ensures, c.requires.placed.below c.args.row.now)
