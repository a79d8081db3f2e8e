use Rattle.std.proofs.Common.{rules, ℕ, ◌<◌, ◌++◌, ◌∷◌, [], List, length, get_or, map, sym, subst, ap, ◌∙◌, arith}
use Rattle.std.proofs.lemmas.List.{map_more, take_all}
use Rattle.item_knowledge.specs.VectorIndex.{bucket, is_new, vectors_at, CanIndex}
use Rattle.item_knowledge.proofs.RowLemmas.{rows_read}
use Rattle.item_knowledge.proofs.distinct_union.vector_index_of.Goals as goal

pub loop-i-preserved : goal.loop-i-preserved
loop-i-preserved c =
    let less : c.loop-i.i < length c.args.listed.now = omega arith in
    let can : CanIndex c.loop-i.by_vector c.args.rows.now c.find-bucket.result.0 (get_or c.args.listed.now c.loop-i.i (0, 0)).1 = record {
      found = c.loop-i.invariant.found;
      there = omega (arith, rows_read c.args.rows.now c.requires.rows, c.requires.there c.loop-i.i less);
      in_bucket = c.find-bucket.ensures.bucket ∙ ap (bucket c.loop-i.by_vector.seed (length c.loop-i.by_vector.heads.items)) c.entries.ensures.words;
      new = subst (λ ws. is_new (vectors_at c.args.rows.now c.loop-i.by_vector.numbers.items) ws) c.entries.ensures.words (c.find-bucket.ensures.absent (search rules));
    } in
    record {
      found = c.in_ok-push.ensures.found c.args.rows.now can;
      noted = c.in_ok-push.ensures.numbers ∙ (ap (λ ns. ns ++ (get_or c.args.listed.now c.loop-i.i (0, 0)).1 ∷ []) c.loop-i.invariant.noted ∙ sym (map_more (λ (x : ℕ × ℕ). x.1) c.args.listed.now c.loop-i.i (0, 0) less));
    }

pub returns-clause-numbers : goal.returns-clause-numbers
returns-clause-numbers c = c.loop-i.invariant.noted ∙ ap (λ (xs : List (ℕ × ℕ)). map (λ (x : ℕ × ℕ). x.1) xs) (take_all c.loop-i.i c.args.listed.now (omega arith))
