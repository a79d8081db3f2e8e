use Rattle.std.proofs.Common.{rules, ◌≡◌, ◌++◌, ◌∷◌, [], take, sym, subst, ap, ◌∙◌, arith, Some}
use Rattle.std.proofs.lemmas.List.{length-take-le, take_all}
use Rattle.std.proofs.lemmas.Option.{slice_get-get_or}
use Rattle.item_knowledge.specs.Rows.{flat}
use Rattle.item_knowledge.specs.TableRows.{entries_of, IsTold}
use Rattle.item_knowledge.proofs.TableRowLemmas.{got_take, one_told, told_are_rows, told_are_vectors}
use Rattle.item_knowledge.proofs.told.rows_of.Goals as goal

pub loop-i-preserved : goal.loop-i-preserved
loop-i-preserved c =
    let t = c.index-table-i.result in
    let number : c.value-picture.result ≡ t.0 = search rules in
    let row : c.write_row.new.row.items ≡ flat (entries_of t.1) = search rules in
    let rows : c.place_fragment.new.self ≡ (c.loop-i.rows ++ (c.value-picture.result ∷ []) ∷ []) ++ c.write_row.new.row.items ∷ [] = search rules in
    record {
      told = subst (λ ts. IsTold ts c.place_fragment.new.self c.push.new.self.items) (sym (got_take c.args.table.now c.loop-i.i t (slice_get-get_or c.args.table.now c.loop-i.i t c.loop-i-test.true ∙ ap Some (sym c.index-table-i.is))))
          (one_told (take c.loop-i.i c.args.table.now) t c.loop-i.rows c.place_fragment.new.self c.loop-i.index.items c.push.new.self.items c.in_ok-number.number c.loop-i.invariant.told
          (rows ∙ (λ i. (c.loop-i.rows ++ (number i ∷ []) ∷ []) ++ row i ∷ [])) (c.in_ok-push.ensures.items ∙ ap (λ n. c.loop-i.index.items ++ (n, c.in_ok-number.number) ∷ []) number) (omega (arith, length-take-le c.loop-i.i c.args.table.now (omega arith), c.in_ok-number.ensures.value)) (search rules) (search rules));
    }

pub returns : goal.returns
returns c =
    let all : IsTold c.args.table.now c.loop-i.rows c.loop-i.index.items = subst (λ ts. IsTold ts c.loop-i.rows c.loop-i.index.items) (take_all c.loop-i.i c.args.table.now (omega arith)) c.loop-i.invariant.told in
    record { rows_are = c.in_ok-live.ensures ∙ all.rows_are; index_is = all.index_is; positive = all.positive; vectors = all.vectors }

pub of_rows-requires-clause-rows : goal.of_rows-requires-clause-rows
of_rows-requires-clause-rows c = told_are_rows c.loop-i.invariant.told

pub of_rows-requires-clause-vectors : goal.of_rows-requires-clause-vectors
of_rows-requires-clause-vectors c = told_are_vectors c.loop-i.invariant.told
