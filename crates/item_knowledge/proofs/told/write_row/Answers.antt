use Rattle.std.proofs.Common.{rules, ◌≡◌, take, arith, sym, subst, true, refl}
use Rattle.std.proofs.lemmas.Bool.Decides.{nat_tests}
use Rattle.std.proofs.lemmas.List.{take_all}
use Rattle.photo_version.specs.Author.{author_word}
use Rattle.item_knowledge.specs.Entries.{is_entry}
use Rattle.item_knowledge.proofs.TableRowLemmas.{IsRowOf, got_take, row_more, row_vector}
use Rattle.item_knowledge.proofs.told.write_row.Goals as goal

pub loop-i-init : goal.loop-i-init
loop-i-init c = record { written = record { row_is = search rules; entries = refl } }

pub loop-i-preserved : goal.loop-i-preserved
loop-i-preserved c =
    let b = c.entry-author.result in
    let entry : is_entry (author_word b.0, b.1) ≡ true = grind (arith, nat_tests, c.word.ensures.value, c.word.ensures.of_author) in
    record {
      written = subst (λ bs. IsRowOf bs c.push-in-loop-i.new.self.items) (sym (got_take c.args.vector.now c.loop-i.i b (search rules)))
          (row_more (take c.loop-i.i c.args.vector.now) b c.loop-i.row.items c.push-in-loop-i.new.self.items c.loop-i.invariant.written (search rules) entry);
    }

pub returns : goal.returns
returns c =
    let all : IsRowOf c.args.vector.now c.loop-i.row.items = subst (λ bs. IsRowOf bs c.loop-i.row.items) (take_all c.loop-i.i c.args.vector.now (omega arith)) c.loop-i.invariant.written in
    record { row = all.row_is; vector = row_vector all c.len-i-end.ensures.vector }
