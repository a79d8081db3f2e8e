use Rattle.std.proofs.Common.{◌<◌, length, Ok, sym, subst, ap, ◌∙◌, is_some}
use Rattle.photo_record.specs.Reading.{words_of_text}
use Rattle.script_reader.specs.Sharing.{AreRead, max_texts}
use Rattle.script_reader.proofs.SharingLemmas.{read_more, still_few}
use Rattle.script_reader.proofs.word_sets.WordSets.keep.Goals as goal

pub invariant_of-self-2 : goal.invariant_of-self-2
invariant_of-self-2 c =
    let says = ap words_of_text c.in_ok-text.ensures.ok ∙ c.requires.said ∙ ap Ok (sym c.in_ok-words.ensures) in
    let room = subst (λ n. n < max_texts) (sym c.self.view_is) c.requires.room in
    record {
      read = subst AreRead (sym c.in_ok-insert.ensures.entries) (read_more c.in_ok-text.text c.in_ok-words.words c.self.inside.sets.entries says c.self.invariant.read);
      few = still_few (length c.self.inside.sets.entries) (length c.insert.new.self.entries) max_texts (is_some c.in_ok-insert.field-0) c.in_ok-insert.ensures.len room;
    }
