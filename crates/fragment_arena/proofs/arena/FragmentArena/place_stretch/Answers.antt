use Rattle.std.proofs.Common.{◌≡◌, ◌+◌, ◌-◌, ◌≤◌, ◌++◌, length, ap, sym, ◌∙◌, arith}
use Rattle.fragment_arena.specs.Arena.{run, words_in}
use Rattle.fragment_arena.specs.Rows.{IsStretch}
use Rattle.fragment_arena.proofs.BlockLemmas.{block_at-any, is-stretch, stretch-words, some-block, last-at, rows-more, arena-more}
use Rattle.fragment_arena.proofs.RunLemmas.{run-less, run-long}
use Rattle.fragment_arena.proofs.arena.FragmentArena.place_stretch.Goals as goal

pub overflow_sub-self : goal.overflow_sub-self
overflow_sub-self c =
    let theirs = c.other.inside.blocks.items in
    let block = c.stretch-block.result.0 in
    let first = c.stretch-block.result.1 in
    let end = c.stretch-block.result.2 in
    let s : IsStretch theirs c.args.from c.args.to block first end = is-stretch c.deref.result.now theirs c.args.from c.args.to block first end c.deref.ensures.value c.stretch-block.ensures in
    let from = c.index-other.ensures ∙ block_at-any theirs block c.index-other.result.now s.block_is_there in
    let same : run c.index-other.result.now.rows first end ≡ run c.args.other.now.rows c.args.from (c.args.from + (end - first)) =
    ap (λ b. run b.rows first end) from ∙ sym (stretch-words theirs c.args.other.now.rows c.args.from c.args.to block first end (ap (λ a. a.rows) c.other.view_is) s) in
    let count : c.words_of_run.result ≡ words_in (run c.args.other.now.rows c.args.from (c.args.from + (end - first))) = c.words_of_run.ensures ∙ ap words_in same in
    let further : c.args.from ≤ c.args.from + (end - first) = omega arith in
    let there : c.args.from + (end - first) ≤ c.args.to = omega (arith, s.not_beyond, c.requires.order) in
    let less = run-less c.args.other.now.rows c.args.from (c.args.from + (end - first)) c.args.to further there in
    let enough : c.words_of_run.result ≤ c.self.inside.reserved_words = omega (arith, count, less, ap (λ a. a.reserved_words) c.self.view_is, c.requires.words) in
    enough

pub place_run-requires-clause-room : goal.place_run-requires-clause-room
place_run-requires-clause-room c =
    let theirs = c.other.inside.blocks.items in
    let block = c.stretch-block.result.0 in
    let first = c.stretch-block.result.1 in
    let end = c.stretch-block.result.2 in
    let s : IsStretch theirs c.args.from c.args.to block first end = is-stretch c.deref.result.now theirs c.args.from c.args.to block first end c.deref.ensures.value c.stretch-block.ensures in
    let from = c.index-other.ensures ∙ block_at-any theirs block c.index-other.result.now s.block_is_there in
    let same : run c.index-other.result.now.rows first end ≡ run c.args.other.now.rows c.args.from (c.args.from + (end - first)) =
    ap (λ b. run b.rows first end) from ∙ sym (stretch-words theirs c.args.other.now.rows c.args.from c.args.to block first end (ap (λ a. a.rows) c.other.view_is) s) in
    let count : c.words_of_run.result ≡ words_in (run c.args.other.now.rows c.args.from (c.args.from + (end - first))) = c.words_of_run.ensures ∙ ap words_in same in
    let further : c.args.from ≤ c.args.from + (end - first) = omega arith in
    let there : c.args.from + (end - first) ≤ c.args.to = omega (arith, s.not_beyond, c.requires.order) in
    let less = run-less c.args.other.now.rows c.args.from (c.args.from + (end - first)) c.args.to further there in
    let enough : c.words_of_run.result ≤ c.self.inside.reserved_words = omega (arith, count, less, ap (λ a. a.reserved_words) c.self.view_is, c.requires.words) in
    let inside = c.self.inside in
    let blocks = inside.blocks.items in
    let k = c.len-last.result - 1 in
    let slots : end - first ≤ inside.reserved_rows = omega (arith, s.not_beyond, ap (λ a. a.reserved_rows) c.self.view_is, c.requires.slots) in
    let some = some-block blocks (omega (arith, s.some, slots, c.self.invariant.rows_are_there)) in
    let last : k + 1 ≡ length blocks = omega (arith, some, c.len-last.ensures, inside.blocks.ok.0) in
    let was = c.index_mut.ensures.value ∙ block_at-any blocks k c.index_mut.result.now (omega (arith, last)) in
    omega (arith, enough, c.words_of_run.ensures, c.self.invariant.words_are_there, ap (λ b. b.room) (last-at blocks k last), ap (λ b. b.room) was)

pub invariant_of-self : goal.invariant_of-self
invariant_of-self c =
    let theirs = c.other.inside.blocks.items in
    let block = c.stretch-block.result.0 in
    let first = c.stretch-block.result.1 in
    let end = c.stretch-block.result.2 in
    let s : IsStretch theirs c.args.from c.args.to block first end = is-stretch c.deref.result.now theirs c.args.from c.args.to block first end c.deref.ensures.value c.stretch-block.ensures in
    let from = c.index-other.ensures ∙ block_at-any theirs block c.index-other.result.now s.block_is_there in
    let same : run c.index-other.result.now.rows first end ≡ run c.args.other.now.rows c.args.from (c.args.from + (end - first)) =
    ap (λ b. run b.rows first end) from ∙ sym (stretch-words theirs c.args.other.now.rows c.args.from c.args.to block first end (ap (λ a. a.rows) c.other.view_is) s) in
    let count : c.words_of_run.result ≡ words_in (run c.args.other.now.rows c.args.from (c.args.from + (end - first))) = c.words_of_run.ensures ∙ ap words_in same in
    let further : c.args.from ≤ c.args.from + (end - first) = omega arith in
    let there : c.args.from + (end - first) ≤ c.args.to = omega (arith, s.not_beyond, c.requires.order) in
    let less = run-less c.args.other.now.rows c.args.from (c.args.from + (end - first)) c.args.to further there in
    let enough : c.words_of_run.result ≤ c.self.inside.reserved_words = omega (arith, count, less, ap (λ a. a.reserved_words) c.self.view_is, c.requires.words) in
    let inside = c.self.inside in
    let blocks = inside.blocks.items in
    let k = c.len-last.result - 1 in
    let slots : end - first ≤ inside.reserved_rows = omega (arith, s.not_beyond, ap (λ a. a.reserved_rows) c.self.view_is, c.requires.slots) in
    let some = some-block blocks (omega (arith, s.some, slots, c.self.invariant.rows_are_there)) in
    let last : k + 1 ≡ length blocks = omega (arith, some, c.len-last.ensures, inside.blocks.ok.0) in
    let was = c.index_mut.ensures.value ∙ block_at-any blocks k c.index_mut.result.now (omega (arith, last)) in
    let more = run c.index-other.result.now.rows first end in
    let long : length more ≡ end - first = run-long c.index-other.result.now.rows first end (omega (arith, s.some)) (omega (arith, s.within, ap (λ b. length b.rows) from)) in
    arena-more blocks inside.count inside.reserved_words inside.reserved_rows k c.words_of_run.result (end - first) c.place_run.new.self more c.self.invariant last
    (c.place_run.ensures.rows ∙ ap (λ b. b.rows ++ more) was) long enough slots
    (omega (arith, c.place_run.ensures.room, c.words_of_run.ensures, ap (λ b. b.room) was)) (omega (arith, c.place_run.ensures.slots, ap (λ b. b.slots) was))

pub returns-clause-rows : goal.returns-clause-rows
returns-clause-rows c =
    let theirs = c.other.inside.blocks.items in
    let block = c.stretch-block.result.0 in
    let first = c.stretch-block.result.1 in
    let end = c.stretch-block.result.2 in
    let s : IsStretch theirs c.args.from c.args.to block first end = is-stretch c.deref.result.now theirs c.args.from c.args.to block first end c.deref.ensures.value c.stretch-block.ensures in
    let from = c.index-other.ensures ∙ block_at-any theirs block c.index-other.result.now s.block_is_there in
    let same : run c.index-other.result.now.rows first end ≡ run c.args.other.now.rows c.args.from (c.args.from + (end - first)) =
    ap (λ b. run b.rows first end) from ∙ sym (stretch-words theirs c.args.other.now.rows c.args.from c.args.to block first end (ap (λ a. a.rows) c.other.view_is) s) in
    let inside = c.self.inside in
    let blocks = inside.blocks.items in
    let k = c.len-last.result - 1 in
    let slots : end - first ≤ inside.reserved_rows = omega (arith, s.not_beyond, ap (λ a. a.reserved_rows) c.self.view_is, c.requires.slots) in
    let some = some-block blocks (omega (arith, s.some, slots, c.self.invariant.rows_are_there)) in
    let last : k + 1 ≡ length blocks = omega (arith, some, c.len-last.ensures, inside.blocks.ok.0) in
    let was = c.index_mut.ensures.value ∙ block_at-any blocks k c.index_mut.result.now (omega (arith, last)) in
    rows-more blocks k c.place_run.new.self (run c.index-other.result.now.rows first end) last (c.place_run.ensures.rows ∙ ap (λ b. b.rows ++ run c.index-other.result.now.rows first end) was)
    ∙ (λ i. (c.self.view_is i).rows ++ same i)

pub returns-clause-words : goal.returns-clause-words
returns-clause-words c =
    let theirs = c.other.inside.blocks.items in
    let block = c.stretch-block.result.0 in
    let first = c.stretch-block.result.1 in
    let end = c.stretch-block.result.2 in
    let s : IsStretch theirs c.args.from c.args.to block first end = is-stretch c.deref.result.now theirs c.args.from c.args.to block first end c.deref.ensures.value c.stretch-block.ensures in
    let from = c.index-other.ensures ∙ block_at-any theirs block c.index-other.result.now s.block_is_there in
    let same : run c.index-other.result.now.rows first end ≡ run c.args.other.now.rows c.args.from (c.args.from + (end - first)) =
    ap (λ b. run b.rows first end) from ∙ sym (stretch-words theirs c.args.other.now.rows c.args.from c.args.to block first end (ap (λ a. a.rows) c.other.view_is) s) in
    let count : c.words_of_run.result ≡ words_in (run c.args.other.now.rows c.args.from (c.args.from + (end - first))) = c.words_of_run.ensures ∙ ap words_in same in
    let further : c.args.from ≤ c.args.from + (end - first) = omega arith in
    let there : c.args.from + (end - first) ≤ c.args.to = omega (arith, s.not_beyond, c.requires.order) in
    let less = run-less c.args.other.now.rows c.args.from (c.args.from + (end - first)) c.args.to further there in
    let enough : c.words_of_run.result ≤ c.self.inside.reserved_words = omega (arith, count, less, ap (λ a. a.reserved_words) c.self.view_is, c.requires.words) in
    omega (arith, count, enough, ap (λ a. a.reserved_words) c.self.view_is)
