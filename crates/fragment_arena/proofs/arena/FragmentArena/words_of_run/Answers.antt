use Rattle.std.proofs.Common.{◌≡◌, ◌≤◌, ◌+◌, ◌-◌, sym, ap, ◌∙◌, arith}
use Rattle.fragment_arena.specs.Arena.{run, words_in}
use Rattle.fragment_arena.specs.Rows.{IsStretch}
use Rattle.fragment_arena.proofs.BlockLemmas.{block_at-any, is-stretch, stretch-words}
use Rattle.fragment_arena.proofs.RunLemmas.{words-split}
use Rattle.fragment_arena.proofs.arena.FragmentArena.words_of_run.Goals as goal

pub loop-place-preserved : goal.loop-place-preserved
loop-place-preserved c =
    let blocks = c.self.inside.blocks.items in
    let place = c.loop-place.place in
    let block = c.stretch-block.result.0 in
    let first = c.stretch-block.result.1 in
    let end = c.stretch-block.result.2 in
    let s : IsStretch blocks place c.args.to block first end = is-stretch c.deref.result.now blocks place c.args.to block first end c.deref.ensures.value c.stretch-block.ensures in
    let was = c.index.ensures ∙ block_at-any blocks block c.index.result.now s.block_is_there in
    let same = stretch-words blocks c.args.self.now.rows place c.args.to block first end (ap (λ a. a.rows) c.self.view_is) s in
    let count : c.words_of_run.result ≡ words_in (run c.args.self.now.rows place (place + (end - first))) =
    c.words_of_run.ensures ∙ ap (λ b. words_in (run b.rows first end)) was ∙ ap words_in (sym same) in
    let further : place ≤ place + (end - first) = omega arith in
    let there : place + (end - first) ≤ c.args.to = omega (arith, s.not_beyond, c.loop-place-test.true) in
    let split = words-split c.args.self.now.rows place (place + (end - first)) c.args.to further there in
    let added : c.in_ok-words.words ≡ c.loop-place.words + c.words_of_run.result = c.in_ok-words.ensures.1 in (
      omega (arith, further, c.loop-place.invariant.0),
      there,
      omega (arith, added, count, split, c.loop-place.invariant.2),
    )
