use Rattle.std.proofs.Common.{◌+◌, ◌<◌, ◌≤◌, length, drop, ap, ◌∙◌, arith, ◌^◌, length-append}
use Rattle.std.proofs.lemmas.List.{length-drop, length-take}
use Rattle.fragment_arena.specs.Arena.{run, words_in}
use Rattle.fragment_arena.proofs.EndLemmas.{count-is, taken-inside, taken-can-move, taken-rows, taken-ends}
use Rattle.fragment_arena.proofs.row_block.RowBlock.place_run.Goals as goal

pub slice-requires : goal.slice-requires
slice-requires c =
    let mine = c.self.inside in
    let inside = c.other.inside in
    let within =
    taken-inside mine.words.words mine.ends.items c.args.self.now.rows (ap (λ b. b.rows) c.self.view_is) c.self.invariant inside.words.words inside.ends.items c.args.other.now.rows (ap (λ b. b.rows) c.other.view_is) c.other.invariant
    c.args.from c.args.to c.requires.order c.requires.there in
    omega (arith, within, c.begin-first.ensures, c.words_of_run-words.ensures)

pub offset_bounds-deref-from : goal.offset_bounds-deref-from
offset_bounds-deref-from c =
    let inside = c.other.inside in
    let count = count-is inside.words.words inside.ends.items c.args.other.now.rows (ap (λ b. b.rows) c.other.view_is) c.other.invariant in
    record { fits = omega (arith, c.deref.type_inv.1, ap length c.deref.ensures.value, count, c.requires.order, c.requires.there) }

pub slice_bounds-push_moved-end : goal.slice_bounds-push_moved-end
slice_bounds-push_moved-end c =
    let inside = c.other.inside in
    let count = count-is inside.words.words inside.ends.items c.args.other.now.rows (ap (λ b. b.rows) c.other.view_is) c.other.invariant in
    let there : c.args.to ≤ length c.deref.result.now = omega (arith, ap length c.deref.ensures.value, count, c.requires.there) in
    there

pub push_moved-requires-clause-fits : goal.push_moved-requires-clause-fits
push_moved-requires-clause-fits c =
    let mine = c.self.inside in
    let inside = c.other.inside in
    let count = words_in (run c.args.other.now.rows c.args.from c.args.to) in
    let within =
    taken-inside mine.words.words mine.ends.items c.args.self.now.rows (ap (λ b. b.rows) c.self.view_is) c.self.invariant inside.words.words inside.ends.items c.args.other.now.rows (ap (λ b. b.rows) c.other.view_is) c.other.invariant
    c.args.from c.args.to c.requires.order c.requires.there in
    let rest = length-drop c.begin-first.result inside.words.words in
    let cut_off = ap length c.slice.ensures ∙ length-take c.words_of_run-words.result (drop c.begin-first.result inside.words.words) in
    let written = ap length c.write.ensures.words ∙ length-append mine.words.words c.slice.result.now in
    let fits : c.len-at.result + count < 2 ^ 32 = omega (arith, within, rest, cut_off, written, c.begin-first.ensures, c.words_of_run-words.ensures, c.len-at.ensures, c.capacity-capacity.ensures.value, c.capacity-capacity.ensures.fits) in
    rw c.begin-first.ensures (rw c.deref.ensures.value (taken-can-move mine.words.words mine.ends.items c.args.self.now.rows (ap (λ b. b.rows) c.self.view_is) c.self.invariant inside.words.words inside.ends.items c.args.other.now.rows (ap (λ b. b.rows) c.other.view_is) c.other.invariant
    c.args.from c.args.to c.requires.order c.requires.there c.len-at.result fits))

pub invariant_of-self : goal.invariant_of-self
invariant_of-self c =
    let mine = c.self.inside in
    let inside = c.other.inside in
    rw c.push_moved.ensures.ends (rw c.write.ensures.words (rw c.slice.ensures (rw c.len-at.ensures (rw c.begin-first.ensures (rw c.words_of_run-words.ensures (rw c.deref.ensures.value (taken-ends mine.words.words mine.ends.items c.args.self.now.rows (ap (λ b. b.rows) c.self.view_is) c.self.invariant inside.words.words inside.ends.items c.args.other.now.rows (ap (λ b. b.rows) c.other.view_is) c.other.invariant
    c.args.from c.args.to c.requires.order c.requires.there)))))))

pub returns-clause-rows : goal.returns-clause-rows
returns-clause-rows c =
    let mine = c.self.inside in
    let inside = c.other.inside in
    rw c.push_moved.ensures.ends (rw c.write.ensures.words (rw c.slice.ensures (rw c.len-at.ensures (rw c.begin-first.ensures (rw c.words_of_run-words.ensures (rw c.deref.ensures.value (taken-rows mine.words.words mine.ends.items c.args.self.now.rows (ap (λ b. b.rows) c.self.view_is) c.self.invariant inside.words.words inside.ends.items c.args.other.now.rows (ap (λ b. b.rows) c.other.view_is) c.other.invariant
    c.args.from c.args.to c.requires.order c.requires.there)))))))

pub returns-clause-room : goal.returns-clause-room
returns-clause-room c =
    let mine = c.self.inside in
    let inside = c.other.inside in
    let within =
    taken-inside mine.words.words mine.ends.items c.args.self.now.rows (ap (λ b. b.rows) c.self.view_is) c.self.invariant inside.words.words inside.ends.items c.args.other.now.rows (ap (λ b. b.rows) c.other.view_is) c.other.invariant
    c.args.from c.args.to c.requires.order c.requires.there in
    let rest = length-drop c.begin-first.result inside.words.words in
    let cut_off = ap length c.slice.ensures ∙ length-take c.words_of_run-words.result (drop c.begin-first.result inside.words.words) in
    omega (arith, within, rest, cut_off, c.begin-first.ensures, c.words_of_run-words.ensures, c.write.ensures.room, ap (λ b. b.room) c.self.view_is)
