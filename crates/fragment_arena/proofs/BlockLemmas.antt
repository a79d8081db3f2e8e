-- The rows of an arena are its blocks' rows, in the order of blocks.
use Rattle.std.proofs.Common.{◌≡◌, ℕ, zero, suc, ◌+◌, ◌-◌, ◌<◌, ◌≤◌, List, [], ◌∷◌, ◌++◌, length, take, drop, get_or, set, refl, sym, ap, subst, ◌∙◌, arith, append_assoc, append-nil, length-append, length-set}
use Rattle.std.proofs.Math.ListN.{get_or-append}
use Rattle.std.proofs.Math.Seq.{get_or-append-add, take-append-le, drop-append-le, drop-append-add, take-suc}
use Rattle.std.proofs.lemmas.List.{length-drop, get_or-set_same}
use Rattle.fragment_arena.specs.Arena.{run}
use Rattle.fragment_arena.specs.Rows.{Rows, no_block, block_at, last_block, rows_of, before, IsIn, IsStretch, IsArena}

-- reading an existing block gives it, whatever the default
pub block_at-any : (blocks : List Rows) (k : ℕ) (d : Rows) → k < length blocks → get_or blocks k d ≡ block_at blocks k
block_at-any [] k d lt = absurd (omega (arith, lt))
block_at-any (b ∷ bs) zero d lt = refl
block_at-any (b ∷ bs) (suc k) d lt = block_at-any bs k d (omega (arith, lt))

-- replacing a block by one with the same rows keeps the arena's rows
pub rows-same : (blocks : List Rows) (k : ℕ) (b : Rows) → k < length blocks → b.rows ≡ (block_at blocks k).rows → rows_of (set blocks k b) ≡ rows_of blocks
rows-same [] k b lt same = absurd (omega (arith, lt))
rows-same (x ∷ xs) zero b lt same = ap (λ rows. rows ++ rows_of xs) same
rows-same (x ∷ xs) (suc k) b lt same = ap (λ rows. x.rows ++ rows) (rows-same xs k b (omega (arith, lt)) same)

-- rows appended to the last block are appended to the arena
pub rows-more : (blocks : List Rows) (k : ℕ) (b : Rows) (more : List (List ℕ)) → k + 1 ≡ length blocks → b.rows ≡ (block_at blocks k).rows ++ more → rows_of (set blocks k b) ≡ rows_of blocks ++ more
rows-more [] k b more last new = absurd (omega (arith, last))
rows-more (x ∷ []) zero b more last new = ap (λ rows. rows ++ []) new ∙ append-nil (x.rows ++ more) ∙ ap (λ rows. rows ++ more) (sym (append-nil x.rows))
rows-more (x ∷ y ∷ ys) zero b more last new = absurd (omega (arith, last))
rows-more (x ∷ xs) (suc k) b more last new =
    ap (λ rows. x.rows ++ rows) (rows-more xs k b more (omega (arith, last)) new) ∙ sym (append_assoc x.rows (rows_of xs) more)

pub rows-added : (blocks : List Rows) (b : Rows) → rows_of (blocks ++ b ∷ []) ≡ rows_of blocks ++ b.rows
rows-added [] b = append-nil b.rows
rows-added (x ∷ xs) b = ap (λ rows. x.rows ++ rows) (rows-added xs b) ∙ sym (append_assoc x.rows (rows_of xs) b.rows)

pub last-set : (blocks : List Rows) (k : ℕ) (b : Rows) → k + 1 ≡ length blocks → last_block (set blocks k b) ≡ b
last-set blocks k b last =
    let place : length (set blocks k b) - 1 ≡ k = omega (arith, last, length-set blocks k b) in
    ap (block_at (set blocks k b)) place ∙ get_or-set_same blocks k b no_block (omega (arith, last))

pub last-at : (blocks : List Rows) (k : ℕ) → k + 1 ≡ length blocks → last_block blocks ≡ block_at blocks k
last-at blocks k last = let place : length blocks - 1 ≡ k = omega (arith, last) in ap (block_at blocks) place

-- an arena with capacity for rows has a block
pub some-block : (blocks : List Rows) → 0 < (last_block blocks).slots → 0 < length blocks
some-block [] some = absurd (omega (arith, some))
some-block (b ∷ bs) some = omega arith

-- each row is in a block

pub before-first : (blocks : List Rows) → before blocks 0 ≡ 0
before-first [] = refl
before-first (b ∷ bs) = refl

pub before-next : (blocks : List Rows) (k : ℕ) → k < length blocks → before blocks (k + 1) ≡ before blocks k + length (block_at blocks k).rows
before-next [] k lt = absurd (omega (arith, lt))
before-next (b ∷ bs) zero lt = omega (arith, before-first bs)
before-next (b ∷ bs) (suc k) lt = let place : suc k + 1 ≡ suc (k + 1) = omega arith in ap (before (b ∷ bs)) place ∙ omega (arith, before-next bs k (omega (arith, lt)))

pub still-there : (blocks : List Rows) (k row place : ℕ) → before blocks k + row ≡ place → place < length (rows_of blocks) → k < length blocks
still-there [] k row place is lt = absurd (omega (arith, lt))
still-there (b ∷ bs) zero row place is lt = omega arith
still-there (b ∷ bs) (suc k) row place is lt =
    let rest : before bs k + row < length (rows_of bs) = omega (arith, is, lt, length-append b.rows (rows_of bs)) in
    omega (arith, still-there bs k row (before bs k + row) refl rest)

at-place : (blocks : List Rows) (k row : ℕ) → k < length blocks → row < length (block_at blocks k).rows → get_or (rows_of blocks) (before blocks k + row) [] ≡ get_or (block_at blocks k).rows row []
at-place [] k row lt inside = absurd (omega (arith, lt))
at-place (b ∷ bs) zero row lt inside = let first : 0 + row ≡ row = omega arith in ap (λ n. get_or (b.rows ++ rows_of bs) n []) first ∙ get_or-append b.rows (rows_of bs) [] row inside
at-place (b ∷ bs) (suc k) row lt inside =
    let place : length b.rows + before bs k + row ≡ length b.rows + (before bs k + row) = omega arith in
    ap (λ n. get_or (b.rows ++ rows_of bs) n []) place ∙ get_or-append-add b.rows (rows_of bs) (before bs k + row) [] ∙ at-place bs k row (omega (arith, lt)) inside

pub row-in : (blocks : List Rows) (place block row : ℕ) → IsIn blocks place block row → get_or (rows_of blocks) place [] ≡ get_or (block_at blocks block).rows row []
row-in blocks place block row is = ap (λ n. get_or (rows_of blocks) n []) (sym is.counted) ∙ at-place blocks block row is.block_is_there is.row_is_there

-- a run of rows within one block

run-left : (xs ys : List (List ℕ)) (from len : ℕ) → from + len ≤ length xs → take len (drop from (xs ++ ys)) ≡ take len (drop from xs)
run-left xs ys from len le =
    let low : from ≤ length xs = omega (arith, le) in
    let high : len ≤ length (drop from xs) = omega (arith, le, length-drop from xs) in
    ap (take len) (drop-append-le from xs ys low) ∙ take-append-le len (drop from xs) ys high

run-place : (blocks : List Rows) (k from len : ℕ) → k < length blocks → from + len ≤ length (block_at blocks k).rows → take len (drop (before blocks k + from) (rows_of blocks)) ≡ take len (drop from (block_at blocks k).rows)
run-place [] k from len lt le = absurd (omega (arith, lt))
run-place (b ∷ bs) zero from len lt le = let first : 0 + from ≡ from = omega arith in ap (λ n. take len (drop n (b.rows ++ rows_of bs))) first ∙ run-left b.rows (rows_of bs) from len le
run-place (b ∷ bs) (suc k) from len lt le =
    let place : length b.rows + before bs k + from ≡ length b.rows + (before bs k + from) = omega arith in
    ap (λ n. take len (drop n (b.rows ++ rows_of bs))) place ∙ ap (take len) (drop-append-add b.rows (rows_of bs) (before bs k + from)) ∙ run-place bs k from len (omega (arith, lt)) le

pub run-in : (blocks : List Rows) (place block row to end : ℕ) → IsIn blocks place block row → row ≤ end → end ≤ length (block_at blocks block).rows → to ≡ place + (end - row)
    → run (rows_of blocks) place to ≡ run (block_at blocks block).rows row end
run-in blocks place block row to end is low high far =
    let count : to - place ≡ end - row = omega (arith, far) in
    let inside : row + (end - row) ≤ length (block_at blocks block).rows = omega (arith, low, high) in
    (λ i. take (count i) (drop (sym is.counted i) (rows_of blocks))) ∙ run-place blocks block row (end - row) is.block_is_there inside

-- copies of blocks

pub copied : (blocks copies : List Rows) (i : ℕ) (b d : Rows) → i < length blocks → b.rows ≡ (get_or blocks i d).rows → rows_of copies ≡ rows_of (take i blocks) → rows_of (copies ++ b ∷ []) ≡ rows_of (take (i + 1) blocks)
copied blocks copies i b d lt same so_far =
    let next : i + 1 ≡ suc i = omega arith in
    rows-added copies b ∙ (λ j. so_far j ++ same j) ∙ sym (rows-added (take i blocks) (get_or blocks i d)) ∙ ap rows_of (sym (take-suc blocks i d lt)) ∙ ap (λ n. rows_of (take n blocks)) (sym next)

-- what rows appended to the last block change in an arena
pub arena-more : (blocks : List Rows) (count words slots k taken_words taken_slots : ℕ) (b : Rows) (more : List (List ℕ)) → IsArena blocks count words slots → k + 1 ≡ length blocks
    → b.rows ≡ (block_at blocks k).rows ++ more → length more ≡ taken_slots → taken_words ≤ words → taken_slots ≤ slots → b.room + taken_words ≡ (block_at blocks k).room → (block_at blocks k).slots ≤ b.slots + taken_slots
    → IsArena (set blocks k b) (count + taken_slots) (words - taken_words) (slots - taken_slots)
arena-more blocks count words slots k taken_words taken_slots b more a last new long enough_words enough_slots room free =
    let all = ap length (rows-more blocks k b more last new) ∙ length-append (rows_of blocks) more in
    let is = last-set blocks k b last in
    let was = last-at blocks k last in
    record {
      counted = omega (arith, all, long, a.counted);
      words_are_there = omega (arith, ap (λ x. x.room) is, ap (λ x. x.room) was, room, enough_words, a.words_are_there);
      rows_are_there = omega (arith, ap (λ x. x.slots) is, ap (λ x. x.slots) was, free, enough_slots, a.rows_are_there);
      few = omega (arith, a.few, enough_slots);
    }

pub is-in : (blocks others : List Rows) (place other block row : ℕ) → blocks ≡ others → place ≡ other → IsIn blocks place block row → IsIn others other block row
is-in blocks others place other block row same here is = subst (λ bs. IsIn bs other block row) same (subst (λ n. IsIn blocks n block row) here is)

pub is-stretch : (blocks others : List Rows) (from to block first end : ℕ) → blocks ≡ others → IsStretch blocks from to block first end → IsStretch others from to block first end
is-stretch blocks others from to block first end same is = subst (λ bs. IsStretch bs from to block first end) same is

-- the words of a stretch
pub stretch-words : (blocks : List Rows) (rows : List (List ℕ)) (from to block first end : ℕ) → rows_of blocks ≡ rows → IsStretch blocks from to block first end
    → run rows from (from + (end - first)) ≡ run (block_at blocks block).rows first end
stretch-words blocks rows from to block first end is s = ap (λ rs. run rs from (from + (end - first))) (sym is) ∙ s.same
