-- Blocks as one list.
use Rattle.std.proofs.Common.{slice_get, Some, None, ◌≡◌, ℕ, zero, suc, ◌+◌, ◌<◌, ◌≤◌, List, [], ◌∷◌, ◌++◌, length, get_or, set, take, drop, Vec, refl, sym, ap, ◌∙◌, append_assoc, append-nil, arith}
use Rattle.std.specs.List.{insert, remove}
use Rattle.std.specs.declared.alloc.Global.{Global}
use Rattle.std.proofs.lemmas.List.{set_split, set-get_or, length-take-le, take_at, drop_at, drop-drop, drop-set-lt, take_more_set, take-append-drop, take-append-le, drop-append-le, take_all}
use Rattle.std.proofs.Math.Seq.{take-append-add, drop-append-add, take-append_seam, drop-append_seam}
use Rattle.std.proofs.lemmas.List.Concat.{flat_map-append}
use Rattle.std.proofs.lemmas.List.Folds.{length-flat_map-take}
use Rattle.std.proofs.lemmas.Option.{slice_get-get_or, slice_get_past}
use Rattle.std.proofs.lemmas.List.Elements.{All-set, All-take, All-drop, All-append, All-cons}
use Rattle.std.proofs.lemmas.Grind.{common_steps}
use Rattle.block_list.specs.Blocks.{joined, IsFilled, AreFilled, start_of, IsAt}

-- the elements of the middle list from k up to before j are replaced, which are those from i up to before m of the whole
spliced : {T : Type 0} (front items back new : List T) (i m k j : ℕ) → length front + k ≡ i → length front + j ≡ m → k ≤ j → j ≤ length items → front ++ ((take k items ++ (new ++ drop j items)) ++ back) ≡ take i (front ++ (items ++ back)) ++ (new ++ drop m (front ++ (items ++ back)))
spliced front items back new i m k j from to order within =
    rw (← from, ← to, take-append-add front (items ++ back) k, drop-append-add front (items ++ back) j, take-append-le k items back (omega arith), drop-append-le j items back within) (simp append_assoc)

-- from a list out of which the elements from `from` up to before `at` are gone, r more go
pub removed_more : {T : Type 0} (xs : List T) (from at r n : ℕ) → from ≤ length xs → n ≡ at + r → take from (take from xs ++ drop at xs) ++ drop (from + r) (take from xs ++ drop at xs) ≡ take from xs ++ drop n xs
removed_more xs from at r n h e =
    let front = length-take-le from xs h in
    rw (e, take_at (take from xs) (drop at xs) from front, ← drop-drop r from (take from xs ++ drop at xs), drop_at (take from xs) (drop at xs) from front, drop-drop r at xs) refl

module _ {T : Type 0} where
  -- the list where a block is replaced: what stands before it, the block, and what stands behind it
  pub joined_set : (blocks : List (Vec T Global)) (b : ℕ) (v : Vec T Global) → b < length blocks → joined (set blocks b v) ≡ joined (take b blocks) ++ (v.items ++ joined (drop (suc b) blocks))
  joined_set blocks b v h = ap joined (set_split blocks b v h) ∙ flat_map-append (λ block. block.items) (take b blocks) (v ∷ drop (suc b) blocks)

  -- the same of the list as it is
  pub parts : (blocks : List (Vec T Global)) (b : ℕ) (d : Vec T Global) → b < length blocks → d ≡ get_or blocks b d → joined blocks ≡ joined (take b blocks) ++ (d.items ++ joined (drop (suc b) blocks))
  parts blocks b d h is = ap joined (sym (set-get_or blocks b d) ∙ ap (set blocks b) (sym is)) ∙ joined_set blocks b d h

  -- a block that is replaced by an equal one
  pub joined_same : (blocks : List (Vec T Global)) (b : ℕ) (v d : Vec T Global) → b < length blocks → d ≡ get_or blocks b d → v.items ≡ d.items → joined (set blocks b v) ≡ joined blocks
  joined_same blocks b v d h is e = joined_set blocks b v h ∙ ap (λ l. joined (take b blocks) ++ (l ++ joined (drop (suc b) blocks))) e ∙ sym (parts blocks b d h is)

  -- what stands at a place, in the block that was read
  pub at_read : (blocks : List (Vec T Global)) (b k n : ℕ) (d : Vec T Global) → IsAt blocks b k n → d ≡ get_or blocks b d → k + n ≤ length d.items
  at_read blocks b k n d at is = let within = at.within d in omega (arith, ap (λ (w : Vec T Global). length w.items) is)

  -- the elements of one block from place k up to before place j are replaced

  around : (blocks : List (Vec T Global)) (i m b k j : ℕ) (new : List T) (d : Vec T Global) → b < length blocks → k ≤ j → j ≤ length d.items → start_of blocks b + k ≡ i → start_of blocks b + j ≡ m → d ≡ get_or blocks b d → joined (take b blocks) ++ ((take k d.items ++ (new ++ drop j d.items)) ++ joined (drop (suc b) blocks)) ≡ take i (joined blocks) ++ (new ++ drop m (joined blocks))
  around blocks i m b k j new d h order within from to is =
      spliced (joined (take b blocks)) d.items (joined (drop (suc b) blocks)) new i m k j from to order within
      ∙ sym (ap (λ l. take i l ++ (new ++ drop m l)) (parts blocks b d h is))

  pub edited : (blocks : List (Vec T Global)) (i m b k j : ℕ) (new : List T) (v d : Vec T Global) → b < length blocks → k ≤ j → j ≤ length d.items → start_of blocks b + k ≡ i → start_of blocks b + j ≡ m → d ≡ get_or blocks b d → v.items ≡ take k d.items ++ (new ++ drop j d.items) → joined (set blocks b v) ≡ take i (joined blocks) ++ (new ++ drop m (joined blocks))
  edited blocks i m b k j new v d h order within from to is e =
      joined_set blocks b v h
      ∙ ap (λ l. joined (take b blocks) ++ (l ++ joined (drop (suc b) blocks))) e
      ∙ around blocks i m b k j new d h order within from to is

  -- those elements go
  pub joined_drop : (blocks : List (Vec T Global)) (i m b k j : ℕ) (v d : Vec T Global) → d ≡ get_or blocks b d → v.items ≡ take k d.items ++ drop j d.items → b < length blocks → k ≤ j → j ≤ length d.items → start_of blocks b + k ≡ i → start_of blocks b + j ≡ m → joined (set blocks b v) ≡ take i (joined blocks) ++ drop m (joined blocks)
  joined_drop blocks i m b k j v d is e h order within from to = edited blocks i m b k j [] v d h order within from to is e

  pub joined_insert : (blocks : List (Vec T Global)) (b k i : ℕ) (x : T) (v d : Vec T Global) → d ≡ get_or blocks b d → v.items ≡ insert d.items k x → b < length blocks → k ≤ length d.items → start_of blocks b + k ≡ i → joined (set blocks b v) ≡ insert (joined blocks) i x
  joined_insert blocks b k i x v d is e h within at = edited blocks i i b k k (x ∷ []) v d h (omega arith) within at at is e

  pub joined_first : (blocks : List (Vec T Global)) (b : ℕ) (x : T) (v d : Vec T Global) → d ≡ get_or blocks b d → v.items ≡ x ∷ d.items → b < length blocks → joined (set blocks b v) ≡ insert (joined blocks) (start_of blocks b) x
  joined_first blocks b x v d is e h = joined_insert blocks b 0 (start_of blocks b) x v d is e h (omega arith) (omega arith)

  -- blocks that are filled stay so

  pub filled_insert : (blocks : List (Vec T Global)) (b : ℕ) (v : Vec T Global) → 0 < length v.items → AreFilled blocks → AreFilled (insert blocks b v)
  filled_insert blocks b v n f = All-append IsFilled _ _ (All-take IsFilled b blocks f) (All-cons IsFilled v _ n (All-drop IsFilled b blocks f))

  pub filled_cut : (blocks : List (Vec T Global)) (b : ℕ) (v w : Vec T Global) → 0 < length v.items → 0 < length w.items → AreFilled blocks → AreFilled (insert (set blocks b v) (b + 1) w)
  filled_cut blocks b v w front back filled = filled_insert _ _ _ back (All-set IsFilled _ _ _ front filled)

  -- one block further
  pub start_more : (blocks : List (Vec T Global)) (b : ℕ) (d : Vec T Global) → b < length blocks → (start_of blocks (b + 1) ≡ start_of blocks b + length (get_or blocks b d).items) × (start_of blocks b + length (get_or blocks b d).items ≤ length (joined blocks))
  start_more blocks b d h = (grind (arith, common_steps), length-flat_map-take (λ block. block.items) blocks b d h)

  pub joined_write : (blocks : List (Vec T Global)) (b k : ℕ) (x : T) (v d : Vec T Global) → IsAt blocks b k 1 → d ≡ get_or blocks b d → v.items ≡ set d.items k x → joined (set blocks b v) ≡ set (joined blocks) (start_of blocks b + k) x
  joined_write blocks b k x v d at is e =
      let inside : k < length d.items = omega (arith, at_read blocks b k 1 d at is) in
      edited blocks (start_of blocks b + k) (suc (start_of blocks b + k)) b k (suc k) (x ∷ []) v d at.block (omega arith) inside refl (omega arith) is (e ∙ set_split d.items k x inside)
      ∙ sym (set_split (joined blocks) (start_of blocks b + k) x (omega (arith, ap (λ (w : Vec T Global). length w.items) is, (start_more blocks b d at.block).1)))

  -- the list is cut behind a block that is replaced

  pub up_to : (blocks : List (Vec T Global)) (b : ℕ) (v : Vec T Global) → b < length blocks → joined (take (b + 1) (set blocks b v)) ≡ joined (take b blocks) ++ v.items
  up_to blocks b v h = rw (take_more_set blocks b v h) (flat_map-append (λ block. block.items) (take b blocks) (v ∷ []) ∙ ap (λ l. joined (take b blocks) ++ l) (append-nil v.items))

  behind : (blocks : List (Vec T Global)) (b : ℕ) (v : Vec T Global) → drop (b + 1) (set blocks b v) ≡ drop (suc b) blocks
  behind blocks b v = let next : b + 1 ≡ suc b = omega arith in rw next (drop-set-lt (suc b) blocks b v (omega arith))

  pub joined_cut : (blocks : List (Vec T Global)) (b : ℕ) (v w d : Vec T Global) → b < length blocks → d ≡ get_or blocks b d → v.items ++ w.items ≡ d.items → joined (insert (set blocks b v) (b + 1) w) ≡ joined blocks
  joined_cut blocks b v w d h is e =
      rw (flat_map-append (λ block. block.items) (take (b + 1) (set blocks b v)) (w ∷ drop (b + 1) (set blocks b v)), up_to blocks b v h, behind blocks b v, parts blocks b d h is, ← e) (simp append_assoc)

  -- without an empty block
  pub joined_remove : (blocks : List (Vec T Global)) (b : ℕ) (d : Vec T Global) → b < length blocks → (get_or blocks b d).items ≡ [] → joined (remove blocks b) ≡ joined blocks
  joined_remove [] b d h e = absurd (omega arith)
  joined_remove (x ∷ xs) zero d h e = ap (λ l. l ++ joined xs) (sym e)
  joined_remove (x ∷ xs) (suc b) d h e = ap (λ l. x.items ++ l) (joined_remove xs b d (omega arith) e)

  -- a read within a block

  sliced : (front items back : List T) (k : ℕ) → k < length items → slice_get (front ++ (items ++ back)) (length front + k) ≡ slice_get items k
  sliced [] [] back k l = absurd (omega arith)
  sliced [] (x ∷ items) back zero l = refl
  sliced [] (x ∷ items) back (suc k) l = grind (arith, sliced [] items back k)
  sliced (y ∷ front) items back k l = grind (arith, sliced front items back k l)

  pub block_read : (blocks : List (Vec T Global)) (b k : ℕ) (v : Vec T Global) → b < length blocks → v ≡ get_or blocks b v → k < length v.items → slice_get (joined blocks) (start_of blocks b + k) ≡ slice_get v.items k
  block_read blocks b k v h is l = ap (λ xs. slice_get xs (start_of blocks b + k)) (parts blocks b v h is) ∙ sliced (joined (take b blocks)) v.items (joined (drop (suc b) blocks)) k l

  pub read_at : (blocks : List (Vec T Global)) (b k : ℕ) (v : Vec T Global) (x : T) → b < length blocks → k < length v.items → v ≡ get_or blocks b v → x ≡ get_or v.items k x → slice_get (joined blocks) (start_of blocks b + k) ≡ Some x
  read_at blocks b k v x h l is item = block_read blocks b k v h is l ∙ slice_get-get_or v.items k x l ∙ ap Some (sym item)

  -- behind the last element of a block

  pub read_behind : (blocks : List (Vec T Global)) (b k : ℕ) (v w : Vec T Global) (x : T) → IsAt blocks b k 0 → AreFilled blocks → v ≡ get_or blocks b v → length v.items ≤ k → w ≡ get_or blocks (b + 1) w → x ≡ get_or w.items 0 x → b + 1 < length blocks → slice_get (joined blocks) (start_of blocks b + k) ≡ Some x
  read_behind blocks b k v w x at filled is end w_is x_is h =
      let len = ap (λ (u : Vec T Global). length u.items) is in
      let place : start_of blocks b + k ≡ start_of blocks (b + 1) + 0 = omega (arith, at_read blocks b k 0 v at is, (start_more blocks b v at.block).0) in
      rw place (read_at blocks (b + 1) 0 w x h (omega (arith, filled (b + 1) w h, ap (λ (u : Vec T Global). length u.items) w_is)) w_is x_is)

  pub read_past : (blocks : List (Vec T Global)) (b k : ℕ) (v : Vec T Global) → IsAt blocks b k 0 → v ≡ get_or blocks b v → length v.items ≤ k → length blocks ≤ b + 1 → slice_get (joined blocks) (start_of blocks b + k) ≡ None
  read_past blocks b k v at is end h =
      let len = ap (λ (u : Vec T Global). length u.items) is in
      slice_get_past (joined blocks) (start_of blocks b + k) (omega (arith, (start_more blocks b v at.block).0, ap (λ l. length (joined l)) (take_all (b + 1) blocks h)))

  -- an element between two parts of a list
  insert_between : (front back : List T) (x : T) → front ++ x ∷ back ≡ insert (front ++ back) (length front) x
  insert_between front back x = rw (take-append_seam front back, drop-append_seam front back) refl

  -- a block of one element before another, or behind all
  pub joined_open : (blocks : List (Vec T Global)) (b : ℕ) (x : T) (w : Vec T Global) → w.items ≡ x ∷ [] → joined (insert blocks b w) ≡ insert (joined blocks) (start_of blocks b) x
  joined_open blocks b x w e =
      flat_map-append (λ block. block.items) (take b blocks) (w ∷ drop b blocks)
      ∙ ap (λ l. joined (take b blocks) ++ (l ++ joined (drop b blocks))) e
      ∙ insert_between (joined (take b blocks)) (joined (drop b blocks)) x
      ∙ ap (λ l. insert l (start_of blocks b) x) (sym (flat_map-append (λ block. block.items) (take b blocks) (drop b blocks)) ∙ ap joined (take-append-drop b blocks))

  -- an element is put into a block, and the last one goes before the next block
  pub joined_push_out : (blocks new : List (Vec T Global)) (b k : ℕ) (x last : T) (v d : Vec T Global) → IsAt blocks b k 0 → d ≡ get_or blocks b d → v.items ++ last ∷ [] ≡ insert d.items k x → joined new ≡ insert (joined (set blocks b v)) (start_of (set blocks b v) (b + 1)) last → joined new ≡ insert (joined blocks) (start_of blocks b + k) x
  joined_push_out blocks new b k x last v d at is e new_is =
      let front = joined (take b blocks) in
      let back = joined (drop (suc b) blocks) in
      let i = start_of blocks b + k in
      rw (new_is, up_to blocks b v at.block, joined_set blocks b v at.block, ← append_assoc front v.items back, ← insert_between (front ++ v.items) back last)
      (simp append_assoc (ap (λ l. front ++ l) (sym (append_assoc v.items (last ∷ []) back) ∙ ap (λ l. l ++ back) e) ∙ around blocks i i b k k (x ∷ []) d at.block (omega arith) (omega (arith, at_read blocks b k 0 d at is)) refl refl is))
