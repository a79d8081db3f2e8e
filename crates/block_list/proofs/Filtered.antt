-- Blocks of which the elements that pass a test are kept.
use Rattle.std.proofs.Common.{◌≡◌, ℕ, suc, ◌+◌, ◌<◌, Bool, not, eqb, List, [], ◌∷◌, ◌++◌, length, get_or, set, take, drop, Vec, refl, sym, ap, ◌∙◌, length-append, arith}
use Rattle.std.specs.Prelude.{filter}
use Rattle.std.specs.declared.alloc.Global.{Global}
use Rattle.std.proofs.lemmas.List.Elements.{filter-append}
use Rattle.std.proofs.lemmas.Grind.{common_steps}
use Rattle.block_list.specs.Blocks.{joined}
use Rattle.block_list.proofs.Joined.{joined_set, parts, up_to}

module _ {T : Type 0} where
  filter_twice : (p : T → Bool) (xs : List T) → filter p (filter p xs) ≡ filter p xs
  filter_twice p [] = refl
  filter_twice p (x ∷ xs) = grind (arith, filter_twice p xs)

  -- a block is filtered: what passes stays the same
  pub filter_set : (p : T → Bool) (blocks : List (Vec T Global)) (b : ℕ) (v d : Vec T Global) → b < length blocks → d ≡ get_or blocks b d → v.items ≡ filter p d.items → filter p (joined (set blocks b v)) ≡ filter p (joined blocks)
  filter_set p blocks b v d h is e =
      let front = joined (take b blocks) in
      let back = joined (drop (suc b) blocks) in
      rw (joined_set blocks b v h, parts blocks b d h is, filter-append p front (v.items ++ back), filter-append p front (d.items ++ back), filter-append p v.items back, filter-append p d.items back)
      (ap (λ l. filter p front ++ (l ++ filter p back)) (ap (filter p) e ∙ filter_twice p d.items))

  -- and there is one block more of which all pass
  pub passing_more : (p : T → Bool) (blocks : List (Vec T Global)) (b : ℕ) (v : Vec T Global) (items : List T) → b < length blocks → v.items ≡ filter p items → filter p (joined (take b blocks)) ≡ joined (take b blocks) → filter p (joined (take (b + 1) (set blocks b v))) ≡ joined (take (b + 1) (set blocks b v))
  passing_more p blocks b v items h e all = rw (up_to blocks b v h) (filter-append p (joined (take b blocks)) v.items ∙ (λ i. all i ++ (ap (filter p) e ∙ filter_twice p items ∙ sym e) i))

  -- how many elements there are
  pub length_set_block : (blocks : List (Vec T Global)) (b : ℕ) (v d : Vec T Global) → b < length blocks → d ≡ get_or blocks b d → length (joined (set blocks b v)) + length d.items ≡ length (joined blocks) + length v.items
  length_set_block blocks b v d h is =
      rw (joined_set blocks b v h, parts blocks b d h is) (simp length-append (omega arith))

  -- without the empty blocks

  pub joined-filled : (blocks : List (Vec T Global)) → joined (filter (λ (block : Vec T Global). not (eqb (length block.items) 0)) blocks) ≡ joined blocks
  joined-filled [] = refl
  joined-filled (x ∷ xs) = grind (arith, common_steps, joined-filled xs)
