use Rattle.std.proofs.Common.{◌≡◌, ℕ, ◌+◌, ◌<◌, ◌≤◌, true, false, List, [], length, take, get_or, slice_get, Some, sym, ap, ◌∙◌, arith}
use Rattle.std.specs.List.{list_any}
use Rattle.std.specs.Str.{bytes_eq}
use Rattle.std.proofs.lemmas.Bool.{or_from}
use Rattle.std.proofs.lemmas.List.{get_or-take, length-take-le}
use Rattle.std.proofs.lemmas.List.Folds.{list_any_at, list_any_more}
use Rattle.std.proofs.lemmas.Option.{get_or_from_slice_get}
use Rattle.script_text.proofs.name.is_among_first.Goals as goal

found : (names : List (List ℕ)) (count i : ℕ) (name other : List ℕ) → count ≤ length names → i < count → slice_get names i ≡ Some other → bytes_eq name other ≡ true → list_any (bytes_eq name) (take count names) ≡ true
found names count i name other few lt at same =
    let size : length (take count names) ≡ count = length-take-le count names few in
    list_any_at (bytes_eq name) (take count names) i [] (omega arith) (ap (bytes_eq name) (get_or-take count names i [] lt ∙ get_or_from_slice_get names i other [] at) ∙ same)

more : (names : List (List ℕ)) (i : ℕ) (name other : List ℕ) → i < length names → slice_get names i ≡ Some other → list_any (bytes_eq name) (take i names) ≡ false → bytes_eq name other ≡ false → list_any (bytes_eq name) (take (i + 1) names) ≡ false
more names i name other lt at none differ =
    list_any_more (bytes_eq name) names i [] lt ∙ or_from (list_any (bytes_eq name) (take i names)) (bytes_eq name (get_or names i [])) none (ap (bytes_eq name) (get_or_from_slice_get names i other [] at) ∙ differ)

pub returns-then-eq : goal.returns-then-eq
returns-then-eq c = sym (found c.args.script.now.names c.args.count c.loop-i.i c.args.name.now c.name.result.now c.requires c.loop-i-test.true c.name.ensures (sym c.eq.ensures ∙ c.if-eq.true))

pub loop-i-preserved : goal.loop-i-preserved
loop-i-preserved c =
    let few : c.args.count ≤ length c.args.script.now.names = c.requires in
    more c.args.script.now.names c.loop-i.i c.args.name.now c.name.result.now (omega arith) c.name.ensures c.loop-i.invariant (sym c.eq.ensures ∙ c.if-eq.false)
