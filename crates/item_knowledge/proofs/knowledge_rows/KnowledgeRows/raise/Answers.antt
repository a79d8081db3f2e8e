use Rattle.std.proofs.Common.{◌<◌, length, refl, subst, ap, arith}
use Rattle.item_knowledge.specs.Entries.{bound}
use Rattle.item_knowledge.specs.Rows.{pairs, IsPlaceOf}
use Rattle.item_knowledge.proofs.KnowledgeRowLemmas.{raised_inside, raised_star}
use Rattle.item_knowledge.proofs.knowledge_rows.KnowledgeRows.raise.Goals as goal

pub overflow_mul-place : goal.overflow_mul-place
overflow_mul-place c = let inside = raised_inside c.self.inside.star.items c.self.inside.rows c.args.self.now c.args.author c.args.n c.entry_place-place.result c.self.invariant c.self.view_is c.requires.waiting (subst (λ ws. 0 < bound (pairs ws) c.args.author → IsPlaceOf (pairs ws) c.entry_place-place.result c.args.author) c.deref.ensures.value c.entry_place-place.ensures) in omega (arith, inside, ap length c.deref.ensures.value, c.deref.ensures.len)

pub overflow_add-place : goal.overflow_add-place
overflow_add-place c = let inside = raised_inside c.self.inside.star.items c.self.inside.rows c.args.self.now c.args.author c.args.n c.entry_place-place.result c.self.invariant c.self.view_is c.requires.waiting (subst (λ ws. 0 < bound (pairs ws) c.args.author → IsPlaceOf (pairs ws) c.entry_place-place.result c.args.author) c.deref.ensures.value c.entry_place-place.ensures) in omega (arith, inside, ap length c.deref.ensures.value, c.deref.ensures.len)

pub index_mut-requires : goal.index_mut-requires
index_mut-requires c =
    let inside = raised_inside c.self.inside.star.items c.self.inside.rows c.args.self.now c.args.author c.args.n c.entry_place-place.result c.self.invariant c.self.view_is c.requires.waiting (subst (λ ws. 0 < bound (pairs ws) c.args.author → IsPlaceOf (pairs ws) c.entry_place-place.result c.args.author) c.deref.ensures.value c.entry_place-place.ensures) in
    omega (arith, inside, ap length c.deref.ensures.value, c.deref.ensures.len)

pub invariant_of-self : goal.invariant_of-self
invariant_of-self c = (raised_star c.self.inside.star.items c.self.inside.rows c.args.self.now c.args.author c.args.n c.entry_place-place.result c.self.invariant c.self.view_is c.requires.waiting (subst (λ ws. 0 < bound (pairs ws) c.args.author → IsPlaceOf (pairs ws) c.entry_place-place.result c.args.author) c.deref.ensures.value c.entry_place-place.ensures) _ refl).excess

pub returns : goal.returns
returns c = (raised_star c.self.inside.star.items c.self.inside.rows c.args.self.now c.args.author c.args.n c.entry_place-place.result c.self.invariant c.self.view_is c.requires.waiting (subst (λ ws. 0 < bound (pairs ws) c.args.author → IsPlaceOf (pairs ws) c.entry_place-place.result c.args.author) c.deref.ensures.value c.entry_place-place.ensures) _ refl).shown
