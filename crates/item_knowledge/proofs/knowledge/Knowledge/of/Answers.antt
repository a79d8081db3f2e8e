use Rattle.std.proofs.Common.{rules, ◌≡◌, ap, sym, ◌∙◌}
use Rattle.std.proofs.lemmas.Result.{IfOk-weaker}
use Rattle.photo_version.specs.Version.{Version}
use Rattle.photo_version.specs.Vector as vectors
use Rattle.item_knowledge.specs.Entries.{denotes}
use Rattle.item_knowledge.specs.Fragments.{knows, Fragment}
use Rattle.item_knowledge.specs.TableRows.{entries_of}
use Rattle.item_knowledge.proofs.KeptLemmas.{is_of}
use Rattle.item_knowledge.proofs.TableRowLemmas.{entries_denote}
use Rattle.item_knowledge.proofs.StagedLemmas.{known_of}
use Rattle.item_knowledge.proofs.knowledge.Knowledge.of.Goals as goal

pub fragment-requires-clause-number : goal.fragment-requires-clause-number
fragment-requires-clause-number c = (is_of c.self.inside.live c.self.inside.index.items c.args.self.now.known c.args.picture c.number_of-number.result c.self.invariant.kept (known_of c.self.view_is) (search rules)).there

pub fragment-requires-clause-vector : goal.fragment-requires-clause-vector
fragment-requires-clause-vector c = (is_of c.self.inside.live c.self.inside.index.items c.args.self.now.known c.args.picture c.number_of-number.result c.self.invariant.kept (known_of c.self.view_is) (search rules)).vector

pub returns : goal.returns
returns c =
    let of = is_of c.self.inside.live c.self.inside.index.items c.args.self.now.known c.args.picture c.number_of-number.result c.self.invariant.kept (known_of c.self.view_is) (search rules) in
    IfOk-weaker c.vector.result (λ bs. entries_of bs ≡ c.fragment.result.entries) (λ bs. (v : Version) → vectors.denotes bs v ≡ knows c.args.self.now.known c.args.picture v)
    (λ bs same v. sym (entries_denote bs v) ∙ ap (λ es. denotes es v) same ∙ ap (λ (f : Fragment). denotes f.entries v) c.fragment.ensures ∙ of.known v) c.vector.ensures
