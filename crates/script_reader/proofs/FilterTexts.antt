-- What a text says in the place of a filter.
use Rattle.std.proofs.Common.{◌≡◌, ◌≢◌, ℕ, true, false, List, Ok, Err, sym, ap, ◌∙◌}
use Rattle.std.proofs.lemmas.Bool.{true≢false}
use Rattle.photo_filter_text.specs.Tree.{Tree}
use Rattle.photo_filter_text.specs.Tokens.{tokens_of}
use Rattle.photo_filter_text.specs.Fault.{IsFilter, IsFault}
use Rattle.photo_filter_text.specs.declared.fault.FilterFault.{FilterFault}
use Rattle.photo_filter_text.specs.declared.fault.FilterFault.TheVariants.{NoMemory}
use Rattle.photo_filter_text.proofs.Complete.{one-tree}
use Rattle.photo_filter_text.proofs.Verdict.{no-fault}
use Rattle.photo_filter_rules.specs.declared.polarity.Polarity.TheVariants.{Plain}
use Rattle.photo_filter_rules.specs.Alternatives.{is_too_wide}
use Rattle.photo_filter_rules.specs.Filters.{IsFilterOf}
use Rattle.photo_filter_rules.proofs.Found.{found, not-found}
use Rattle.script_reader.specs.Saying.{filter_said, or_fault}
use Rattle.script_reader.specs.declared.fault.LineFault.TheVariants.{BadFilter}

-- a filter that is read and not too wide
pub filter-said : (text : List ℕ) (tree : Tree) → IsFilter (tokens_of text) tree → is_too_wide tree Plain ≡ false → filter_said text ≡ Ok tree
unfolding filter_said
filter-said text tree read narrow = ap (λ o. or_fault o BadFilter) ((found text tree).1 (record { read = read; narrow = narrow }))

none-said : (text : List ℕ) → ((tree : Tree) → IsFilterOf text tree → ⊥) → filter_said text ≡ Err BadFilter
unfolding filter_said
none-said text none = ap (λ o. or_fault o BadFilter) (not-found text none)

-- a text that isn't read
pub fault-said : (text : List ℕ) (fault : FilterFault) → fault ≢ NoMemory → IsFault (tokens_of text) fault → filter_said text ≡ Err BadFilter
fault-said text fault other is = none-said text (λ tree f. other (no-fault (tokens_of text) tree fault f.read is))

-- a filter that is too wide
pub wide-said : (text : List ℕ) (tree : Tree) → IsFilter (tokens_of text) tree → is_too_wide tree Plain ≡ true → filter_said text ≡ Err BadFilter
wide-said text tree read wide =
    none-said text (λ other f.
    let same = one-tree (tokens_of text) tree other read.grammar f.read.grammar in
    true≢false (sym wide ∙ ap (λ t. is_too_wide t Plain) same ∙ f.narrow))
