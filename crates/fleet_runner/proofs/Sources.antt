-- What follows of a source that is refused before its end.
use Rattle.std.proofs.Common.{◌≡◌, ◌≢◌, ◌⊎◌, ◌<◌, ℕ, List, length, Err, inl, inr, sym, ap, ◌∙◌}
use Rattle.std.specs.Prelude.{Option, IfSome}
use Rattle.std.proofs.lemmas.Option.{IfSome_then}
use Rattle.script_reader.specs.Limits.{max_text_bytes}
use Rattle.script_reader.specs.Reading.{script_of}
use Rattle.script_reader.specs.declared.fault.ScriptFault.{ScriptFault}
use Rattle.script_reader.specs.declared.fault.ScriptFault.TheVariants.{Read, NoMemory, TooLarge}
use Rattle.script_reader.proofs.Whole.{script_of-large}

pub refused-source : (known : Option (List ℕ)) (fault : ScriptFault) → (fault ≡ Read) ⊎ ((fault ≡ NoMemory) ⊎ (fault ≡ TooLarge)) → (fault ≡ TooLarge → IfSome known (λ input. max_text_bytes < length input))
    → fault ≢ Read → fault ≢ NoMemory → IfSome known (λ input. script_of input ≡ Err fault)
refused-source known fault (inl e) large read memory = absurd (read e)
refused-source known fault (inr (inl e)) large read memory = absurd (memory e)
refused-source known fault (inr (inr e)) large read memory =
    IfSome_then known (large e) (λ input long. script_of-large input long ∙ ap Err (sym e))
