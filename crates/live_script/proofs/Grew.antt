-- Scripts that have grown by lines.
use Rattle.std.proofs.Common.{◌≡◌, ◌∷◌, ℕ, [], length, refl, sym, ap, subst, ◌∙◌, length-append, arith}
use Rattle.std.specs.Prelude.{Ok, Result}
use Rattle.std.proofs.lemmas.List.{take-append-le, take_all}
use Rattle.fleet_model.specs.Contents.{Contents, contents}
use Rattle.script_reader.specs.Growing.{Adds}
use Rattle.script_reader.specs.declared.growing.Said.{Said}
use Rattle.script_reader.specs.declared.growing.Said.TheVariants as said
use Rattle.script_reader.specs.declared.fault.ScriptFault.{ScriptFault}
use Rattle.live_script.specs.Live.{IsLonger, first_of}

pub first_all : (script : Contents) (n : ℕ) → n ≡ length script.commands → first_of n script ≡ script
first_all script n all = ap (contents script.names script.filters) (take_all n script.commands (omega (arith, all)))

-- a script that has grown by lines

pub longer_same : (old new : Contents) → old ≡ new → IsLonger old new
longer_same old new same = subst (IsLonger old) same (record { commands = omega arith; first = λ some. first_all old (length old.commands) refl })

pub longer_adds : (kind : Said) (old mid new : Contents) → IsLonger old mid → Adds kind mid new → IsLonger old new
longer_adds said.Nothing old mid new h adds = subst (IsLonger old) (sym adds) h
longer_adds said.Device old mid new h adds =
    let none : length old.commands ≡ 0 = let few = h.commands in let empty = ap length adds.before in omega (arith, few, empty) in
    record { commands = omega (arith, none); first = λ some. absurd (omega (arith, none)) }
longer_adds said.Command old mid new h adds =
    let c = adds.0 in
    let n = length old.commands in
    let long = length-append mid.commands (c ∷ []) in
    subst (IsLonger old) (sym adds.1)
    (record {
      commands = omega (arith, long, h.commands);
      first = λ some. ap (contents mid.names mid.filters) (take-append-le n mid.commands (c ∷ []) h.commands) ∙ h.first some;
    })

pub ok_longer : (r : Result Contents ScriptFault) (now old : Contents) → r ≡ Ok now → r ≡ Ok old → IsLonger old now
ok_longer r now old e f = longer_same old now cc
