-- Texts that a script may be read from.
use Rattle.std.proofs.Common.{◌≡◌, ◌<◌, ◌≤◌, ℕ, suc, zero, Bool, true, false, cond, List, length, Err, refl}
use Rattle.std.specs.Prelude.{not}
use Rattle.std.specs.Result.{is_ok}
use Rattle.std.specs.Str.{IsUtf8, is_utf8}
use Rattle.std.proofs.Math.Dec.{ltb}
use Rattle.script_reader.specs.Limits.{max_text_bytes}
use Rattle.script_reader.specs.Lines.{lines_of}
use Rattle.script_reader.specs.Reading.{script_of, script_of_lines}
use Rattle.script_reader.specs.declared.fault.ScriptFault.TheVariants.{TooLarge, NotUtf8}
use Rattle.script_reader.proofs.Grown.{utf8_line}
use Rattle.script_reader.proofs.Whole.{script_of-large, script_of-not_utf8}
use Rattle.live_script.specs.Live.{with_line}
use Rattle.live_script.specs.Refused.{IsFaultOf, IsScript}

-- a script's text is UTF-8
pub script_utf8 : (bytes : List ℕ) → IsScript bytes → is_utf8 bytes ≡ true
unfolding script_of
script_utf8 bytes is = by (ltb max_text_bytes (length bytes)) (is_utf8 bytes) refl is
  where
    by : (large utf8 : Bool) → is_utf8 bytes ≡ utf8 → is_ok (cond large (Err TooLarge) (cond (not utf8) (Err NotUtf8) (script_of_lines (lines_of bytes)))) ≡ true → is_utf8 bytes ≡ true
    by true utf8 u h = cc
    by false false u h = cc
    by false true u h = u

-- lines behind a script may be too large, or no UTF-8

pub behind_large : (bytes : List ℕ) → max_text_bytes < length bytes → IsFaultOf bytes TooLarge
behind_large bytes large = record { first = λ _. script_of-large bytes large; memory = λ e. cc }

pub behind_odd : (text lines : List ℕ) → length (with_line text lines) ≤ max_text_bytes → ¬ (IsUtf8 lines) → IsFaultOf (with_line text lines) NotUtf8
behind_odd text lines small odd = record {
  first = λ _. script_of-not_utf8 (with_line text lines) small (λ utf8. odd (utf8_line (suc zero) text lines utf8));
  memory = λ e. cc;
}
