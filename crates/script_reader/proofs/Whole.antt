-- The script of a text by what the text is.
use Rattle.std.proofs.Common.{◌≡◌, ◌<◌, ◌≤◌, ℕ, List, length, Err}
use Rattle.std.specs.Str.{IsUtf8, is_utf8}
use Rattle.std.proofs.lemmas.Bool.{lt-ltb, le-ltb, false_from_ne_true}
use Rattle.std.proofs.lemmas.Str.{is_utf8-from_IsUtf8, IsUtf8-from_is_utf8}
use Rattle.script_reader.specs.Limits.{max_text_bytes}
use Rattle.script_reader.specs.Lines.{lines_of}
use Rattle.script_reader.specs.Reading.{script_of, script_of_lines}
use Rattle.script_reader.specs.declared.fault.ScriptFault.TheVariants.{TooLarge, NotUtf8}

pub script_of-large : (bytes : List ℕ) → max_text_bytes < length bytes → script_of bytes ≡ Err TooLarge
unfolding script_of
script_of-large bytes large = rw (lt-ltb max_text_bytes (length bytes) large)

pub script_of-not_utf8 : (bytes : List ℕ) → length bytes ≤ max_text_bytes → ¬ (IsUtf8 bytes) → script_of bytes ≡ Err NotUtf8
unfolding script_of
script_of-not_utf8 bytes small other = rw (le-ltb max_text_bytes (length bytes) small, false_from_ne_true (is_utf8 bytes) (λ t. other (IsUtf8-from_is_utf8 bytes t)))

pub script_of-text : (bytes : List ℕ) → length bytes ≤ max_text_bytes → IsUtf8 bytes → script_of bytes ≡ script_of_lines (lines_of bytes)
unfolding script_of
script_of-text bytes small utf8 = rw (le-ltb max_text_bytes (length bytes) small, is_utf8-from_IsUtf8 bytes utf8)
