use Rattle.std.proofs.Common.{◌≡◌, ◌≢◌, ◌≤◌, ℕ, List, [], length, take, suc, Bool, false, cond, eqb, Option, Some, None, Ok, Err, refl, sym, ap, subst, ◌∙◌, arith}
use Rattle.std.specs.Str.Lines.{strip_carriage_return}
use Rattle.fleet_model.specs.Contents.{Contents}
use Rattle.script_reader.specs.Limits.{max_text_bytes, max_line_bytes}
use Rattle.script_reader.specs.Lines.{fields_of}
use Rattle.script_reader.specs.Saying.{said}
use Rattle.script_reader.specs.Steps.{IsAsItWas, Leads, Refuses, fault_at, seen, without}
use Rattle.script_reader.specs.Growing.{Adds, GoesBackTo, Grows, ReadsLine, with_line}
use Rattle.script_reader.specs.declared.fault.ScriptFault.TheVariants.{NoMemory}
use Rattle.script_reader.specs.declared.growing.GrowingScript.{GrowingScript}
use Rattle.script_reader.specs.declared.reader.Reader.{Reader}
use Rattle.script_reader.proofs.Grown.{few_lines, refused_more, taken_more, utf8_line, wants_more}
use Rattle.script_reader.proofs.MadeBy.{grows, leads}
use Rattle.script_reader.proofs.Whole.{script_of-large, script_of-not_utf8}
use Rattle.script_reader.proofs.growing.GrowingScript.push.Goals as goal

pub returns-then-bytes-gt-MAX_TEXT_BYTES-clause-refused : goal.returns-then-bytes-gt-MAX_TEXT_BYTES-clause-refused
returns-then-bytes-gt-MAX_TEXT_BYTES-clause-refused c = λ text h other.
    script_of-large (with_line c.args.self.now.lines text c.args.line.now) (omega (arith, c.bytes_with-bytes.ensures text h))

pub returns-in_default-clause-refused : goal.returns-in_default-clause-refused
returns-in_default-clause-refused c = λ text h other.
    let n = c.args.self.now.lines in
    let line = c.args.line.now in
    script_of-not_utf8 (with_line n text line) (omega (arith, c.bytes_with-bytes.ensures text h)) (λ utf8. c.in_default.ensures.cases.0 (utf8_line n text line utf8))

pub returns-in-Ok-read-clause-grown : goal.returns-in-Ok-read-clause-grown
returns-in-Ok-read-clause-grown c = λ text h.
    let old = c.args.self.now.reader in
    let new = c.read.new.reader in
    let n = c.args.self.now.lines in
    let line = c.args.line.now in
    let bytes = c.bytes_with-bytes.ensures text h in
    let small : length (with_line n text line) ≤ max_text_bytes = omega (arith, bytes) in
    let number : c.saturating_add-number.result ≡ suc n = omega (arith, few_lines n text h.lines_are, h.small, c.saturating_add-number.ensures) in
    let end = c.without_return.ensures ∙ ap strip_carriage_return c.in-Ok.ensures.cases.0 in
    let reads = subst (λ l. ReadsLine old l (Ok c.in-Ok-read.made) new) end c.in-Ok-read.ensures.reads in
    rw (number, bytes) (taken_more text line old n c.args.self.now.bytes h c.requires.one c.in-Ok.ensures.cases.1 small new reads.0 reads.1 reads.2)

pub returns-in-Ok-read-clause-said : goal.returns-in-Ok-read-clause-said
returns-in-Ok-read-clause-said c = λ text h.
    let old = c.args.self.now.reader in
    let new = c.read.new.reader in
    let reads = c.in-Ok-read.ensures.reads in
    let devices = sym (c.devices-devices.ensures.count ∙ ap (λ (s : Contents). length s.names) c.script.ensures) in
    let commands = sym (c.commands-commands.ensures.count ∙ ap (λ (s : Contents). length s.commands) c.script-2.ensures) in
    let put : Grows old.script new.script = grows old new c.without_return.result.now reads.0 reads.1 reads.2 in
    subst (λ s. Adds c.said_in.result old.script s) c.script-in-Ok-read.ensures (c.said_in.ensures old.script devices commands (subst (Grows old.script) (sym c.script-in-Ok-read.ensures) put))

pub returns-in-Ok-read-clause-back : goal.returns-in-Ok-read-clause-back
returns-in-Ok-read-clause-back c = λ text h.
    let old = c.args.self.now.reader in
    let new = c.read.new.reader in
    let n = c.args.self.now.lines in
    let made = c.in-Ok-read.made in
    let reads = c.in-Ok-read.ensures.reads in
    let number : c.saturating_add-number.result ≡ suc n = omega (arith, few_lines n text h.lines_are, h.small, c.saturating_add-number.ensures) in
    let devices = c.devices-devices.ensures.count ∙ ap (λ (s : Contents). length s.names) c.script.ensures in
    let commands = c.commands-commands.ensures.count ∙ ap (λ (s : Contents). length s.commands) c.script-2.ensures in
    let paired = subst (λ (s : Contents). length s.filters ≡ length s.names) c.script.ensures c.devices-devices.ensures.filtered in
    let back : Leads old c.devices-devices.result c.commands-commands.result made new = rw (devices, commands) (leads old new c.without_return.result.now reads.0 reads.1 reads.2 made paired reads.3) in (
      record { bytes = c.args.self.now.bytes; devices = c.devices-devices.result; commands = c.commands-commands.result; made = made },
      old,
      record { kept = refl; one_more = number; grown = h; leads = back },
    )

pub returns-in-Err-clause-refused : goal.returns-in-Err-clause-refused
returns-in-Err-clause-refused c = λ text h other.
    let old = c.args.self.now.reader in
    let n = c.args.self.now.lines in
    let line = c.args.line.now in
    let refusal = c.in-Err.refusal in
    let small : length (with_line n text line) ≤ max_text_bytes = omega (arith, c.bytes_with-bytes.ensures text h) in
    let number : c.saturating_add-number.result ≡ suc n = omega (arith, few_lines n text h.lines_are, h.small, c.saturating_add-number.ensures) in
    let is = c.in_line.ensures ∙ ap (λ k. fault_at k refusal) number in
    let end = c.without_return.ensures ∙ ap strip_carriage_return c.in-Ok.ensures.cases.0 in
    let refused = subst (λ l. Refuses refusal (said (seen old) l)) end c.in-Err.ensures.reads.0 in
    refused_more text line old n c.args.self.now.bytes h c.requires.one c.in-Ok.ensures.cases.1 small refusal refused (λ e. other (is ∙ e)) ∙ ap Err (sym is)

pub returns-in-Err-clause-no_memory : goal.returns-in-Err-clause-no_memory
returns-in-Err-clause-no_memory c = λ text h e.
    let old = c.args.self.now.reader in
    let n = c.args.self.now.lines in
    let line = c.args.line.now in
    let refusal = c.in-Err.refusal in
    let small : length (with_line n text line) ≤ max_text_bytes = omega (arith, c.bytes_with-bytes.ensures text h) in
    let number : c.saturating_add-number.result ≡ suc n = omega (arith, few_lines n text h.lines_are, h.small, c.saturating_add-number.ensures) in
    let is = c.in_line.ensures ∙ ap (λ k. fault_at k refusal) number in
    let wants : c.in_line.result ≡ NoMemory = cc in
    let end = c.without_return.ensures ∙ ap strip_carriage_return c.in-Ok.ensures.cases.0 in
    wants_more text line old n c.args.self.now.bytes h c.requires.one c.in-Ok.ensures.cases.1 small refusal
    (λ m. subst (λ l. length l ≤ max_line_bytes) end (c.in-Err.ensures.memory (ap Err m)))
    (λ m. subst (λ l. fields_of l ≢ []) end (c.in-Err.ensures.has_field (ap Err m)))
    (sym is ∙ wants)

without_same : (made : Option ℕ) (was now : ℕ → Bool) → ((p : ℕ) → now p ≡ was p) → (p : ℕ) → without made was p ≡ without made now p
without_same None was now same p = sym (same p)
without_same (Some made) was now same p = ap (λ b. cond (eqb made p) false b) (sym (same p))

-- the line that led to a reader leads to one that is as it was
leads_same : (was old new : Reader) (devices commands : ℕ) (made : Option ℕ) → IsAsItWas old new → Leads was devices commands made old → Leads was devices commands made new
leads_same was old new devices commands made same h = record {
  names = h.names ∙ ap (λ (s : Contents). take devices s.names) (sym same.0);
  filters = h.filters ∙ ap (λ (s : Contents). take devices s.filters) (sym same.0);
  commands_are = h.commands_are ∙ ap (λ (s : Contents). take commands s.commands) (sym same.0);
  makes = λ p. h.makes p ∙ without_same made _ _ same.1 p;
  late = λ some. let h' = h.late some in (ap (λ (s : Contents). s.names) same.0 ∙ h'.0, ap (λ (s : Contents). s.filters) same.0 ∙ h'.1);
}

-- so a script goes back as before if only its reader's cache has changed
goes_back_same : (old new : GrowingScript) → new.last ≡ old.last → new.lines ≡ old.lines → IsAsItWas old.reader new.reader → (text : List ℕ) (lines : ℕ) → GoesBackTo text lines old → GoesBackTo text lines new
goes_back_same old new last lines same text n back = (
  back.0,
  back.1,
  record {
    kept = last ∙ back.2.kept;
    one_more = lines ∙ back.2.one_more;
    grown = back.2.grown;
    leads = leads_same back.1 old.reader new.reader _ _ _ same back.2.leads;
  },
)

pub returns-in-Err-clause-still_back : goal.returns-in-Err-clause-still_back
returns-in-Err-clause-still_back c = goes_back_same c.args.self.now _ refl refl c.in-Err.ensures.reads.1
