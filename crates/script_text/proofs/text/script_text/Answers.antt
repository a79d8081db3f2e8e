use Rattle.std.proofs.Common.{◌≡◌, ◌++◌, map, string_bytes, sym, ap, ◌∙◌, arith}
use Rattle.std.proofs.lemmas.Bool.{false≢true}
use Rattle.std.proofs.lemmas.List.Concat.{flat_map-append}
use Rattle.std.proofs.lemmas.Str.{IsUtf8-string_bytes}
use Rattle.fleet_model.specs.Contents.{IsScript}
use Rattle.script_text.specs.Texts.{ended, line_of_command, lines_of_devices, text_of_lines, text_of_script}
use Rattle.script_text.proofs.Fitting.{fit-devices, fit-commands, PartsFit, whole-printable, read-whole}
use Rattle.script_text.proofs.text.script_text.Goals as goal

pub returns-then-not-branch-2-clause-none : goal.returns-then-not-branch-2-clause-none
returns-then-not-branch-2-clause-none c = λ e fits. false≢true (sym c.if-not-branch-2.true ∙ c.in_ok-push_devices.ensures.fit.1 (fit-devices c.args.script.now fits))

pub returns-then-not-branch-3-clause-none : goal.returns-then-not-branch-3-clause-none
returns-then-not-branch-3-clause-none c = λ e fits. false≢true (sym c.if-not-branch-3.true ∙ c.in_ok-push_commands.ensures.fit.1 (fit-commands c.args.script.now fits))

is-script : (c : goal.Else-len-gt-MAX_TEXT_BYTES) → IsScript c.args.script.now
is-script c = record {
  devices = omega arith;
  filtered = c.devices-devices.ensures.filtered;
  commands = omega arith;
  known = c.commands-commands.ensures.known;
  in_range = c.commands-commands.ensures.in_range;
}

parts-fit : (c : goal.Else-len-gt-MAX_TEXT_BYTES) → PartsFit c.args.script.now
parts-fit c = record {
  named = c.has_names.ensures.named c.if-not-has_names.false;
  apart = c.has_names.ensures.apart c.if-not-has_names.false;
  made_once = c.in_ok-makes_each_once.ensures.0 c.if-not-branch.false;
  devices = c.in_ok-push_devices.ensures.fit.0 c.if-not-branch-2.false;
  commands = c.in_ok-push_commands.ensures.fit.0 c.if-not-branch-3.false;
  values = c.in_ok-push_commands.ensures.values c.if-not-branch-3.false;
}

whole : (c : goal.Else-len-gt-MAX_TEXT_BYTES) → string_bytes c.push_commands.new.text ≡ text_of_script c.args.script.now
whole c =
    let s = c.args.script.now in
    let lines = lines_of_devices s.names s.filters in
    let changes = map (line_of_command s) s.commands in
    let first = c.in_ok-push_devices.ensures.text c.if-not-branch-2.false ∙ ap (λ t. t ++ text_of_lines lines) c.new-text.ensures.bytes in
    c.in_ok-push_commands.ensures.text c.if-not-branch-3.false ∙ ap (λ t. t ++ text_of_lines changes) first ∙ sym (flat_map-append ended lines changes)

pub returns-clause-read : goal.returns-clause-read
returns-clause-read c =
    read-whole c.args.script.now (string_bytes c.push_commands.new.text) (is-script c) (parts-fit c) (whole c) (IsUtf8-string_bytes c.push_commands.new.text) (omega arith)

pub returns-clause-within : goal.returns-clause-within
returns-clause-within c = whole-printable c.args.script.now (string_bytes c.push_commands.new.text) (is-script c) (parts-fit c) (whole c) (omega arith)
