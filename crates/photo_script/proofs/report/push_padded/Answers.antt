use Rattle.std.proofs.Common.{◌≡◌, ◌++◌, ◌-◌, length, replicate, string_bytes, ap, ◌∙◌, append_assoc, arith}
use Rattle.photo_script.proofs.report.push_padded.Goals as goal

pub returns : goal.returns
returns c =
    let old = string_bytes c.args.text.now in
    let digits = c.format-digits.result.now in
    let count : c.loop.counter ≡ c.args.width - length digits = omega arith in
    let zeros = c.loop.invariant ∙ ap (λ n. old ++ replicate n 48) count in
    let written = c.in_ok-push_str-2.ensures.bytes ∙ ap (λ t. t ++ digits) zeros in
    written ∙ append_assoc old (replicate (c.args.width - length digits) 48) digits ∙ ap (λ ds. old ++ (replicate (c.args.width - length ds) 48 ++ ds)) c.format-digits.ensures.text
