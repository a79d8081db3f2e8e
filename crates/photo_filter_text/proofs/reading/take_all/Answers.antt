use Rattle.std.proofs.Common.{◌+◌, take, Err, sym, ap, ◌∙◌, rules, arith}
use Rattle.std.proofs.lemmas.List.{length-take}
use Rattle.photo_filter_text.specs.Tokens.{tokens_of}
use Rattle.photo_filter_text.specs.Steps.{start, run, state_of}
use Rattle.photo_filter_text.proofs.Faults.{few-negations, stops-at, no-word-at, bad-word-at, run-next, next-is}
use Rattle.photo_filter_text.proofs.Memory.{wants-at}
use Rattle.photo_filter_text.proofs.Verdict.{all-taken}
use Rattle.photo_filter_text.proofs.reading.take_all.Goals as goal

pub take-requires : goal.take-requires
take-requires c =
    let ts = tokens_of c.args.text.now in
    let n = c.loop-token.number in
    let few = few-negations (take n ts) (state_of c.loop-token.reader) c.loop-token.invariant.at in
    omega (arith, length-take n ts, c.requires.1)

pub returns-in-Err-Unexpected-clause-fault : goal.returns-in-Err-Unexpected-clause-fault
returns-in-Err-Unexpected-clause-fault c =
    let ts = tokens_of c.args.text.now in
    let n = c.loop-token.number in
    let h = sym c.loop-token.invariant.behind ∙ c.in-Some.ensures.token in
    let r = c.in-Err-Unexpected.ensures.refused (λ e. cc) ∙ ap Err c.in-Err-Unexpected.field-0-is in
    let s = state_of c.loop-token.reader in
    (c.requires, stops-at ts n _ _ s _ c.loop-token.invariant.at h r, no-word-at ts n _ _ s c.loop-token.invariant.at h r)

pub returns-in-Err-BadWord-clause-fault : goal.returns-in-Err-BadWord-clause-fault
returns-in-Err-BadWord-clause-fault c =
    let ts = tokens_of c.args.text.now in
    let n = c.loop-token.number in
    let h = sym c.loop-token.invariant.behind ∙ c.in-Some.ensures.token in
    let r = c.in-Err-BadWord.ensures.refused (λ e. cc) ∙ ap Err c.in-Err-BadWord.field-0-is in
    let s = state_of c.loop-token.reader in
    (c.requires, (n + 1, stops-at ts n _ _ s _ c.loop-token.invariant.at h r, bad-word-at ts n _ _ s c.loop-token.invariant.at h r))

pub returns-in-Err-NoMemory-clause-fault : goal.returns-in-Err-NoMemory-clause-fault
returns-in-Err-NoMemory-clause-fault c =
    let ts = tokens_of c.args.text.now in
    let n = c.loop-token.number in
    let h = sym c.loop-token.invariant.behind ∙ c.in-Some.ensures.token in
    let k = c.in-Err-NoMemory.ensures.memory c.in-Err-NoMemory.field-0-is in
    (c.requires, wants-at ts n _ _ (state_of c.loop-token.reader) c.loop-token.invariant.at h k)

pub loop-token-preserved : goal.loop-token-preserved
loop-token-preserved c =
    let ts = tokens_of c.args.text.now in
    let n = c.loop-token.number in
    let h = sym c.loop-token.invariant.behind ∙ c.in-Some.ensures.token in
    let next = next-is ts n _ _ h in
    record {
      text = search rules;
      at = run-next ts n _ _ (state_of c.loop-token.reader) c.loop-token.invariant.at h ∙ c.in-Ok.ensures.taken;
      behind = sym next.behind;
      within = omega (arith, next.within);
    }

pub returns-clause-taken : goal.returns-clause-taken
returns-clause-taken c =
    let ts = tokens_of c.args.text.now in
    let n = c.loop-token.number in
    ap (run start) (sym (all-taken n ts (sym c.loop-token.invariant.behind ∙ c.in_default.ensures.token))) ∙ c.loop-token.invariant.at
