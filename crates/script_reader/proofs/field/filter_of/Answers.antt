use Rattle.std.proofs.Common.{◌≢◌, rules}
use Rattle.photo_filter_text.specs.declared.fault.FilterFault.TheVariants.{NoMemory}
use Rattle.script_reader.proofs.FilterTexts.{filter-said, fault-said, wide-said}
use Rattle.script_reader.proofs.field.filter_of.Goals as goal

pub returns-in-Err : goal.returns-in-Err
returns-in-Err c =
    let other : c.in-Err.field-0 ≢ NoMemory = search rules in
    fault-said c.args.text.now c.in-Err.field-0 other c.in-Err.ensures.fault

pub returns-in-Ok-build : goal.returns-in-Ok-build
returns-in-Ok-build c =
    rw c.in-Ok-build.ensures.built (filter-said c.args.text.now _ c.in-Ok.ensures.filter c.in-Ok-build.ensures.narrow)

pub returns : goal.returns
returns c =
    wide-said c.args.text.now _ c.in-Ok.ensures.filter (c.in-Err-default-TooWide.ensures.wide c.in-Err-default-TooWide.field-0-1-is)
