use Rattle.test_scripts.proofs.scripts.reports.is_told_anywhere.Goals as goal

pub is_reported-requires : goal.is_reported-requires
is_reported-requires c = c.report_of.ensures c.args.script.now
