use Rattle.std.proofs.Common.{rules, tests}
use Rattle.std.proofs.lemmas.Iterator.{YieldsList-from_slice}
use Rattle.std.proofs.lemmas.Iterator.Search.{any_from_yields_List}
use Rattle.everyday_fmt.specs.Report.{is_wrong}
use Rattle.everyday_fmt.specs.declared.files.Done.{Done}
use Rattle.everyday_fmt.proofs.report.has_wrong.Goals as goal

pub returns : goal.returns
returns c =
    any_from_yields_List (λ (file : Done). is_wrong c.args.check file) _ _ _ c.any.ensures.ran (YieldsList-from_slice c.args.done.now cc)
    (λ x b q k. search (rules, tests))
