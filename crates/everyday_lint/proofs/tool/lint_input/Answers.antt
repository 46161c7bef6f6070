-- what became of standard input is printed as that of a file
use Rattle.std.proofs.lemmas.Result.{IfOk-weaker}
use Rattle.everyday_lint.specs.declared.files.Done.{Done}
use Rattle.everyday_lint.proofs.tool.lint_input.Goals as goal

pub returns : goal.returns
returns g c =
    let done : Done = record { path = c.in_ok-path.path; fate = c.in_ok-fate.fate } in
    IfOk-weaker c.outcome_of.result _ _ (λ outcome printed. (done, c.in_ok-path.ensures.ok, c.in_ok-fate.ensures, printed)) c.outcome_of.ensures
