-- what is printed of standard input is laid out, by the law
use Rattle.std.proofs.Common.{Bool, refl, subst, sym}
use Rattle.everyday_fmt.specs.Layouts.{laid}
use Rattle.everyday_fmt.specs.Tool.{PrintsInput}
use Rattle.everyday_fmt.specs.declared.options.FmtOutcome.{FmtOutcome}
use Rattle.everyday_fmt.proofs.tool.format_input.Goals as goal

pub returns-clause-laid_out : goal.returns-clause-laid_out
returns-clause-laid_out c unchecked =
    let options = c.args.options in
    let source = c.args.source.now in
    let outcome : FmtOutcome = record { output = c.in_ok-laid.field-0; errors = c.new.result; status = 0 } in
    let prints : PrintsInput options.check (laid options source) source outcome =
    subst (λ (check : Bool). PrintsInput check (laid options source) source outcome) (sym unchecked)
    (record { output = c.in_ok-laid.ensures; errors = c.new.ensures.items; status = refl }) in
    c.sources_are_laid_out.ensures.input options source outcome prints unchecked
