use Rattle.std.proofs.Common.{arith}
use Rattle.std.proofs.lemmas.Grind.{common_steps}
use Rattle.ti_printing.proofs.Layouts.{parts_text-zeros}
use Rattle.ti_printing.proofs.printf.arrange.Goals as goal

pub returns-then-is_none-clause-parts : goal.returns-then-is_none-clause-parts
returns-then-is_none-clause-parts c =
    let e = parts_text-zeros c.args.directive.now.width c.args.zeros c.args.front.now c.args.shown.now in
    grind (arith, common_steps)
