use Rattle.std.proofs.Common.{arith, sym, ◌∙◌}
use Rattle.ti_printing.proofs.Paddings.{digits_len-next}
use Rattle.ti_printing.proofs.padding.digits_len.Goals as goal

pub loop-len-preserved : goal.loop-len-preserved
loop-len-preserved c =
    let step = digits_len-next c.loop-len.len c.args.text.now (omega arith) (omega arith) (sym c.is_ascii_digit.ensures.value ∙ c.if-is_ascii_digit.true) in
    record { bound = omega arith; total = omega (arith, step) }
