use Rattle.std.proofs.Common.{arith, ap, take, ◌∙◌}
use Rattle.ti_printing.proofs.Paddings.{decimal_value-next, digit_in_range, ten_times}
use Rattle.ti_printing.proofs.padding.milliseconds_at.Goals as goal

pub loop-digit-preserved : goal.loop-digit-preserved
loop-digit-preserved c =
    let loop = c.loop-digit in
    let text = c.args.text.now in
    let digits = c.split_at.result.0.now in
    let cut = c.split_at.ensures.front ∙ ap (λ n. take n text) c.digits_len.ensures in
    let step = decimal_value-next digits loop.digit-index (omega arith) in
    let high = digit_in_range text digits loop.digit-index cut (omega arith) in
    record {
      value = omega (arith, step, c.from.ensures);
      bound = ten_times loop.whole c.from.result loop.digit-index loop.invariant.bound (omega (arith, high, c.from.ensures));
    }
