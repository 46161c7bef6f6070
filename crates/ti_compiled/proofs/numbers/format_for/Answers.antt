use Rattle.std.proofs.Common.{arith}
use Rattle.ti_compiled.proofs.NumberFormats.{format_extended, format_legacy}
use Rattle.ti_compiled.proofs.numbers.format_for.Goals as goal

pub returns-then-value : goal.returns-then-value
returns-then-value c =
    λ d all agree. format_extended c.args.values.now d all c.loop-value.value-index (omega arith) c.if-value-gt-LEGACY_NUMBER_MAX.true c.if-value.true

pub returns : goal.returns
returns c = λ d all agree. format_legacy c.args.values.now d all c.loop-value.value-index (omega arith) agree c.loop-value.invariant
