use Rattle.std.proofs.Common.{ap, pos, rules}
use Rattle.std.specs.Int.{w32}
use Rattle.std.proofs.lemmas.Int.{wrapping_add_is}
use Rattle.ti_param.specs.Meaning.{number}
use Rattle.ti_param.proofs.values.Value.increment.Goals as goal

pub returns-in-Number : goal.returns-in-Number
returns-in-Number c = rw c.in-Number.is (ap number (wrapping_add_is w32 c.in-Number.number (pos 1) (search rules) (search rules)))
