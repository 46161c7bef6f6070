use Rattle.std.proofs.Common.{Ok, Err, rules}
use Rattle.ti_spelling.specs.declared.numbers.NumberError.TheVariants.{Bad, TooLarge}
use Rattle.ti_spelling.proofs.NumberLemmas.{reads_as}
use Rattle.ti_spelling.proofs.numbers.read_number.Goals as goal

pub returns-in-None : goal.returns-in-None
returns-in-None c = reads_as c.args.text.now (Err Bad) (search rules)

pub returns-in-Some : goal.returns-in-Some
returns-in-Some c = reads_as c.args.text.now (Err TooLarge) (search rules)

pub returns-in-Some-2 : goal.returns-in-Some-2
returns-in-Some-2 c = reads_as c.args.text.now (Ok c.in-Some.value) (search rules)
