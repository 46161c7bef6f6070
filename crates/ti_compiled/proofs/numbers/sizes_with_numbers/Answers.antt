use Rattle.ti_compiled.specs.inside.Changes.{with_number}
use Rattle.ti_compiled.proofs.NumberChange.{has_numbers, sizes_numbered}
use Rattle.ti_compiled.proofs.numbers.sizes_with_numbers.Goals as goal

pub returns-clause-sizes : goal.returns-clause-sizes
returns-clause-sizes c = λ b i n is has within fits all.
    let last = c.last_number.ensures in
    sizes_numbered b is c.args.old.now has i within n fits c.args.values.now all c.format_for.result c.last_number.result
    (c.format_for.ensures (with_number b i n) all (has_numbers b is c.args.old.now has i within n fits c.args.values.now all)) last.within last.last last.past
