use Rattle.ti_compiled.proofs.Heading.{found_in, sizes_read, names_short, strings_read, strings_short}
use Rattle.ti_compiled.proofs.header.header_of.Goals as goal

pub read-requires : goal.read-requires
read-requires c = (found_in c.args.bytes.now c.requires).long

pub returns-clause-sizes : goal.returns-clause-sizes
returns-clause-sizes c = sizes_read c.args.bytes.now _ c.requires c.read.ensures

pub returns-clause-names : goal.returns-clause-names
returns-clause-names c = names_short c.args.bytes.now _ c.requires c.read.ensures

pub returns-clause-strings : goal.returns-clause-strings
returns-clause-strings c = strings_read c.args.bytes.now _ c.requires c.read.ensures

pub returns-clause-strings_fit : goal.returns-clause-strings_fit
returns-clause-strings_fit c = strings_short c.args.bytes.now _ c.requires c.read.ensures
