use Rattle.ti_caps.specs.declared.capability.Kind.TheVariants.{Flag, Number}
use Rattle.source_descriptions.proofs.Rows.{in_flags, in_numbers, said_of}
use Rattle.source_descriptions.proofs.descriptions.description_of.Goals as goal

pub returns-in-Flag : goal.returns-in-Flag
returns-in-Flag c = said_of c.args.cap Flag c.index.result _ c.in-Flag.ensures.value c.index.ensures.value (in_flags c.index.result _ c.row_at.ensures)

pub returns-in-Number : goal.returns-in-Number
returns-in-Number c =
    said_of c.args.cap Number c.index-in-Number.result _ c.in-Number.ensures.value c.index-in-Number.ensures.value
    (in_numbers c.index-in-Number.result _ c.row_at-in-Number.ensures)
