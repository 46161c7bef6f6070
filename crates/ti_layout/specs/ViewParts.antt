-- A view taken apart (own): what its parts hold.
use Rattle.ti_layout.specs.declared.layout.Format.TheVariants.{Legacy}
use Rattle.ti_layout.specs.declared.view_parts.ViewParts.{ViewParts}
use Rattle.ti_layout.specs.Reading.{contents_of, numbers_in}
use Rattle.ti_layout.specs.Values.{Contents}

-- what the parts hold of each capability
abbrev pub parts_contents : ViewParts → Contents
parts_contents p = contents_of p.format p.flags.now (numbers_in p.format p.numbers.now) (numbers_in Legacy p.offsets.now) p.strings.now
