-- What an extension that was read shows (own).
use Rattle.std.specs.Prelude.{List}
use Rattle.user_extension.specs.declared.view.Extension.{Extension}
use Rattle.user_extension.specs.Reading.{Parts, ReadRow, rows_in}

-- its sections
abbrev pub parts_of : Extension → Parts
parts_of e = record { flags = e.flags.now; numbers = e.numbers.now; values = e.values.now; names = e.names.now; table = e.table.now }

-- its names, each with what it has
abbrev pub read_rows : Extension → List ReadRow
read_rows e = rows_in e.format (parts_of e)
