-- An extension taken apart (own): what its parts say.
use Rattle.std.specs.Prelude.{List}
use Rattle.user_extension.specs.declared.extension_parts.ExtensionParts.{ExtensionParts}
use Rattle.user_extension.specs.Reading.{Parts, ReadRow, rows_in}

-- the sections
abbrev pub sections_of : ExtensionParts → Parts
sections_of p = record { flags = p.flags.now; numbers = p.numbers.now; values = p.values.now; names = p.names.now; table = p.table.now }

-- its names, each with what it has
abbrev pub parts_rows : ExtensionParts → List ReadRow
parts_rows p = rows_in p.format (sections_of p)
