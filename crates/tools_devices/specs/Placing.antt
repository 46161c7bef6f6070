-- The files that a tool made, as paths and bytes (own).
use Rattle.std.specs.Prelude.{List, map}
use Rattle.std.specs.String.{string_bytes}
use Rattle.tools_devices.specs.Tree.{FileAt}
use Rattle.tools_devices.specs.declared.placing.File.{File}

-- a file that holds its path and its bytes in memory, as plain data
abbrev pub placed_entry : File → FileAt
placed_entry file = (string_bytes file.path, file.bytes.items)

-- the files in order, as plain data
abbrev pub entries : List File → List FileAt
entries files = map placed_entry files
