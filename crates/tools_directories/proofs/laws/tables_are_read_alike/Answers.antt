use Rattle.tools_devices.specs.Searching.{file_bytes_max}
use Rattle.tools_directories.proofs.Alike.{tables_alike}
use Rattle.tools_directories.proofs.laws.tables_are_read_alike.Goals as goal

pub returns : goal.returns
returns c = tables_alike c.one_reading.ensures file_bytes_max
