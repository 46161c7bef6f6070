use Rattle.tools_devices.specs.Searching.{file_bytes_max}
use Rattle.tools_directories.proofs.Alike.{read_alike}
use Rattle.tools_directories.proofs.laws.files_have_one_reading.Goals as goal

pub returns : goal.returns
returns c = read_alike c.one_reading.ensures file_bytes_max
