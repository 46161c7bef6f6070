-- the file is refused for what its entry is refused for
use Rattle.std.proofs.Common.{inr, Err}
use Rattle.tools_devices.specs.Searching.{file_bytes_max}
use Rattle.tools_directories.specs.Reading.{Opens}
use Rattle.everyday_infocmp.proofs.entries.extended_of.Goals as goal

pub returns-in-Err-clause-err : goal.returns-in-Err-clause-err
returns-in-Err-clause-err c =
    let at : Opens file_bytes_max c.args.file.now.bytes.items (Err c.in-Err.why) = rw c.as_slice.ensures.value at c.in-Err.ensures in
    inr (c.in-Err.why, at, c.bad_entry.ensures)
