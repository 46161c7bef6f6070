use Rattle.std.proofs.Common.{◌≡◌}
use Rattle.std.specs.List.{flat_map, range_with_len}
use Rattle.tools_devices.specs.Placing.{entries}
use Rattle.ti_tools.specs.EntryFiles.{files_at}
use Rattle.ti_tools.proofs.entry_files.entry_files.Given as goal

-- the files of the blocks before
abbrev pub invariant-loop-at : goal.invariant-loop-at
invariant-loop-at l = entries l.files.items ≡ flat_map (files_at l.dir l.database) (range_with_len 0 l.at)
