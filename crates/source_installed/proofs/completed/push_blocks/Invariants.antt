use Rattle.std.proofs.Common.{◌≡◌, ◌++◌, map, take}
use Rattle.std.specs.List.{flat_map}
use Rattle.std.specs.String.{string_bytes}
use Rattle.source_installed.specs.Completed.{block_of}
use Rattle.source_installed.proofs.completed.push_blocks.Given as goal

-- the blocks so far
abbrev pub invariant-loop-name : goal.invariant-loop-name
invariant-loop-name l = l.text.items ≡ l.fn.text.items ++ flat_map block_of (map string_bytes (take l.name-index l.names))
