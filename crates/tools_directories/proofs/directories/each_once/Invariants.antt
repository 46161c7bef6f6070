use Rattle.std.proofs.Common.{◌≡◌, ◌++◌, drop, map}
use Rattle.std.specs.Prelude.{filter}
use Rattle.std.specs.String.{string_bytes}
use Rattle.tools_directories.specs.Directories.{each_once}
use Rattle.tools_directories.proofs.Once.{is_new}
use Rattle.tools_directories.proofs.directories.each_once.Given as goal

-- those so far, and the others of the rest, are each once
abbrev pub invariant-loop-directory : goal.invariant-loop-directory
invariant-loop-directory l =
    map string_bytes l.each.items ++ filter (is_new (map string_bytes l.each.items)) (each_once (map string_bytes (drop l.directory-index l.named)))
    ≡ each_once (map string_bytes l.named)
