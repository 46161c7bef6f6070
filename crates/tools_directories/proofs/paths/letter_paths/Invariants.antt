use Rattle.std.proofs.Common.{◌≡◌, take, map}
use Rattle.std.specs.String.{string_bytes}
use Rattle.tools_directories.specs.Paths.{letter_paths_of}
use Rattle.tools_directories.proofs.paths.letter_paths.Given as goal

-- the files below the directories before
abbrev pub invariant-loop-directory : goal.invariant-loop-directory
invariant-loop-directory l = map string_bytes l.paths.items ≡ letter_paths_of l.name (map string_bytes (take l.directory-index l.directories))
