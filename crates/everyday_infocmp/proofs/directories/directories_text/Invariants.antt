use Rattle.std.proofs.Common.{◌≡◌, map, take}
use Rattle.std.specs.String.{string_bytes}
use Rattle.everyday_infocmp.specs.Directories.{directories_text}
use Rattle.everyday_infocmp.proofs.directories.directories_text.Given as goal

-- the lines of the directories before
abbrev pub invariant-loop-directory : goal.invariant-loop-directory
invariant-loop-directory l = string_bytes l.text ≡ directories_text (map string_bytes (take l.directory-index l.directories))
