use Rattle.std.proofs.Common.{◌≡◌, ◌++◌, take, map}
use Rattle.std.specs.String.{string_bytes}
use Rattle.tools_directories.specs.Directories.{directory_of_part}
use Rattle.tools_directories.proofs.directories.add_listed.Given as goal

-- the directories of the parts before
abbrev pub invariant-loop-part : goal.invariant-loop-part
invariant-loop-part l = map string_bytes l.directories.items
    ≡ map string_bytes l.initial.directories.items ++ map directory_of_part (map (λ part. part.now) (take l.part-index l.part-items))
