use Rattle.std.proofs.Common.{◌≡◌, map, take}
use Rattle.std.specs.List.{flat_map}
use Rattle.everyday_toe.specs.Listing.{directory_of, plain_text}
use Rattle.everyday_toe.proofs.listing.plain_table.Given as goal

-- the headings and the lines of the directories before
abbrev pub invariant-loop-directory : goal.invariant-loop-directory
invariant-loop-directory l = l.text.items ≡ flat_map (plain_text l.headings) (map directory_of (take l.directory-index l.directories))
