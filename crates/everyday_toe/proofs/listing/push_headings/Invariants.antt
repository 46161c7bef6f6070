use Rattle.std.proofs.Common.{◌≡◌, ◌++◌, map, take}
use Rattle.everyday_toe.specs.Listing.{directory_of, headings_text}
use Rattle.everyday_toe.proofs.listing.push_headings.Given as goal

-- the headings of the directories before
abbrev pub invariant-loop-directory : goal.invariant-loop-directory
invariant-loop-directory l =
    l.text.items ≡ l.initial.text.items ++ headings_text l.headings (map directory_of (take l.directory-index l.directories))
