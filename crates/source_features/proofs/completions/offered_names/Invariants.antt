use Rattle.std.proofs.Common.{◌≡◌, ◌++◌, drop, filter, map}
use Rattle.std.specs.String.{string_bytes}
use Rattle.base_meaning.specs.Report.{shown_detail}
use Rattle.source_blocks.specs.Giving.{can_be_given}
use Rattle.source_features.specs.Completions.{names_from, offered_names}
use Rattle.source_features.proofs.completions.offered_names.Given as goal

-- the names so far, and those of the blocks that are left, are all
abbrev pub invariant-loop-at : goal.invariant-loop-at
invariant-loop-at l =
    map string_bytes l.names.items ++ map shown_detail (filter can_be_given (names_from l.database l.at (drop l.at l.database)))
    ≡ map shown_detail (offered_names l.database)
