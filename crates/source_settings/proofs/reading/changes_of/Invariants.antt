use Rattle.std.proofs.Common.{◌≡◌, ◌++◌, map, Ok}
use Rattle.toml.specs.View.{members_view, table_view}
use Rattle.source_settings.specs.Document.{and_then, changes_of}
use Rattle.source_settings.specs.Settings.{change_seen}
use Rattle.source_settings.proofs.reading.changes_of.Given as goal

-- the levels so far, and those of the rest
abbrev pub invariant-loop-code : goal.invariant-loop-code
invariant-loop-code l =
    changes_of (table_view l.table) ≡ and_then (λ others. Ok (map change_seen l.changes.items ++ others)) (changes_of (members_view l.code-iterator))
