use Rattle.std.proofs.Common.{◌≡◌}
use Rattle.toml.specs.View.{members_view, table_view}
use Rattle.source_settings.specs.Document.{unknown_key}
use Rattle.source_settings.proofs.tables.unknown_key.Given as goal

-- the first such key is that of the rest
abbrev pub invariant-loop-key : goal.invariant-loop-key
invariant-loop-key l = unknown_key l.section (table_view l.table) ≡ unknown_key l.section (members_view l.key-iterator)
