-- The numbers of severities and kinds (LSP 3.17, "DiagnosticSeverity" and "CompletionItemKind").
use Rattle.std.specs.Prelude.{ℕ}
use Rattle.source_types.specs.declared.items.ItemKind.{ItemKind}
use Rattle.source_types.specs.declared.items.ItemKind.TheVariants.{Capability, Entry}
use Rattle.source_types.specs.declared.severities.Severity.{Severity}
use Rattle.source_types.specs.declared.severities.Severity.TheVariants.{Error, Warning, Information, Hint}

-- "DiagnosticSeverity"
abbrev pub severity_number : Severity → ℕ
severity_number Error = 1
severity_number Warning = 2
severity_number Information = 3
severity_number Hint = 4

-- "CompletionItemKind": a capability is a field, an entry a struct
abbrev pub item_number : ItemKind → ℕ
item_number Capability = 5
item_number Entry = 22
