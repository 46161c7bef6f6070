use Rattle.std.proofs.Common.{◌≡◌, ◌++◌, drop, map, option_map}
use Rattle.serde_json.specs.View.{items_view}
use Rattle.lsp_messages.specs.Messages.{edits_of}
use Rattle.lsp_messages.specs.Views.{edit_view}
use Rattle.lsp_messages.proofs.reading.read_changes.Given as goal

-- the changes so far are before those that are left
abbrev pub invariant-loop-value : goal.invariant-loop-value
invariant-loop-value l =
    option_map (λ rest. map edit_view l.changes.items ++ rest) (edits_of (items_view (drop l.value-index l.values.items)))
    ≡ edits_of (items_view l.values.items)
