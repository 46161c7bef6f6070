use Rattle.std.proofs.Common.{◌≡◌, drop, map}
use Rattle.lsp_messages.specs.Views.{edit_view}
use Rattle.lsp_server.specs.Steps.{send_whole}
use Rattle.lsp_server.proofs.editing.send_whole.Given as goal

-- those that are left say it
abbrev pub invariant-loop-change : goal.invariant-loop-change
invariant-loop-change l = send_whole (map edit_view (drop l.change-index l.changes)) ≡ send_whole (map edit_view l.changes)
