use Rattle.std.proofs.Common.{◌≡◌, drop, map}
use Rattle.lsp_messages.specs.Views.{edit_view}
use Rattle.lsp_server.specs.Steps.{edited}
use Rattle.lsp_server.proofs.editing.edited_by.Given as goal

-- the changes that are left make the text
abbrev pub invariant-loop-change : goal.invariant-loop-change
invariant-loop-change g l =
    edited g.D.HeldText.place_in l.all.items (map edit_view (drop l.change-index l.changes))
    ≡ edited g.D.HeldText.place_in l.fn.text.items (map edit_view l.changes)
