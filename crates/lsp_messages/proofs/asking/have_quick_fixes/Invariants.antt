use Rattle.std.proofs.Common.{◌≡◌, drop}
use Rattle.serde_json.specs.View.{items_view}
use Rattle.lsp_messages.specs.Messages.{have_quick_fixes}
use Rattle.lsp_messages.proofs.asking.have_quick_fixes.Given as goal

-- those that are left say it
abbrev pub invariant-loop-kind : goal.invariant-loop-kind
invariant-loop-kind l = have_quick_fixes (items_view (drop l.kind-index l.kinds.items)) ≡ have_quick_fixes (items_view l.kinds.items)
