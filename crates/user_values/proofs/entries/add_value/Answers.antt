use Rattle.std.proofs.Common.{sym, ◌∙◌}
use Rattle.std.proofs.lemmas.Result.{on_ok_weaker}
use Rattle.user_values.specs.Tables.{entry_seen}
use Rattle.user_values.specs.inside.Entries.{held_seen}
use Rattle.user_values.proofs.Uncancelling.{cancel_dropped, value_added}
use Rattle.user_values.proofs.entries.add_value.Goals as goal

pub returns-then-is_cancel-clause-added : goal.returns-then-is_cancel-clause-added
returns-then-is_cancel-clause-added c =
    cancel_dropped (entry_seen c.args.entry.now.value) (held_seen c.args.held.now) (sym c.is_cancel.ensures ∙ c.if-is_cancel.true)

pub returns-clause-added : goal.returns-clause-added
returns-clause-added c =
    on_ok_weaker c.add_entry.result
    (value_added (entry_seen c.args.entry.now.value) (held_seen c.args.held.now) (held_seen c.add_entry.new.held)
    (sym c.is_cancel.ensures ∙ c.if-is_cancel.false))
    c.add_entry.ensures.added
