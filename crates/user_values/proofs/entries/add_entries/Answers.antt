use Rattle.std.proofs.Common.{List, subst}
use Rattle.std.proofs.lemmas.List.{take_all}
use Rattle.std.specs.declared.alloc.Global.{Global}
use Rattle.std.specs.declared.rc.Rc.{Rc}
use Rattle.user_values.specs.Tables.{entries_seen, said_at}
use Rattle.user_values.specs.inside.Entries.{AddsEntries, held_seen}
use Rattle.user_values.specs.declared.entries.UserEntry.{UserEntry}
use Rattle.user_values.proofs.Saying.{or_none}
use Rattle.user_values.proofs.Searching.{entries_more}
use Rattle.user_values.proofs.entries.add_entries.Goals as goal

pub loop-entry-init : goal.loop-entry-init
loop-entry-init c = record { rise = c.requires; added = λ name. or_none (said_at (held_seen c.args.held.now) name) }

pub loop-entry-preserved : goal.loop-entry-preserved
loop-entry-preserved c = record {
  rise = c.add_entry.ensures.rise;
  added = entries_more c.args.entries.now c.loop-entry.entry-index c.entry-item.result (held_seen c.args.held.now) (held_seen c.loop-entry.held)
      (held_seen c.add_entry.new.held) c.loop-entry.invariant.added c.loop-entry-test.true c.entry-item.is c.in_ok-add_entry.ensures.added;
}

pub returns-clause-added : goal.returns-clause-added
returns-clause-added c =
    subst (λ (es : List (Rc UserEntry Global)). AddsEntries (entries_seen es) (held_seen c.args.held.now) (held_seen c.loop-entry.held))
    (take_all c.loop-entry.entry-index c.args.entries.now c.loop-entry-test.false) c.loop-entry.invariant.added
