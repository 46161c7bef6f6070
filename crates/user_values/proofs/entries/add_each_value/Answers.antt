use Rattle.std.proofs.Common.{List, subst}
use Rattle.std.proofs.lemmas.List.{take_all}
use Rattle.std.specs.declared.alloc.Global.{Global}
use Rattle.std.specs.declared.rc.Rc.{Rc}
use Rattle.user_values.specs.Tables.{entries_seen, said_at}
use Rattle.user_values.specs.inside.Entries.{AddsValues, held_seen}
use Rattle.user_values.specs.declared.entries.UserEntry.{UserEntry}
use Rattle.user_values.proofs.Saying.{or_none}
use Rattle.user_values.proofs.Uncancelling.{values_more}
use Rattle.user_values.proofs.entries.add_each_value.Goals as goal

pub loop-entry-init : goal.loop-entry-init
loop-entry-init c = record { rise = c.requires.held; added = λ name. or_none (said_at (held_seen c.args.held.now) name) }

pub loop-entry-preserved : goal.loop-entry-preserved
loop-entry-preserved c = record {
  rise = c.add_value.ensures.rise;
  added = values_more c.args.entries.now c.loop-entry.entry-index c.entry-item.result c.requires.entries c.loop-entry-test.true c.entry-item.is
      (held_seen c.args.held.now) (held_seen c.loop-entry.held) (held_seen c.add_value.new.held) c.loop-entry.invariant.added c.in_ok-add_value.ensures.added;
}

pub returns-clause-added : goal.returns-clause-added
returns-clause-added c =
    subst (λ (es : List (Rc UserEntry Global)). AddsValues (entries_seen es) (held_seen c.args.held.now) (held_seen c.loop-entry.held))
    (take_all c.loop-entry.entry-index c.args.entries.now c.loop-entry-test.false) c.loop-entry.invariant.added
