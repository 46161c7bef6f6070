use Rattle.std.proofs.Common.{◌∙◌, ap}
use Rattle.std.specs.declared.alloc.Global.{Global}
use Rattle.std.specs.declared.rc.Rc.{Rc}
use Rattle.std.specs.declared.vec.Vec.{Vec}
use Rattle.user_values.specs.Tables.{entries_seen}
use Rattle.user_values.specs.declared.entries.UserEntry.{UserEntry}
use Rattle.user_values.proofs.Searching.{as_many, list_more}
use Rattle.user_values.proofs.entries.with_entry.Goals as goal

pub insert_at-requires : goal.insert_at-requires
insert_at-requires c = as_many c.in_ok-list.list.items c.args.entries.now c.args.at c.in_ok-list.ensures c.requires

pub returns : goal.returns
returns c =
    ap (λ (list : Vec (Rc UserEntry Global) Global). entries_seen list.items) c.in_ok-shared.ensures.ok
    ∙ list_more c.in_ok-list.list.items c.insert_at.new.list.items (entries_seen c.args.entries.now) c.args.at c.args.entry c.in_ok-list.ensures
    c.in_ok-insert_at.ensures.ok
