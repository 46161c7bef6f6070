use Rattle.std.proofs.Common.{◌≡◌, ◌≤◌, ◌∙◌, ap, length, subst, sym}
use Rattle.std.proofs.lemmas.Result.{on_ok_weaker}
use Rattle.std.specs.List.{insert}
use Rattle.std.specs.declared.alloc.Global.{Global}
use Rattle.std.specs.declared.rc.Rc.{Rc}
use Rattle.std.specs.declared.vec.Vec.{Vec}
use Rattle.user_values.specs.Tables.{entries_seen, entry_seen}
use Rattle.user_values.specs.declared.entries.UserEntry.{UserEntry}
use Rattle.user_values.proofs.Searching.{Entries, list_more}
use Rattle.user_values.proofs.entries.put_in.Goals as goal

pub with_entry-requires : goal.with_entry-requires
with_entry-requires c =
    let same : c.as_slice.result.now ≡ c.args.list.now.value.items =
    c.as_slice.ensures.value ∙ ap (λ (list : Vec (Rc UserEntry Global) Global). list.items) c.as_ref.ensures in
    subst (λ (es : Entries). c.args.at ≤ length es) (sym same) c.requires

pub returns-in-Some-clause-ok : goal.returns-in-Some-clause-ok
returns-in-Some-clause-ok c =
    on_ok_weaker c.insert_at.result
    (list_more c.in-Some.own.now.items c.insert_at.new.list.items (entries_seen c.args.list.now.value.items) c.args.at c.args.entry
    (ap (λ (list : Vec (Rc UserEntry Global) Global). entries_seen list.items) c.in-Some.ensures.value))
    c.insert_at.ensures.ok

pub returns-in_ok-list-in-None-clause-ok : goal.returns-in_ok-list-in-None-clause-ok
returns-in_ok-list-in-None-clause-ok c =
    let same : c.as_slice.result.now ≡ c.args.list.now.value.items =
    c.as_slice.ensures.value ∙ ap (λ (list : Vec (Rc UserEntry Global) Global). list.items) c.as_ref.ensures in
    c.in_ok-list-in-None.ensures ∙ ap (λ (es : Entries). insert (entries_seen es) c.args.at (entry_seen c.args.entry.value)) same
