-- what is at the index is what the entries say, and a gap says nothing
use Rattle.std.proofs.Common.{◌≡◌, ◌∙◌, Some, ap, get_or}
use Rattle.std.proofs.lemmas.List.{length-map}
use Rattle.std.specs.declared.alloc.Global.{Global}
use Rattle.std.specs.declared.rc.Rc.{Rc}
use Rattle.ti_layout.specs.Values.{content_of}
use Rattle.user_values.specs.declared.entries.UserEntry.{UserEntry}
use Rattle.user_values.proofs.Searching.{value_here, value_nowhere}
use Rattle.user_values.proofs.entries.find.Goals as goal

pub bounds-entries-at : goal.bounds-entries-at
bounds-entries-at c = let w = c.in-Ok.ensures.found.within in rw length-map at w

pub returns-in-Ok : goal.returns-in-Ok
returns-in-Ok c =
    let entries = c.args.entries.now in
    let at = c.in-Ok.at in
    let entry = c.index-entries-at.result in
    let here : c.as_ref.result.now ≡ (get_or entries at entry).value =
    c.as_ref.ensures ∙ ap (λ (e : Rc UserEntry Global). e.value) c.index-entries-at.is in
    ap (λ (e : UserEntry). Some (content_of e.value)) here ∙ value_here entries c.requires c.args.name.now at entry c.in-Ok.ensures.found

pub returns-in-Err : goal.returns-in-Err
returns-in-Err c = value_nowhere c.args.entries.now c.requires c.args.name.now _ c.in-Err.ensures.absent
