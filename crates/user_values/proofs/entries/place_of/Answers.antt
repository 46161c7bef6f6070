use Rattle.std.proofs.Common.{◌≡◌, ◌∙◌, ℕ, IfErr, IfOk, List, ap, subst, sym}
use Rattle.std.specs.Rc.{rc_slice_items}
use Rattle.user_values.specs.Tables.{NamesRise, TableSeen, entries_seen, entry_seen}
use Rattle.user_values.specs.inside.Entries.{IsAt, IsGapFor}
use Rattle.user_values.specs.declared.entries.UserEntry.{UserEntry}
use Rattle.user_values.proofs.entries.place_of.Goals as goal

pub search-requires : goal.search-requires
search-requires c = subst (λ (t : TableSeen). NamesRise t) (sym c.slice_of.ensures) c.requires

pub returns-clause-found : goal.returns-clause-found
returns-clause-found c =
    let named : c.as_slice.result.now ≡ (entry_seen c.args.entry.now.value).0 =
    c.as_slice.ensures.value ∙ ap (λ (e : UserEntry). rc_slice_items e.name) c.as_ref.ensures in
    subst (λ (t : TableSeen). IfOk c.search.result (IsAt t (entry_seen c.args.entry.now.value).0)) c.slice_of.ensures
    (subst (λ (n : List ℕ). IfOk c.search.result (IsAt (entries_seen c.slice_of.result.now) n)) named c.search.ensures.found)

pub returns-clause-absent : goal.returns-clause-absent
returns-clause-absent c =
    let named : c.as_slice.result.now ≡ (entry_seen c.args.entry.now.value).0 =
    c.as_slice.ensures.value ∙ ap (λ (e : UserEntry). rc_slice_items e.name) c.as_ref.ensures in
    subst (λ (t : TableSeen). IfErr c.search.result (IsGapFor t (entry_seen c.args.entry.now.value).0)) c.slice_of.ensures
    (subst (λ (n : List ℕ). IfErr c.search.result (IsGapFor (entries_seen c.slice_of.result.now) n)) named c.search.ensures.absent)
