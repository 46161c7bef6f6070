use Rattle.std.proofs.Common.{◌≡◌, ◌∙◌, ◌++◌, List, ℕ, Option, ap}
use Rattle.std.specs.Option.{option_map}
use Rattle.std.specs.Rc.{rc_slice_items}
use Rattle.std.proofs.lemmas.Result.{on_ok_weaker}
use Rattle.ti_layout.specs.Values.{Content, content_of, content_seen}
use Rattle.user_extension.specs.UserDefined.{Row, rows_of}
use Rattle.user_values.specs.Tables.{entry_seen}
use Rattle.user_values.specs.declared.entries.UserEntry.{UserEntry}
use Rattle.user_compiling.specs.inside.Kinds.{of_kind, row_with}
use Rattle.user_compiling.proofs.rows.push_entry.Goals as goal

same_row : (old new : List Row) (one other : List ℕ) (has gives : Option Content) → one ≡ other → has ≡ gives → new ≡ old ++ row_with one has
    → new ≡ old ++ row_with other gives
same_row old new one other has gives name content e =
    e ∙ ap (λ (n : List ℕ). old ++ row_with n has) name ∙ ap (λ (o : Option Content). old ++ row_with other o) content

pub returns : goal.returns
returns c =
    let entry = c.args.entry.now.value in
    let named : c.as_slice.result.now ≡ (entry_seen entry).0 =
    c.as_slice.ensures.value ∙ ap (λ (e : UserEntry). rc_slice_items e.name) c.as_ref-entry.ensures in
    let given : option_map content_seen c.content_of_kind.result ≡ of_kind c.args.kind (entry_seen entry).1 =
    c.content_of_kind.ensures ∙ ap (λ (e : UserEntry). of_kind c.args.kind (content_of e.value)) c.as_ref-entry.ensures in
    on_ok_weaker c.push_row.result
    (same_row (rows_of c.args.rows.now.items) (rows_of c.push_row.new.rows.items) c.as_slice.result.now (entry_seen entry).0
    (option_map content_seen c.content_of_kind.result) (of_kind c.args.kind (entry_seen entry).1) named given)
    c.push_row.ensures
