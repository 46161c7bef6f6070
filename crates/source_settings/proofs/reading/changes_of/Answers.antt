use Rattle.std.proofs.Common.{◌≡◌, ◌++◌, ◌∷◌, [], ◌∙◌, List, Ok, ap, map, string_bytes, sym}
use Rattle.std.proofs.lemmas.Map.Iter.{rest_more}
use Rattle.std.proofs.lemmas.List.{map-append}
use Rattle.std.specs.Map.Iter.{deref_pair}
use Rattle.toml.specs.View.{members_view, view}
use Rattle.source_settings.proofs.Changes.{changes-more}
use Rattle.source_settings.specs.Document.{and_then, changes_of}
use Rattle.source_settings.specs.Settings.{SeenChange, change_seen}
use Rattle.source_settings.proofs.reading.changes_of.Goals as goal

pub loop-code-preserved : goal.loop-code-preserved
loop-code-preserved c =
    let done = map change_seen c.loop-code.changes.items in
    let change = change_seen c.in_ok-change_of.field-0 in
    let others = members_view c.next.new.self in
    let left = rest_more deref_pair _ _ _ _ c.in-Some.is c.next.ensures.steps in
    let is = rw c.as_str.ensures.value at c.in_ok-change_of.ensures in
    let more = changes-more done change (string_bytes c.in-Some.code.now) (view c.in-Some.value.now) others is in
    let pushed : map change_seen c.push.new.self.items ≡ done ++ change ∷ [] =
    ap (map change_seen) c.in_ok-push.ensures.items ∙ map-append change_seen c.loop-code.changes.items (c.in_ok-change_of.field-0 ∷ []) in
    rw left at c.loop-code.invariant ∙ more
    ∙ ap (λ (all : List SeenChange). and_then (λ (rest : List SeenChange). Ok (all ++ rest)) (changes_of others)) (sym pushed)
