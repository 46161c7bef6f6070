-- each step writes the item of one capability, or there is none
use Rattle.std.proofs.Common.{◌≡◌, ◌≤◌, ◌++◌, ◌∷◌, ℕ, List, length, option_map, Some, None, refl, sym, ap, ◌∙◌, arith}
use Rattle.ti_layout.specs.View.{view_contents}
use Rattle.ti_layout.specs.Values.{content_seen}
use Rattle.ti_list.specs.Listing.{in_order}
use Rattle.ti_list.specs.RelativeSource.{differing_contents}
use Rattle.ti_list.proofs.Orders.{length-in_order}
use Rattle.user_listing.specs.Entries.{all_seen, entries_in}
use Rattle.user_listing.specs.Items.{named_item}
use Rattle.user_listing.specs.inside.Lines.{flow}
use Rattle.user_listing.proofs.Flowing.{table-some, table-none, table-end}
use Rattle.user_listing.proofs.listing.push_table_items.Goals as goal
use Rattle.user_listing.proofs.listing.push_table_items.Goals.{in-Some+in_ok-line, in_default}

pub loop-place-preserved : goal.loop-place-preserved
loop-place-preserved c =
    let table = differing_contents (view_contents c.args.entry.now.view) (entries_in (all_seen c.args.others.now)) in
    let caps = in_order c.args.layout.now.order c.args.kind in
    λ later. elim c.match-said_of_cap.branch [
      | in-Some+in_ok-line w ↦
          let some : option_map content_seen c.said_of_cap.result ≡ Some (content_seen w.in-Some.content) = rw w.in-Some.is refl in
          let named = w.as_bytes.ensures.value ∙ w.name.ensures in
          rw (w.out-is, w.line-is)
          (table-some c.args.layout.now c.loop-place.line _ c.loop-place.out.items _ _ table caps c.loop-place.place _
          (content_seen w.in-Some.content) later c.cap_at-cap.ensures (sym c.said_of_cap.ensures ∙ some)
          (λ items. w.in_ok-line.ensures items ∙ ap (λ (n : List ℕ). c.loop-place.out.items ++ flow c.args.layout.now c.loop-place.line (named_item n
          (content_seen w.in-Some.content) ∷ items)) named)
          (c.loop-place.invariant later))
      | in_default w ↦
          let none : option_map content_seen c.said_of_cap.result ≡ None = rw w.in_default.is refl in
          rw (w.out-is, w.line-is)
          (table-none c.args.layout.now c.loop-place.line c.loop-place.out.items _ table caps c.loop-place.place _ later c.cap_at-cap.ensures
          (sym c.said_of_cap.ensures ∙ none) (c.loop-place.invariant later))
    ]

pub returns : goal.returns
returns c =
    let table = differing_contents (view_contents c.args.entry.now.view) (entries_in (all_seen c.args.others.now)) in
    let caps = in_order c.args.layout.now.order c.args.kind in
    let past : length caps ≤ c.loop-place.place = rw length-in_order (omega (arith, c.count-place-end.ensures.value, c.loop-place-test.false)) in
    λ later. table-end c.args.layout.now c.loop-place.line c.loop-place.out.items table caps c.loop-place.place later past ∙ c.loop-place.invariant later
