use Rattle.std.proofs.Common.{◌≡◌, ◌<◌, ◌≤◌, length, subst, sym, ◌∙◌, ap}
use Rattle.std.specs.Option.{option_or}
use Rattle.std.proofs.lemmas.List.{length-map, take_all}
use Rattle.ti_layout.specs.Values.{Mention, Agrees, contents, content_of, entries_of}
use Rattle.ti_layout.specs.Laws.{without_cancel}
use Rattle.ti_layout.proofs.FirstMentions.{or_nothing}
use Rattle.ti_layout.proofs.Fronts.{contents-none}
use Rattle.ti_layout.proofs.Walked.{item_read}
use Rattle.base_plan.proofs.UncancelledEntries.{entry_kept, entry_dropped}
use Rattle.base_plan.proofs.tables.merge_values.Goals.{then-not-is_cancel+in_ok-copy_of+in_ok-push, else-not-is_cancel}
use Rattle.base_plan.proofs.tables.merge_values.Goals as goal

pub loop-entry-init : goal.loop-entry-init
loop-entry-init c k valid =
    let m = contents c.args.mentions.now k in
    sym (ap (λ o. option_or m (without_cancel o)) (contents-none k) ∙ or_nothing m)

pub push-requires : goal.push-requires
push-requires c =
    let ms = c.entries-entry-items.result.now in
    let i = c.loop-entry.entry-index in
    let x = c.entry-item.result in
    let e : Mention = (x.0, content_of x.1) in
    let within : i < length (entries_of ms) = rw length-map c.loop-entry-test.true in
    rw c.in_ok-copy_of.ensures (subst (λ (y : Mention). Agrees y.0 y.1) (item_read ms i x c.loop-entry-test.true c.entry-item.is)
    (c.entries-entry-items.ensures.sorted.agree i e within).1)

pub loop-entry-preserved : goal.loop-entry-preserved
loop-entry-preserved c k valid =
    let ms = c.entries-entry-items.result.now in
    let i = c.loop-entry.entry-index in
    let x = c.entry-item.result in
    let m = contents c.args.mentions.now k in
    elim c.if-not-is_cancel.branch [
      | then-not-is_cancel+in_ok-copy_of+in_ok-push w ↦
          let given = rw w.in_ok-copy_of.ensures at (w.in_ok-push.ensures k valid) in
          rw w.mentions-is
          (entry_kept ms i x c.entries-entry-items.ensures.sorted c.loop-entry-test.true c.entry-item.is k m (contents c.loop-entry.mentions k)
          (contents w.push.new.self k) (sym c.is_cancel.ensures ∙ w.if-not-is_cancel.true) (c.loop-entry.invariant k valid) given)
      | else-not-is_cancel w ↦
          rw w.mentions-is
          (entry_dropped ms i x c.entries-entry-items.ensures.sorted c.loop-entry-test.true c.entry-item.is k m (contents c.loop-entry.mentions k)
          (sym c.is_cancel.ensures ∙ w.if-not-is_cancel.false) (c.loop-entry.invariant k valid))
    ]
