use Rattle.std.proofs.Common.{◌≡◌, ◌≤◌, length, map, ap, ◌∙◌, arith}
use Rattle.std.specs.List.{range_with_len}
use Rattle.std.proofs.lemmas.List.Elements.{All-push}
use Rattle.ti_text.specs.Lines.{line_count}
use Rattle.base_meaning.specs.Report.{lines_before}
use Rattle.base_slots.specs.Slots.{slot_texts}
use Rattle.ti_base.proofs.Counting.{lines_more, starts_more}
use Rattle.base_slots.proofs.Owners.{length_texts}
use Rattle.ti_base.proofs.SlotEntries.{text_of_slot}
use Rattle.ti_base.proofs.report.line_starts.Goals as goal

pub loop-at-preserved : goal.loop-at-preserved
loop-at-preserved c =
    let slots = c.args.slots.now in
    let texts = slot_texts slots in
    let at = c.loop-at.at in
    let slot = c.slot_of.result.now in
    let here = text_of_slot slots at slot c.slot_of.ensures in
    let short : length slot.text.items ≤ 1048576 = (c.requires.read.sound at slot c.slot_of.ensures).text.short in
    let count = c.len-count.ensures in
    let more = lines_more texts at slot.text.items here in
    let lines : c.count_lines.result ≡ line_count slot.text.items = rw c.deref.ensures.value at c.count_lines.ensures.lines in
    let few : c.count_lines.result ≤ length slot.text.items = rw c.deref.ensures.value at c.count_lines.ensures.within in
    let so_far = c.loop-at.invariant.2 in
    let before = c.loop-at.invariant.1 in (
      c.in_ok-push.ensures.items ∙ starts_more texts at c.loop-at.lines c.loop-at.starts.items c.loop-at.invariant.0 before,
      omega (arith, more, lines, before),
      omega (arith, short, few, so_far),
      rw c.in_ok-push.ensures.items (All-push (λ start. start ≤ 68719476736) c.loop-at.starts.items c.loop-at.lines c.loop-at.invariant.3
          (let few_texts = c.requires.read.few in omega (arith, count, so_far))),
    )

pub returns-clause-starts : goal.returns-clause-starts
returns-clause-starts c =
    let slots = c.args.slots.now in
    let count = c.len-count.ensures in
    let end : c.loop-at.at ≡ length (slot_texts slots) = omega (arith, count, length_texts slots) in
    c.loop-at.invariant.0 ∙ ap (λ n. map (lines_before (slot_texts slots)) (range_with_len 0 n)) end
