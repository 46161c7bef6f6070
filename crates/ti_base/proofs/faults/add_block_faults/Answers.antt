use Rattle.std.proofs.Common.{◌≡◌, ◌++◌, true, filter, length, map, take, drop, sym, ap, ◌∙◌, arith}
use Rattle.std.specs.Rc.{rc_slice_items}
use Rattle.std.proofs.lemmas.Option.{same_Some}
use Rattle.ti_source.specs.Reading.{reading_of, fault_of}
use Rattle.base_meaning.specs.Faults.{fault_seen, is_kept, local_faults, name_faults}
use Rattle.base_slots.specs.Slots.{blocks_of}
use Rattle.base_slots.specs.Settled.{fault_at}
use Rattle.ti_base.proofs.KeptFaults.{after_names, header_within, kept_header, kept_rest, three_added}
use Rattle.base_slots.proofs.Owners.{block_of_slot}
use Rattle.ti_base.proofs.SlotFaults.{kept_of_slot}
use Rattle.ti_base.proofs.faults.add_block_faults.Goals as goal

pub split_at-requires : goal.split_at-requires
split_at-requires c =
    let slots = c.args.slots.now in
    let slot = c.slot_of-slot.result.now in
    let here = c.slot_of-slot.ensures in
    let within = header_within (blocks_of slots) c.args.at (reading_of slot.block) slot.settled.faults.items
    (kept_of_slot slots c.args.at slot c.requires.kept here) in
    let count : c.count_of_header-count.result ≡ length (filter (is_kept true) (reading_of slot.block).faults) =
    c.count_of_header-count.ensures ∙ ap (λ fs. length (filter (is_kept true) (map fault_of fs))) c.deref.ensures.value in
    let all : length c.deref-2.result.now ≡ length slot.settled.faults.items = ap (λ fs. length fs) c.deref-2.ensures.value in
    omega (arith, within, count, all)

pub returns : goal.returns
returns c = λ b s.
    let slots = c.args.slots.now in
    let blocks = blocks_of slots in
    let at = c.args.at in
    let slot = c.slot_of-slot.result.now in
    let block = reading_of slot.block in
    let items = slot.settled.faults.items in
    let here = c.slot_of-slot.ensures in
    let kept = kept_of_slot slots at slot c.requires.kept here in
    let count : c.count_of_header-count.result ≡ length (filter (is_kept true) block.faults) =
    c.count_of_header-count.ensures ∙ ap (λ fs. length (filter (is_kept true) (map fault_of fs))) c.deref.ensures.value in
    let front : map (fault_at at) c.split_at.result.0.now ≡ local_faults true at block.faults =
    ap (map (fault_at at)) c.split_at.ensures.front
    ∙ (ap (λ n. map (fault_at at) (take n c.deref-2.result.now)) count
    ∙ (ap (λ xs. map (fault_at at) (take (length (filter (is_kept true) block.faults)) xs)) c.deref-2.ensures.value
    ∙ kept_header blocks at block items kept)) in
    let back : map (fault_at at) c.split_at.result.1.now ≡ after_names blocks at block =
    ap (map (fault_at at)) c.split_at.ensures.back
    ∙ (ap (λ n. map (fault_at at) (drop n c.deref-2.result.now)) count
    ∙ (ap (λ xs. map (fault_at at) (drop (length (filter (is_kept true) block.faults)) xs)) c.deref-2.ensures.value ∙ kept_rest blocks at block items kept)) in
    let one = map fault_seen c.add_kept.new.faults.items in
    let two = map fault_seen c.add_name_faults.new.faults.items in
    rw (← same_Some block b (sym (block_of_slot slots at slot here) ∙ s))
    (three_added (map fault_seen c.args.faults.now.items) (local_faults true at block.faults) (name_faults blocks at block.names) (after_names blocks at block)
    one two (map fault_seen c.add_kept-2.new.faults.items)
    (c.in_ok-add_kept.ensures ∙ ap (λ xs. map fault_seen c.args.faults.now.items ++ xs) front)
    (c.in_ok-add_name_faults.ensures ∙ ap (λ names. one ++ name_faults blocks at (map rc_slice_items names)) c.deref-3.ensures.value)
    (c.in_ok-add_kept-2.ensures ∙ ap (λ xs. two ++ xs) back))
