use Rattle.std.proofs.Common.{◌≡◌, suc, ◌+◌, ◌<◌, ◌++◌, length, map, refl, sym, ap, ◌∙◌, arith}
use Rattle.std.proofs.lemmas.List.{append-nil, drop_all}
use Rattle.base_meaning.specs.Faults.{fault_seen, faults, faults_after}
use Rattle.base_slots.specs.Slots.{blocks_of}
use Rattle.base_slots.proofs.Owners.{length_blocks}
use Rattle.ti_text.proofs.Lists.{item_at}
use Rattle.ti_base.proofs.KeptFaults.{one_more_block}
use Rattle.ti_base.proofs.faults.source_faults.Goals as goal

pub loop-at-preserved : goal.loop-at-preserved
loop-at-preserved c =
    let slots = c.args.slots.now in
    let blocks = blocks_of slots in
    let n = length_blocks slots in
    let count = c.len-at-end.ensures in
    let within : c.loop-at.at < length blocks = omega arith in
    let block = item_at blocks c.loop-at.at within in
    let next : suc c.loop-at.at ≡ c.loop-at.at + 1 = omega arith in
    one_more_block blocks c.loop-at.at (c.loop-at.at + 1) block.0 (map fault_seen c.loop-at.faults.items)
    (map fault_seen c.add_block_faults.new.faults.items) (faults blocks)
    next block.1 c.loop-at.invariant (c.in_ok-add_block_faults.ensures block.0 block.1)

pub loop-at-init : goal.loop-at-init
loop-at-init c = rw c.new-faults.ensures.items refl

pub returns : goal.returns
returns c =
    let slots = c.args.slots.now in
    let blocks = blocks_of slots in
    let n = length_blocks slots in
    let count = c.len-at-end.ensures in
    let none = drop_all c.loop-at.at blocks (omega arith) in
    let all = map fault_seen c.loop-at.faults.items in
    sym (append-nil all) ∙ (ap (λ rest. all ++ faults_after blocks c.loop-at.at rest) (sym none) ∙ c.loop-at.invariant)
