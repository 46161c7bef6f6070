use Rattle.std.proofs.Common.{subst, ◌≡◌, ◌+◌, Some, length, sym, ◌∙◌, ap}
use Rattle.std.proofs.lemmas.Option.{slice_get_within, get_or_from_slice_get}
use Rattle.std.proofs.lemmas.List.{length-map}
use Rattle.std.proofs.lemmas.Result.{IfOk-weaker}
use Rattle.base_meaning.specs.Usable.{IsUsable}
use Rattle.ti_source.specs.Reading.{reading_of, item_of}
use Rattle.base_meaning.specs.Dependents.{work_of}
use Rattle.base_plan.proofs.BlockFaults.{all_work}
use Rattle.base_slots.specs.Slots.{blocks_of}
use Rattle.base_slots.specs.Settled.{state_seen, table_of}
use Rattle.base_plan.proofs.BlockValues.{has_table, state_is, table_seen}
use Rattle.base_plan.proofs.tables.compile.Goals as goal

pub returns-clause-state : goal.returns-clause-state
returns-clause-state g c =
    let blocks = blocks_of c.args.known.now.slots.now in
    let block = reading_of c.args.slot.now.block in
    let table = has_table blocks g.at block c.in_ok-table.table c.requires.1.0 c.in_ok-table.ensures.table in
    IfOk-weaker c.make_state.result _ _ (λ state. state_is blocks block c.in_ok-table.table (state_seen state) table) c.make_state.ensures.state

pub returns-clause-table : goal.returns-clause-table
returns-clause-table g c =
    let blocks = blocks_of c.args.known.now.slots.now in
    let block = reading_of c.args.slot.now.block in
    let table = has_table blocks g.at block c.in_ok-table.table c.requires.1.0 c.in_ok-table.ensures.table in
    IfOk-weaker c.make_state.result _ _ (λ state is. table_seen blocks block c.in_ok-table.table (table_of state) is table) c.make_state.ensures.table

pub returns-clause-work : goal.returns-clause-work
returns-clause-work g c =
    let blocks = blocks_of c.args.known.now.slots.now in
    let block = reading_of c.args.slot.now.block in
    let items = c.args.slot.now.block.items.items in
    let table = has_table blocks g.at block c.in_ok-table.table c.requires.1.0 c.in_ok-table.ensures.table in
    let steps : c.make_table.new.left + length items ≡ c.args.left.now = c.in_ok-table.ensures.work in
    let all : work_of blocks (Some block) ≡ length items = all_work blocks block table.0 table.1 ∙ length-map items item_of in
    IfOk-weaker c.make_state.result _ _ (λ state is. ap (λ n. c.make_table.new.left + n) all ∙ steps) c.make_state.ensures.table

pub make_state-requires-clause-usable : goal.make_state-requires-clause-usable
make_state-requires-clause-usable g c =
    let bs = blocks_of c.args.known.now.slots.now in
    let b = reading_of c.args.slot.now.block in
    subst IsUsable (get_or_from_slice_get bs g.at b b c.requires.1.0) (c.requires.0.known.found.usable g.at b (slice_get_within bs g.at b c.requires.1.0))
