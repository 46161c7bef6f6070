use Rattle.std.proofs.Common.{List, ℕ, slice_get, sym, ◌∙◌, ap, subst}
use Rattle.base_slots.specs.Positions.{ArePositions}
use Rattle.base_slots.specs.Slots.{ids_of}
use Rattle.base_dependents.proofs.dependents.blocks_found.Goals as goal

pub positions-requires : goal.positions-requires
positions-requires c = λ i id e.
    let copied = c.deref.ensures.value ∙ (c.in_ok-ids.ensures.items ∙ c.as_slice.ensures.keys) in
    c.requires i id (ap (λ xs. slice_get xs i) (sym copied) ∙ e)

pub returns-clause-placed : goal.returns-clause-placed
returns-clause-placed c =
    let ids = c.in_ok-ids.ensures.items ∙ c.as_slice.ensures.keys in
    let P : List ℕ → Type 0 = λ xs. ArePositions (ids_of c.args.slots.now) xs c.in_ok-positions.positions.items in
    record {
      ids_found = ids;
      are_positions = subst P (c.deref.ensures.value ∙ ids) c.in_ok-positions.ensures.positions;
      found_once = c.as_slice.ensures.unique;
      listed_once = c.in_ok-positions.ensures.distinct;
    }

pub returns-clause-uses : goal.returns-clause-uses
returns-clause-uses c = rw (c.in_ok-ids.ensures.items, c.as_slice.ensures.keys) c.in_ok-uses.ensures.uses

pub returns-clause-graph : goal.returns-clause-graph
returns-clause-graph c = c.in_ok-uses.ensures.graph
