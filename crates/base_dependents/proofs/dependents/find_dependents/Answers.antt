use Rattle.std.proofs.Common.{map}
use Rattle.std.specs.Rc.{rc_slice_items}
use Rattle.std.proofs.lemmas.Result.{IfOk-weaker}
use Rattle.base_dependents.proofs.Closing.{copied_ids}
use Rattle.base_dependents.proofs.dependents.find_dependents.Goals as goal

pub blocks_found-requires : goal.blocks_found-requires
blocks_found-requires c = λ i id e. c.in_ok-search.ensures.within id (i, e)

pub returns-clause-distinct : goal.returns-clause-distinct
returns-clause-distinct c = IfOk-weaker c.blocks_found.result _ _ (λ d placed. placed.listed_once) c.blocks_found.ensures.placed

pub returns-clause-found : goal.returns-clause-found
returns-clause-found c =
    IfOk-weaker c.blocks_found.result _ _
    (λ d. copied_ids c.args.slots.now c.args.put (map rc_slice_items c.args.out.now) c.search.new.found.keys d.ids.items d.positions.items
    c.in_ok-search.ensures)
    c.blocks_found.ensures.placed
