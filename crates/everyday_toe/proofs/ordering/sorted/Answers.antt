-- the rows that were picked are those of the keys
use Rattle.std.proofs.Common.{◌∙◌, List, ap, map}
use Rattle.everyday_toe.specs.Ordering.{Held, numbers_of, picked}
use Rattle.everyday_toe.specs.Placed.{placed_of}
use Rattle.everyday_toe.proofs.Picking.{map-picked}
use Rattle.everyday_toe.proofs.ordering.sorted.Goals as goal

pub returns : goal.returns
returns c = (
  c.in_ok-keys.keys.items,
  c.in_ok-keys.ensures,
  ap (map placed_of) c.in_ok-found.ensures ∙ map-picked placed_of c.args.rows.now _
      ∙ ap (λ (keys : List Held). picked (map placed_of c.args.rows.now) (numbers_of keys)) c.as_slice.ensures.value,
)
