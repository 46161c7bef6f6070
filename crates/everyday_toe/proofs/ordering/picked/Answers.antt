-- the row of the key is the next of the rest
use Rattle.std.proofs.Common.{◌∙◌, ◌+◌, ◌++◌, List, arith, drop, sym}
use Rattle.std.proofs.lemmas.List.{at_drop_more}
use Rattle.everyday_toe.specs.Ordering.{Held, numbers_of, picked}
use Rattle.everyday_toe.specs.declared.ordering.Placed.{Placed}
use Rattle.everyday_toe.proofs.Picking.{picked_more}
use Rattle.everyday_toe.proofs.ordering.picked.Goals as goal

pub loop-key-preserved : goal.loop-key-preserved
loop-key-preserved c =
    let keys = c.args.keys.now in
    let at = c.loop-key.key-index in
    let rest : List Held → List Placed = λ held. c.loop-key.found.items ++ picked c.args.rows.now (numbers_of held) in
    picked_more c.args.rows.now c.loop-key.found.items _ _ (numbers_of (drop (at + 1) keys)) _ c.in_ok-push_at.ensures
    (sym (at_drop_more rest keys at _ (omega arith)) ∙ c.loop-key.invariant)
