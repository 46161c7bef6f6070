-- after the last of the others nothing is still to come
use Rattle.std.proofs.Common.{◌≤◌, ◌++◌, [], map, length, arith, sym, ◌∙◌, ap}
use Rattle.std.proofs.lemmas.List.{append-nil, drop_all}
use Rattle.ti_layout.specs.View.{entry_seen}
use Rattle.ti_list.specs.inside.Listing.{uses_before}
use Rattle.ti_list.proofs.Threads.{uses-then}
use Rattle.ti_list.proofs.listing.write_uses.Goals as goal

pub returns-clause-items : goal.returns-clause-items
returns-clause-items c =
    let others = c.args.others.now in
    let past : length others ≤ c.loop-other.other-index = omega arith in
    let ended = ap (λ xs. uses_before (map (λ o. entry_seen o) xs) []) (drop_all c.loop-other.other-index others past) in
    sym (append-nil c.loop-other.out.items) ∙ ap (λ end. c.loop-other.out.items ++ end) (sym ended) ∙ c.loop-other.invariant.done []
    ∙ ap (λ lines. c.args.out.now.items ++ lines) (uses-then (map (λ o. entry_seen o) others) [] ∙ append-nil _)
