use Rattle.std.proofs.Common.{ℕ, List, ◌++◌, Global, Option, Vec, ap, sym, ◌∙◌}
use Rattle.std.proofs.lemmas.List.{append-nil}
use Rattle.base_meaning.specs.Owner.{readings}
use Rattle.source_blocks.specs.Deciding.{inherited_from}
use Rattle.source_blocks.specs.declared.deciding.Inherited.{Inherited}
use Rattle.source_blocks.proofs.Deciders.{below_none}
use Rattle.source_blocks.proofs.Decisions.{below_next}
use Rattle.source_blocks.proofs.deciding.push_inherited.Goals as goal
use Rattle.source_blocks.proofs.deciding.push_inherited.Goals.{in-Some+in_ok-push, in_default}

pub loop-index-init : goal.loop-index-init
loop-index-init c =
    let start = c.args.found.now.items in
    sym (ap (λ (t : List Inherited). start ++ t) (below_none (readings c.args.database.now) c.args.at c.args.kind) ∙ append-nil start)

pub loop-index-preserved : goal.loop-index-preserved
loop-index-preserved c =
    let next = below_next (readings c.args.database.now) c.args.at c.args.kind c.loop-index.index c.cap_at-capability.result c.other_decider.result
    c.args.found.now.items c.loop-index.found.items c.match-other_decider.found.items
    c.cap_at-capability.ensures c.other_decider.ensures c.loop-index.invariant in
    elim c.match-other_decider.branch [
      | in-Some+in_ok-push w ↦
          next (ap (λ (v : Vec Inherited Global). v.items) w.found-is ∙ w.in_ok-push.ensures.items
          ∙ ap (λ (o : Option ℕ). c.loop-index.found.items ++ inherited_from c.cap_at-capability.result o) (sym w.in-Some.is))
      | in_default w ↦
          next (ap (λ (v : Vec Inherited Global). v.items) w.found-is ∙ sym (append-nil c.loop-index.found.items)
          ∙ ap (λ (o : Option ℕ). c.loop-index.found.items ++ inherited_from c.cap_at-capability.result o) (sym w.in_default.is))
    ]
