use Rattle.std.proofs.Common.{ap, ◌∙◌}
use Rattle.std.proofs.lemmas.List.{take_rest}
use Rattle.server_answers.specs.Searching.{begins_alike}
use Rattle.server_answers.proofs.Searched.{holds_end, holds_next}
use Rattle.server_answers.proofs.searching.holds.Goals as goal

pub loop-at-preserved : goal.loop-at-preserved
loop-at-preserved c =
    let held = c.args.held.now in
    let name = c.args.name.now in
    let here = c.begins_alike.ensures ∙ ap (begins_alike held) (take_rest name c.loop-at.at) in
    holds_next held name c.loop-at.at c.begins_alike.result _ c.loop-at-test.true here c.if-begins_alike.false c.loop-at.invariant

pub returns : goal.returns
returns c = c.is_empty.ensures ∙ holds_end c.args.held.now c.args.name.now c.loop-at.at c.loop-at-test.false c.loop-at.invariant
