use Rattle.std.proofs.Common.{◌<◌, length, ◌∙◌, arith}
use Rattle.std.proofs.lemmas.List.{take_all}
use Rattle.ti_text.specs.Lists.{AreDistinct}
use Rattle.base_dependents.proofs.AllIds.{listed_more}
use Rattle.base_dependents.proofs.listing.listed_ids.Goals as goal

pub loop-id-preserved : goal.loop-id-preserved
loop-id-preserved c =
    let ids = c.ids-ids.result.now in
    let at = c.loop-id.id-index in
    let within : at < length ids = omega arith in
    let once : AreDistinct ids = rw c.ids-ids.ensures.ids c.ids-ids.ensures.distinct in
    listed_more ids c.loop-id.found.keys c.insert.new.self.keys at once within c.loop-id.invariant c.in_ok-insert.ensures.keys

pub loop-id-init : goal.loop-id-init
loop-id-init c = c.in_ok-found.ensures.empty

pub returns-clause-ids : goal.returns-clause-ids
returns-clause-ids c = c.loop-id.invariant ∙ (take_all c.loop-id.id-index c.ids-ids.result.now c.loop-id-test.false ∙ c.ids-ids.ensures.ids)

pub returns-clause-distinct : goal.returns-clause-distinct
returns-clause-distinct c = c.ids-ids.ensures.distinct
