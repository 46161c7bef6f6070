use Rattle.ti_source.proofs.HeaderLemmas.{described, undescribed}
use Rattle.ti_source.proofs.header.without_description.Goals as goal

pub returns-in-Some : goal.returns-in-Some
returns-in-Some c = described c.args.field.now _ c.in-Some.ensures

pub returns-in-None : goal.returns-in-None
returns-in-None c = undescribed c.args.field.now c.in-None.ensures
