use Rattle.std.proofs.Common.{ap, ◌∙◌}
use Rattle.base_meaning.specs.Owner.{owner, readings}
use Rattle.ti_base.proofs.database.Database.owner.Goals as goal

pub returns : goal.returns
returns c = c.owner.ensures ∙ ap (λ texts. owner (readings texts) c.args.name.now) c.self.view_is
