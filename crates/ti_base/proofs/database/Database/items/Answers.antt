use Rattle.std.proofs.Common.{option_map, slice_get, ap, sym, ◌∙◌}
use Rattle.ti_source.specs.Reading.{Reading}
use Rattle.base_meaning.specs.Owner.{readings}
use Rattle.ti_base.proofs.database.Database.items.Goals as goal

pub returns : goal.returns
returns c = ap (λ texts. option_map (λ (b : Reading). b.items) (slice_get (readings texts) c.args.at)) (sym c.self.view_is) ∙ c.items.ensures

pub items-requires : goal.items-requires
items-requires c = rw c.self.view_is c.requires
