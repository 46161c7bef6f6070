use Rattle.std.proofs.Common.{option_map, slice_get, ap, sym, ◌∙◌}
use Rattle.ti_source.specs.Reading.{Reading}
use Rattle.base_meaning.specs.Owner.{readings}
use Rattle.ti_base.proofs.database.Database.names.Goals as goal

pub returns : goal.returns
returns c = ap (λ texts. option_map (λ (b : Reading). b.names) (slice_get (readings texts) c.args.at)) (sym c.self.view_is) ∙ c.names.ensures

pub names-requires : goal.names-requires
names-requires c = rw c.self.view_is c.requires
