use Rattle.std.proofs.Common.{option_map, slice_get, ap, sym, ◌∙◌}
use Rattle.ti_source.specs.Reading.{Reading}
use Rattle.base_meaning.specs.Owner.{readings}
use Rattle.ti_base.proofs.database.Database.local_faults.Goals as goal

pub returns : goal.returns
returns c = ap (λ texts. option_map (λ (b : Reading). b.faults) (slice_get (readings texts) c.args.at)) (sym c.self.view_is) ∙ c.local_faults.ensures

pub local_faults-requires : goal.local_faults-requires
local_faults-requires c = rw c.self.view_is c.requires
