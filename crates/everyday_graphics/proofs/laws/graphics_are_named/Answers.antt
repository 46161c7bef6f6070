use Rattle.std.proofs.Common.{refl}
use Rattle.ti_caps.specs.Names.{text_names}
use Rattle.ti_caps.specs.Tables.{names}
use Rattle.everyday_graphics.proofs.laws.graphics_are_named.Goals as goal

pub returns : goal.returns
unfolding names text_names
returns c = record { smacs = refl; rmacs = refl; acsc = refl }
