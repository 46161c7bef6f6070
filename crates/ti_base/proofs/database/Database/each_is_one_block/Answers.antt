use Rattle.std.proofs.Common.{subst}
use Rattle.std.specs.List.{All}
use Rattle.ti_source.specs.Cutting.{OneBlock}
use Rattle.ti_base.proofs.database.Database.each_is_one_block.Goals as goal

pub returns : goal.returns
returns c = subst (All OneBlock) c.self.view_is c.each_is_one_block.ensures
