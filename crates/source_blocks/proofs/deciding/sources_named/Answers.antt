use Rattle.std.proofs.Common.{Some, sym, ◌∙◌}
use Rattle.source_blocks.proofs.Spotting.{owner_found}
use Rattle.source_blocks.proofs.deciding.sources_named.Goals as goal

pub compiled-requires : goal.compiled-requires
compiled-requires c = owner_found c.args.database.now c.args.name.now (Some c.in-Some.at) (sym c.in-Some.is ∙ c.owner.ensures)

pub sources_of-requires : goal.sources_of-requires
sources_of-requires c = owner_found c.args.database.now c.args.name.now (Some c.in-Some.at) (sym c.in-Some.is ∙ c.owner.ensures)
