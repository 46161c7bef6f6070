use Rattle.tools_sources.proofs.Filing.{names_ascii}
use Rattle.tools_sources.proofs.entry_files.add_entry_files.Goals as goal

pub add_owned-requires : goal.add_owned-requires
add_owned-requires c = names_ascii c.args.database.now.texts _ c.args.at c.one_reading.ensures.each c.requires c.names.ensures
