use Rattle.tools_sources.proofs.Refusing.{load_refused}
use Rattle.tools_sources.proofs.loading.database_by.Goals as goal

pub returns-in-Err-clause-refused : goal.returns-in-Err-clause-refused
returns-in-Err-clause-refused c = load_refused c.args.source.now c.cause_of.result c.cause_of.ensures
