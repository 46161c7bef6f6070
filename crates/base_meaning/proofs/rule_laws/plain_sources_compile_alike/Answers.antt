use Rattle.base_meaning.proofs.RuledSources.{compiled_alike}
use Rattle.base_meaning.proofs.rule_laws.plain_sources_compile_alike.Goals as goal

pub returns : goal.returns
returns c = compiled_alike
