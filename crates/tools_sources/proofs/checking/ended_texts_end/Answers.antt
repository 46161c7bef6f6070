use Rattle.tools_sources.proofs.Refusing.{ends_with_newline}
use Rattle.tools_sources.proofs.checking.ended_texts_end.Goals as goal

pub returns : goal.returns
returns c = ends_with_newline
