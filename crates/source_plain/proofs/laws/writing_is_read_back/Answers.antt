use Rattle.source_plain.proofs.Written.{read_back}
use Rattle.source_plain.proofs.laws.writing_is_read_back.Goals as goal

pub returns : goal.returns
returns c = read_back
