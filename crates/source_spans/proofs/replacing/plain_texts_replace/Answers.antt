use Rattle.source_spans.proofs.Plain.{plain_replace}
use Rattle.source_spans.proofs.replacing.plain_texts_replace.Goals as goal

pub returns : goal.returns
returns c = plain_replace
