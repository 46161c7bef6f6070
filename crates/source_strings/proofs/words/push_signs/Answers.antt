use Rattle.source_strings.proofs.Appends.{three}
use Rattle.source_strings.proofs.words.push_signs.Goals as goal

pub returns : goal.returns
returns c = three _ _ _ _ _ _ _ c.push_if-3.result c.in_ok-push_if.ensures c.in_ok-push_if-2.ensures c.push_if-3.ensures
