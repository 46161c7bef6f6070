use Rattle.ti_source.proofs.ReadingLaws.{rule_of_text}
use Rattle.ti_source.proofs.laws.blocks_are_leftmost.Goals as goal

pub returns : goal.returns
returns c = rule_of_text
