use Rattle.source_block_hints.proofs.Counting.{each_has_a_count}
use Rattle.source_block_hints.proofs.laws.each_string_has_a_count.Goals as goal

pub returns : goal.returns
returns c = each_has_a_count
