use Rattle.source_features.proofs.WordReplaced.{words_replaced}
use Rattle.source_features.proofs.completions.completions_replace_a_word.Goals as goal

pub returns : goal.returns
returns c = words_replaced c.held_blocks_fit.ensures
