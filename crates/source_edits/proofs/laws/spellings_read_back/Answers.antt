use Rattle.source_edits.proofs.SpellingsRead.{spellings_read}
use Rattle.source_edits.proofs.laws.spellings_read_back.Goals as goal

pub returns : goal.returns
returns c = spellings_read c.one_outcome.ensures.values c.written_spells.ensures
