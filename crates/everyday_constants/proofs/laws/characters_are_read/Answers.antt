use Rattle.everyday_constants.proofs.Reading.{are_read, written_stay}
use Rattle.everyday_constants.proofs.laws.characters_are_read.Goals as goal

pub returns-clause-read : goal.returns-clause-read
returns-clause-read c = are_read c.entries_are_read.ensures c.one_reading.ensures

pub returns-clause-stay : goal.returns-clause-stay
returns-clause-stay c = written_stay c.entries_are_read.ensures c.one_reading.ensures c.one_with_characters.ensures c.characters_stay.ensures
