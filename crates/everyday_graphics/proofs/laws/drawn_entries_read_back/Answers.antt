use Rattle.everyday_graphics.proofs.ReadBack.{drawn_read_back}
use Rattle.everyday_graphics.proofs.laws.drawn_entries_read_back.Goals as goal

pub returns : goal.returns
returns c =
    drawn_read_back c.each_is_well_read.ensures c.entries_are_read.ensures c.rows_are_user_defined.ensures c.entries_read_back.ensures
