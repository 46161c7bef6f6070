use Rattle.base_meaning.proofs.KeptFaults.{touched_in_both}
use Rattle.base_meaning.proofs.edit_laws.touched_names_are_reached_in_both_lists.Goals as goal

pub returns : goal.returns
returns c = touched_in_both
