use Rattle.user_items.proofs.NameBytes.{names_have_no_nul}
use Rattle.user_items.proofs.laws.user_defined_names_have_no_nul.Goals as goal

pub returns : goal.returns
returns c = names_have_no_nul
