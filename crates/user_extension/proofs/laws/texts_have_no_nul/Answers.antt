use Rattle.user_extension.proofs.Values.{texts_have_no_nul}
use Rattle.user_extension.proofs.laws.texts_have_no_nul.Goals as goal

pub returns : goal.returns
returns c = texts_have_no_nul
