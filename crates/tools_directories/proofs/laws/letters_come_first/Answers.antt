use Rattle.tools_directories.proofs.Searches.{letters_come_first}
use Rattle.tools_directories.proofs.laws.letters_come_first.Goals as goal

pub returns : goal.returns
returns c = letters_come_first
