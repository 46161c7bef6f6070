use Rattle.tools_directories.proofs.Searches.{finds_the_first}
use Rattle.tools_directories.proofs.laws.finds_the_first.Goals as goal

pub returns : goal.returns
returns c = finds_the_first
