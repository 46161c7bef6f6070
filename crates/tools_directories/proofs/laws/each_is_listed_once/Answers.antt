use Rattle.tools_directories.proofs.Once.{each_is_listed_once}
use Rattle.tools_directories.proofs.laws.each_is_listed_once.Goals as goal

pub returns : goal.returns
returns c = each_is_listed_once
