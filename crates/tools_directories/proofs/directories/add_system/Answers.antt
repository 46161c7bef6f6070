use Rattle.tools_directories.proofs.Once.{three}
use Rattle.tools_directories.proofs.directories.add_system.Goals as goal

pub returns : goal.returns
returns c = three _ _ _ _ _ _ _ c.in_ok-add_directory.ensures c.in_ok-add_directory-2.ensures c.in_ok-add_directory-3.ensures
