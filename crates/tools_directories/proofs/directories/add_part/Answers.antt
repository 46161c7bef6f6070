use Rattle.tools_directories.proofs.directories.add_part.Goals as goal

pub returns-then-is_empty : goal.returns-then-is_empty
returns-then-is_empty c = rw (← c.if-is_empty.ensures) c.add_directory.ensures
