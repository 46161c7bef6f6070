-- What is sought in blocks, held in memory (own).
use Rattle.source_names.specs.Names as names
use Rattle.source_names.specs.Names.{one_name, uses_of_owner}
use Rattle.source_names.specs.declared.names.Sought.{Sought}
use Rattle.source_names.specs.declared.names.Sought.TheVariants.{Name, UsesOf}

-- what is sought, as plain data
abbrev pub sought_seen : Sought → names.Sought
sought_seen (UsesOf owner) = uses_of_owner owner
sought_seen (Name owner name) = one_name owner name.now
