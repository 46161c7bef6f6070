use Rattle.ti_source.specs.declared.parsing.Rule.TheVariants.{Leftmost}
use Rattle.user_values.proofs.Resolving.{as_resolved}
use Rattle.user_values.proofs.laws.values_are_where_resolved.Goals as goal

pub returns : goal.returns
returns c = as_resolved Leftmost
