-- the capability at the last place of the variable
use Rattle.std.proofs.Common.{sym, ◌∙◌}
use Rattle.ti_names.specs.Names.{variables}
use Rattle.ti_names.proofs.Named.{at_place}
use Rattle.ti_names.proofs.VariableTables.{length-variables}
use Rattle.ti_names.proofs.variables.of_kind.Goals as goal

pub returns : goal.returns
returns c = at_place c.args.variable.now c.args.kind (variables c.args.kind) (length-variables c.args.kind) _ _ (sym c.place_of.ensures ∙ c.in_ok-place_of.was)
    c.at.ensures.within c.at.ensures.value
