-- the kinds are searched one after the other
use Rattle.std.proofs.Common.{◌∙◌, sym}
use Rattle.ti_caps.specs.declared.capability.Kind.TheVariants.{Flag, Number, Text}
use Rattle.ti_names.proofs.ByVariable.{from_flags, from_numbers, from_texts, found, if_found, if_none}
use Rattle.ti_names.proofs.variables.by_variable.Goals as goal

pub returns-in-Some-clause-found : goal.returns-in-Some-clause-found
returns-in-Some-clause-found c = found c.args.variable.now Flag c.in-Some.cap (sym c.of_kind.ensures ∙ c.in-Some.is)

pub returns-in-Some-clause-is : goal.returns-in-Some-clause-is
returns-in-Some-clause-is c = from_flags c.args.variable.now c.in-Some.cap (sym c.of_kind.ensures ∙ c.in-Some.is)

pub returns-in-Some-of_kind-clause-found : goal.returns-in-Some-of_kind-clause-found
returns-in-Some-of_kind-clause-found c = found c.args.variable.now Number c.in-Some-of_kind.cap (sym c.of_kind-2.ensures ∙ c.in-Some-of_kind.is)

pub returns-in-Some-of_kind-clause-is : goal.returns-in-Some-of_kind-clause-is
returns-in-Some-of_kind-clause-is c =
    from_numbers c.args.variable.now c.in-Some-of_kind.cap (sym c.of_kind.ensures ∙ c.in_default.is) (sym c.of_kind-2.ensures ∙ c.in-Some-of_kind.is)

pub returns-clause-found : goal.returns-clause-found
returns-clause-found c = if_found c.args.variable.now Text c.of_kind-3.result c.of_kind-3.ensures

pub returns-clause-none : goal.returns-clause-none
returns-clause-none c =
    if_none c.args.variable.now c.of_kind-3.result (sym c.of_kind.ensures ∙ c.in_default.is) (sym c.of_kind-2.ensures ∙ c.in_default-of_kind.is)
    c.of_kind-3.ensures

pub returns-clause-is : goal.returns-clause-is
returns-clause-is c =
    from_texts c.args.variable.now c.of_kind-3.result (sym c.of_kind.ensures ∙ c.in_default.is) (sym c.of_kind-2.ensures ∙ c.in_default-of_kind.is)
    c.of_kind-3.ensures
