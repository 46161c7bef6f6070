-- the row of the name leads to the capability; if there is no row, there is no capability
use Rattle.std.proofs.Common.{◌∙◌}
use Rattle.ti_caps.proofs.Table.{no_name_from_no_row}
use Rattle.ti_caps.proofs.Named.{found_at, no_capability_named, is_capability_named}
use Rattle.ti_caps.proofs.lookup.find.Goals as goal

pub returns-in_err-kind-clause-none : goal.returns-in_err-kind-clause-none
returns-in_err-kind-clause-none c = rw c.from_residual.ensures (no_name_from_no_row _ c.in_err-kind.ensures.none)

pub returns-in_err-kind-clause-is : goal.returns-in_err-kind-clause-is
returns-in_err-kind-clause-is c = c.from_residual.ensures ∙ no_capability_named _ (no_name_from_no_row _ c.in_err-kind.ensures.none)

pub returns-clause-found : goal.returns-clause-found
returns-clause-found c = let f = found_at _ _ _ _ c.in_ok-kind.ensures.found c.at.ensures.within c.at.ensures.value in rw f.is (f.within, f.named)

pub returns-clause-none : goal.returns-clause-none
returns-clause-none c = let f = found_at _ _ _ _ c.in_ok-kind.ensures.found c.at.ensures.within c.at.ensures.value in rw f.is tt

pub returns-clause-is : goal.returns-clause-is
returns-clause-is c =
    let f = found_at _ _ _ _ c.in_ok-kind.ensures.found c.at.ensures.within c.at.ensures.value in f.is ∙ is_capability_named _ _ f.within f.named
