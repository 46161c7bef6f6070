use Rattle.std.proofs.Common.{◌∙◌, subst, sym}
use Rattle.user_values.specs.Tables.{NamesRise, TableSeen}
use Rattle.user_values.proofs.table.UserTable.entries.Goals as goal

pub returns-clause-seen : goal.returns-clause-seen
returns-clause-seen c = c.slice_of.ensures ∙ c.self.view_is

pub returns-clause-rise : goal.returns-clause-rise
returns-clause-rise c = subst (λ (t : TableSeen). NamesRise t) (sym c.slice_of.ensures) c.self.invariant
