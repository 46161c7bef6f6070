use Rattle.std.proofs.Common.{◌∙◌, ap, subst, sym}
use Rattle.user_values.specs.Tables.{NamesRise, TableSeen, said_at}
use Rattle.user_values.proofs.table.UserTable.get.Goals as goal

pub find-requires : goal.find-requires
find-requires c = subst (λ (t : TableSeen). NamesRise t) (sym c.slice_of.ensures) c.self.invariant

pub returns : goal.returns
returns c = c.find.ensures ∙ ap (λ (t : TableSeen). said_at t c.args.name.now) (c.slice_of.ensures ∙ c.self.view_is)
