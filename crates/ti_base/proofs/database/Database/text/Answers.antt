use Rattle.std.proofs.Common.{slice_get, ap, sym, ◌∙◌}
use Rattle.ti_base.proofs.database.Database.text.Goals as goal

pub returns : goal.returns
returns c = ap (λ texts. slice_get texts c.args.at) (sym c.self.view_is) ∙ c.text.ensures

pub text-requires : goal.text-requires
text-requires c = rw c.self.view_is c.requires
