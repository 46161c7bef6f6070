use Rattle.std.proofs.Common.{inl, refl, ◌∙◌}
use Rattle.ti_c.proofs.user_defined.ti_extension_read.Goals as goal

pub returns-in-Ok : goal.returns-in-Ok
returns-in-Ok c = inl (refl, c.in-Ok.ensures.good, c.held_of.ensures ∙ c.in-Ok.ensures.rows)
