use Rattle.std.proofs.Common.{ap, ◌∙◌}
use Rattle.ti_compiled.specs.Image.{NamedTable}
use Rattle.ti_compiled.specs.inside.Image.{names_in}
use Rattle.ti_compiled.proofs.Rooms.{image_again}
use Rattle.ti_compiled.proofs.image.Image.names.Goals as goal

pub names_of-requires : goal.names_of-requires
names_of-requires c = image_again _ _ c.deref.ensures.value c.self.invariant

pub returns : goal.returns
returns c = c.names_of.ensures.names ∙ ap names_in c.deref.ensures.value ∙ ap (λ (i : NamedTable). i.names) c.self.view_is
