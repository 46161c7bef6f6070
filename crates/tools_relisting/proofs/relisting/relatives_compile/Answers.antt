use Rattle.tools_relisting.proofs.Relating.{relatives_compile}
use Rattle.tools_relisting.proofs.relisting.relatives_compile.Goals as goal

pub returns : goal.returns
returns c =
    relatives_compile c.each_kind_is_in_order.ensures c.parts_are_read.ensures c.images_are_of_values.ensures.images c.images_are_of_values.ensures.limits
