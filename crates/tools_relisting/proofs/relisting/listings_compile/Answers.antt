use Rattle.tools_relisting.proofs.Compiling.{listings_compile}
use Rattle.tools_relisting.proofs.relisting.listings_compile.Goals as goal

pub returns : goal.returns
returns c =
    listings_compile c.each_kind_is_in_order.ensures c.parts_are_read.ensures c.images_are_of_values.ensures.images c.images_are_of_values.ensures.limits
