use Rattle.user_relisting.proofs.Compiling.{listings_compile}
use Rattle.user_relisting.proofs.reading_back.listings_compile_by_the_profile.Goals as goal

pub returns : goal.returns
returns c = listings_compile c.each_kind_is_in_order.ensures c.items_are_read_by_the_profile.ensures c.images_are_of_values.ensures.images
    c.images_are_of_values.ensures.limits
