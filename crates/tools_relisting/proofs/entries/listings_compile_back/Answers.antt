use Rattle.tools_relisting.proofs.EntryLaws.{AreKnown, relisting}
use Rattle.tools_relisting.proofs.entries.listings_compile_back.Goals as goal

pub returns : goal.returns
returns c =
    let known : AreKnown = record {
      sound = c.one_outcome.ensures.values;
      computed = c.one_reading.ensures.each;
      well_read = c.each_is_well_read.ensures;
      read = c.images_are_read.ensures;
      one = c.one_reading-2.ensures;
      images = c.images_are_of_values.ensures.images;
      limits = c.images_are_of_values.ensures.limits;
      ordered = c.each_kind_is_in_order.ensures;
    } in
    relisting known c.parts_are_blocks.ensures c.listings_compile.ensures
