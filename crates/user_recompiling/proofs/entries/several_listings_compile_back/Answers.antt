use Rattle.user_recompiling.proofs.EntryLaws.{AreKnown, relistings}
use Rattle.user_recompiling.proofs.entries.several_listings_compile_back.Goals as goal

pub returns : goal.returns
returns c =
    let known : AreKnown = record {
      sound = c.one_outcome.ensures.values;
      computed = c.one_reading.ensures.each;
      well_read = c.each_is_well_read.ensures;
      one = c.one_reading-2.ensures;
      user_reading = c.one_user_reading.ensures;
      read = c.entries_are_read.ensures;
      user_defined = c.rows_are_user_defined.ensures;
      determined = c.states_of_blocks_are_determined.ensures;
      ordered = c.each_kind_is_in_order.ensures;
      stand = c.items_are_blocks.ensures;
      plain = c.items_are_read_by_the_profile.ensures;
    } in
    relistings known c.listings_say_the_entry.ensures.user_defined c.listings_say_the_entry.ensures.tables
