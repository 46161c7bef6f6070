use Rattle.user_recompiling.proofs.EntryLaws.{AreKnown, relisting, relisting_anywhere}
use Rattle.user_recompiling.proofs.Names.{no_more}
use Rattle.user_recompiling.proofs.entries.listings_compile_back.Goals as goal

pub returns-clause-compile : goal.returns-clause-compile
returns-clause-compile c =
    let known : AreKnown = record {
      sound = c.one_outcome.ensures.values;
      computed = c.one_reading.ensures.each;
      well_read = c.each_is_well_read.ensures;
      one = c.one_reading-2.ensures;
      user_reading = c.one_user_reading.ensures;
      read = c.entries_are_read.ensures;
      user_defined = c.rows_are_user_defined.ensures;
      determined = c.states_of_blocks_are_determined.ensures;
      ordered = c.each_kind_is_in_order.ensures;
      stand = c.items_are_blocks.ensures;
      plain = c.items_are_read_by_the_profile.ensures;
    } in
    relisting known c.listings_say_the_entry.ensures.user_defined c.listings_say_the_entry.ensures.tables

pub returns-clause-anywhere : goal.returns-clause-anywhere
returns-clause-anywhere c =
    let known : AreKnown = record {
      sound = c.one_outcome.ensures.values;
      computed = c.one_reading.ensures.each;
      well_read = c.each_is_well_read.ensures;
      one = c.one_reading-2.ensures;
      user_reading = c.one_user_reading.ensures;
      read = c.entries_are_read.ensures;
      user_defined = c.rows_are_user_defined.ensures;
      determined = c.states_of_blocks_are_determined.ensures;
      ordered = c.each_kind_is_in_order.ensures;
      stand = c.items_are_blocks.ensures;
      plain = c.items_are_read_by_the_profile.ensures;
    } in
    relisting_anywhere known c.listings_say_the_entry.ensures.user_defined c.listings_say_the_entry.ensures.tables

pub returns-clause-names : goal.returns-clause-names
returns-clause-names c =
    let known : AreKnown = record {
      sound = c.one_outcome.ensures.values;
      computed = c.one_reading.ensures.each;
      well_read = c.each_is_well_read.ensures;
      one = c.one_reading-2.ensures;
      user_reading = c.one_user_reading.ensures;
      read = c.entries_are_read.ensures;
      user_defined = c.rows_are_user_defined.ensures;
      determined = c.states_of_blocks_are_determined.ensures;
      ordered = c.each_kind_is_in_order.ensures;
      stand = c.items_are_blocks.ensures;
      plain = c.items_are_read_by_the_profile.ensures;
    } in
    no_more known c.listings_are_read.ensures
