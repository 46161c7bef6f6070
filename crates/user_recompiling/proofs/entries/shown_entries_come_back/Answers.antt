use Rattle.user_recompiling.proofs.EntryLaws.{AreKnown, shown-from, shown_come_back, shown_relative_source}
use Rattle.user_recompiling.proofs.Names.{shown_no_more}
use Rattle.user_recompiling.proofs.entries.shown_entries_come_back.Goals as goal

pub returns-clause-shown : goal.returns-clause-shown
returns-clause-shown c =
    let known : AreKnown = record {
      sound = c.one_outcome.ensures.values;
      computed = c.one_reading.ensures.each;
      well_read = c.each_is_well_read.ensures;
      one = c.one_reading-2.ensures;
      user_reading = c.one_user_reading.ensures;
      read = c.entries_are_read.ensures;
      user_defined = c.rows_are_user_defined.ensures;
      determined = c.states_of_blocks_are_determined.ensures;
      ordered = c.each_kind_is_in_order.ensures;
      stand = c.items_are_blocks.ensures;
      plain = c.items_are_read_by_the_profile.ensures;
    } in
    λ bytes shown made. shown-from known bytes shown made

pub returns-clause-come_back : goal.returns-clause-come_back
returns-clause-come_back c =
    let known : AreKnown = record {
      sound = c.one_outcome.ensures.values;
      computed = c.one_reading.ensures.each;
      well_read = c.each_is_well_read.ensures;
      one = c.one_reading-2.ensures;
      user_reading = c.one_user_reading.ensures;
      read = c.entries_are_read.ensures;
      user_defined = c.rows_are_user_defined.ensures;
      determined = c.states_of_blocks_are_determined.ensures;
      ordered = c.each_kind_is_in_order.ensures;
      stand = c.items_are_blocks.ensures;
      plain = c.items_are_read_by_the_profile.ensures;
    } in
    shown_come_back known c.listings_say_the_entry.ensures.user_defined c.listings_say_the_entry.ensures.tables

pub returns-clause-names : goal.returns-clause-names
returns-clause-names c = shown_no_more c.listings_are_read.ensures

pub returns-clause-relative : goal.returns-clause-relative
returns-clause-relative c =
    let known : AreKnown = record {
      sound = c.one_outcome.ensures.values;
      computed = c.one_reading.ensures.each;
      well_read = c.each_is_well_read.ensures;
      one = c.one_reading-2.ensures;
      user_reading = c.one_user_reading.ensures;
      read = c.entries_are_read.ensures;
      user_defined = c.rows_are_user_defined.ensures;
      determined = c.states_of_blocks_are_determined.ensures;
      ordered = c.each_kind_is_in_order.ensures;
      stand = c.items_are_blocks.ensures;
      plain = c.items_are_read_by_the_profile.ensures;
    } in
    shown_relative_source known c.relatives_say_the_entry_in_a_source.ensures.user_defined c.relatives_say_the_entry_in_a_source.ensures.tables
