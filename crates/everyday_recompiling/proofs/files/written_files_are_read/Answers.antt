use Rattle.everyday_recompiling.proofs.Listed.{AreKnown, files_come_back, files_compile_back}
use Rattle.everyday_recompiling.proofs.Spelled.{IsKnown}
use Rattle.everyday_recompiling.proofs.WrittenFiles.{files_are_read}
use Rattle.everyday_recompiling.proofs.files.written_files_are_read.Goals as goal

pub returns-clause-read : goal.returns-clause-read
returns-clause-read c =
    let known : IsKnown = record {
      entries = c.entries_read_back.ensures;
      well = c.each_is_well_read.ensures;
      read = c.entries_are_read.ensures;
      user_defined = c.rows_are_user_defined.ensures;
      characters = c.characters_are_read.ensures.read;
      stay = c.characters_are_read.ensures.stay;
    } in
    files_are_read c.drawn_entries_read_back.ensures
    (record { alike = c.fitted_blocks_read_alike.ensures; names = c.named_entries_read.ensures; known = known }) c.sources_come_first.ensures

pub returns-clause-compile_back : goal.returns-clause-compile_back
returns-clause-compile_back c =
    let known : IsKnown = record {
      entries = c.entries_read_back.ensures;
      well = c.each_is_well_read.ensures;
      read = c.entries_are_read.ensures;
      user_defined = c.rows_are_user_defined.ensures;
      characters = c.characters_are_read.ensures.read;
      stay = c.characters_are_read.ensures.stay;
    } in
    let laws : AreKnown = record {
      entries = c.entries_read_back.ensures;
      one = c.one_reading.ensures;
      well = c.each_is_well_read.ensures;
      read = c.entries_are_read.ensures;
      determined = c.rows_are_determined.ensures;
      user_defined = c.rows_are_user_defined.ensures;
      states = c.states_of_blocks_are_determined.ensures;
      are_shown = c.shown_entries_come_back.ensures.shown;
      come_back = c.shown_entries_come_back.ensures.come_back;
      tables = c.listings_say_the_entry.ensures.tables;
      alike = c.fitted_blocks_read_alike.ensures;
      spelled = known;
    } in
    files_compile_back laws

pub returns-clause-come_back : goal.returns-clause-come_back
returns-clause-come_back c =
    let known : IsKnown = record {
      entries = c.entries_read_back.ensures;
      well = c.each_is_well_read.ensures;
      read = c.entries_are_read.ensures;
      user_defined = c.rows_are_user_defined.ensures;
      characters = c.characters_are_read.ensures.read;
      stay = c.characters_are_read.ensures.stay;
    } in
    let laws : AreKnown = record {
      entries = c.entries_read_back.ensures;
      one = c.one_reading.ensures;
      well = c.each_is_well_read.ensures;
      read = c.entries_are_read.ensures;
      determined = c.rows_are_determined.ensures;
      user_defined = c.rows_are_user_defined.ensures;
      states = c.states_of_blocks_are_determined.ensures;
      are_shown = c.shown_entries_come_back.ensures.shown;
      come_back = c.shown_entries_come_back.ensures.come_back;
      tables = c.listings_say_the_entry.ensures.tables;
      alike = c.fitted_blocks_read_alike.ensures;
      spelled = known;
    } in
    files_come_back laws c.drawn_entries_read_back.ensures
    (record { alike = c.fitted_blocks_read_alike.ensures; names = c.named_entries_read.ensures; known = known }) c.sources_come_first.ensures c.each_has_cut.ensures c.one_cut.ensures
