use Rattle.std.proofs.Common.{◌≡◌, ◌≤◌}
use Rattle.std.specs.Option.{option_map}
use Rattle.tools_devices.specs.Placing.{entries}
use Rattle.everyday_tic.specs.Entries.{entry_count, first_files}
use Rattle.everyday_tic.specs.inside.States.{others_seen, over, states_of}
use Rattle.everyday_tic.proofs.entries.entry_files.Given as goal

-- the files of the blocks before, and how many of these have files
abbrev pub invariant-loop-at : goal.invariant-loop-at
invariant-loop-at l = record {
  files : entries l.files.items ≡ first_files l.options.directory.now (option_map (λ e. e.now) l.options.entries) l.database.texts
      (over (states_of l.database.rule l.database.texts (option_map (λ c. c.now) l.compiled)) (others_seen l.others)) l.at;
  entries : l.entries ≡ entry_count l.options.directory.now (option_map (λ e. e.now) l.options.entries) l.database.texts
      (over (states_of l.database.rule l.database.texts (option_map (λ c. c.now) l.compiled)) (others_seen l.others)) l.at;
  few : l.entries ≤ l.at;
}
