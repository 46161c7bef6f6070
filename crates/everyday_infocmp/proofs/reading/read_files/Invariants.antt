use Rattle.std.proofs.Common.{◌≡◌, ◌++◌, List, ℕ, Option, drop, map}
use Rattle.std.specs.Prelude.{option_map}
use Rattle.std.specs.String.{string_bytes}
use Rattle.tools_directories.specs.declared.finding.Found.{Found}
use Rattle.everyday_entries.specs.declared.failure.Failure.{Failure}
use Rattle.everyday_infocmp.specs.Reading.{GivesFiles, sought_names}
use Rattle.everyday_infocmp.proofs.reading.read_files.Given as goal

-- what the rest of the names give, all give
abbrev pub invariant-loop-name : goal.invariant-loop-name
invariant-loop-name g l = record {
  rest : (after : ℕ) (later : List Found) (stop : Option Failure)
      → GivesFiles (g.T.Tree.files l.initial.tree) (sought_names (map (λ name. name.now) (drop l.name-index l.names)) (option_map (λ dir. dir.now) l.only)
      (option_map (λ dir. dir.now) l.places.other) (map string_bytes l.places.directories.now)) (g.T.Tree.failures l.tree) after later stop
      → GivesFiles (g.T.Tree.files l.initial.tree) (sought_names (map (λ name. name.now) l.names) (option_map (λ dir. dir.now) l.places.first)
      (option_map (λ dir. dir.now) l.places.other) (map string_bytes l.places.directories.now)) (g.T.Tree.failures l.initial.tree) after
      (l.files.items ++ later) stop;
  kept : g.T.Tree.files l.tree ≡ g.T.Tree.files l.initial.tree;
}
