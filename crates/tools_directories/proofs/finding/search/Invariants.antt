use Rattle.std.proofs.Common.{◌≡◌, ℕ, Option, drop, map}
use Rattle.std.specs.String.{string_bytes}
use Rattle.tools_devices.specs.Tree.{FileAt}
use Rattle.tools_directories.specs.Finding.{Finds, HasFailed}
use Rattle.tools_directories.proofs.finding.search.Given as goal

-- what the rest of the paths give, all give
abbrev pub invariant-loop-path : goal.invariant-loop-path
invariant-loop-path g l = record {
  rest : (after : ℕ) (file : Option FileAt) → Finds (g.T.Tree.files l.initial.tree) (map string_bytes (drop l.path-index l.paths))
      (g.T.Tree.failures l.tree) after file
      → Finds (g.T.Tree.files l.initial.tree) (map string_bytes l.paths) (g.T.Tree.failures l.initial.tree) after file;
  kept : g.T.Tree.files l.tree ≡ g.T.Tree.files l.initial.tree;
  failed : HasFailed (g.T.Tree.failures l.initial.tree) (g.T.Tree.failures l.tree);
}
