use Rattle.std.proofs.Common.{◌≡◌, ◌+◌, List, ℕ, Option, drop, map}
use Rattle.std.specs.String.{string_bytes}
use Rattle.tools_devices.specs.Searching.{Finds}
use Rattle.tools_devices.proofs.searching.search.Given as goal

-- what the rest of the directories give, all give
abbrev pub invariant-loop-directory : goal.invariant-loop-directory
invariant-loop-directory g l = record {
  rest : (found : Option (List ℕ)) → Finds (l.limit + 1) (g.T.Tree.files l.initial.tree) l.name (map string_bytes (drop l.directory-index l.directories)) found
      → Finds (l.limit + 1) (g.T.Tree.files l.initial.tree) l.name (map string_bytes l.directories) found;
  kept : g.T.Tree.files l.tree ≡ g.T.Tree.files l.initial.tree;
  steady : g.T.Tree.failures l.tree ≡ g.T.Tree.failures l.initial.tree;
}
