use Rattle.std.proofs.Common.{◌≡◌, ◌++◌, ℕ, List, drop, map}
use Rattle.std.specs.Rc.{rc_slice_items}
use Rattle.std.specs.String.{string_bytes}
use Rattle.everyday_sources.specs.Used.{ProblemSeen, TakesNames, problem_seen}
use Rattle.everyday_sources.proofs.used.take_all.Given as goal

-- what the rest of the names give, all give, with the problems so far
abbrev pub invariant-loop-name : goal.invariant-loop-name
invariant-loop-name g l = record {
  rest : (after : ℕ) (last : List (List ℕ)) (others : List ProblemSeen)
      → TakesNames l.user_defined (g.T.Tree.files l.initial.tree) (map string_bytes l.directories) l.database.texts
      (map rc_slice_items (drop l.name-index l.names)) (g.T.Tree.failures l.tree) after last others
      → TakesNames l.user_defined (g.T.Tree.files l.initial.tree) (map string_bytes l.directories) l.initial.database.texts (map rc_slice_items l.names)
      (g.T.Tree.failures l.initial.tree) after last
      (map problem_seen l.problems.items ++ others);
  kept : g.T.Tree.files l.tree ≡ g.T.Tree.files l.initial.tree;
  ruled : l.database.rule ≡ l.initial.database.rule;
}
