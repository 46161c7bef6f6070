use Rattle.std.proofs.Common.{◌≡◌}
use Rattle.std.specs.String.{string_bytes}
use Rattle.source_settings.specs.Finding.{NoneWithin, directory_of, up}
use Rattle.source_settings.proofs.finding.settle.Given as goal

-- no file so far
abbrev pub invariant-loop-passed : goal.invariant-loop-passed
invariant-loop-passed g l = record {
  above : string_bytes l.directory ≡ up l._passed (directory_of l.source);
  none : NoneWithin (g.T.Tree.files l.initial.tree) l.source l._passed;
  kept : g.T.Tree.files l.tree ≡ g.T.Tree.files l.initial.tree;
  counted : g.T.Tree.failures l.tree ≡ g.T.Tree.failures l.initial.tree;
}
