use Rattle.std.proofs.Common.{◌≡◌, map}
use Rattle.source_document.specs.Documents.{held}
use Rattle.tools_sources.specs.Sources.{first_line}
use Rattle.source_remarks.specs.Hints.{hint_seen, hints_before}
use Rattle.source_remarks.proofs.sources.block_hints.Given as goal

abbrev pub invariant-loop-at : goal.invariant-loop-at
invariant-loop-at l = map hint_seen l.all.items ≡ hints_before l.user_defined (held l.document) (first_line l.document) l.at
