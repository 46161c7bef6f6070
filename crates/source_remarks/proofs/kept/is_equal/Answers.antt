use Rattle.std.proofs.Common.{sym, ◌∙◌}
use Rattle.std.proofs.lemmas.Slice.Eq.{bytes_eq-Decides}
use Rattle.source_remarks.proofs.kept.is_equal.Goals as goal

pub returns : goal.returns
returns c is = (bytes_eq-Decides _ _).0 (sym c.eq.ensures ∙ is)
