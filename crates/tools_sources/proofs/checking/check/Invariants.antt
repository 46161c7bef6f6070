use Rattle.tools_sources.proofs.Refusing.{IsCheckedTo}
use Rattle.tools_sources.proofs.checking.check.Given as goal

abbrev pub invariant-loop-text : goal.invariant-loop-text
invariant-loop-text l = IsCheckedTo l.source l.offset l.count l.cut.blocks
