use Rattle.everyday_lint.proofs.FixedBlocks.{mend_blocks}
use Rattle.everyday_lint.proofs.FixedLines.{mend_sources}
use Rattle.everyday_lint.proofs.laws.certain_fixes_mend_blocks.Goals as goal

pub returns-clause-blocks : goal.returns-clause-blocks
returns-clause-blocks c = mend_blocks

pub returns-clause-sources : goal.returns-clause-sources
returns-clause-sources c = mend_sources
