use Rattle.source_fixes.proofs.EditsMend.{edits_fit}
use Rattle.source_fixes.proofs.FixesMend.{ascii_starts, fixes_mend}
use Rattle.source_fixes.proofs.laws.fixes_heal.Goals as goal

pub returns-clause-fixes : goal.returns-clause-fixes
returns-clause-fixes c =
    fixes_mend (edits_fit c.one_outcome.ensures.values c.written_spells.ensures c.each_is_well_read.ensures) c.held_blocks_fit.ensures
    c.edits_keep_lines.ensures

pub returns-clause-ascii : goal.returns-clause-ascii
returns-clause-ascii c = ascii_starts
