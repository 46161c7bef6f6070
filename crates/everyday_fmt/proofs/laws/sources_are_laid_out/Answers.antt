use Rattle.everyday_fmt.proofs.LaidOut.{all_are_laid, files_laid_out, input_laid_out}
use Rattle.everyday_fmt.proofs.laws.sources_are_laid_out.Goals as goal

pub returns-clause-files : goal.returns-clause-files
returns-clause-files c = files_laid_out (all_are_laid c.formatted_sources_are_faithful.ensures.laid_out c.repaired_sources_are_faithful.ensures.is_repaired)

pub returns-clause-input : goal.returns-clause-input
returns-clause-input c = input_laid_out (all_are_laid c.formatted_sources_are_faithful.ensures.laid_out c.repaired_sources_are_faithful.ensures.is_repaired)
