use Rattle.source_format.proofs.OtherSystems.{ends_are_kept, laid_out}
use Rattle.source_format.proofs.laws.formatted_sources_are_faithful.Goals as goal

pub returns-clause-laid_out : goal.returns-clause-laid_out
returns-clause-laid_out c =
    laid_out c.writing_is_read_back.ensures c.writing_is_settled.ensures c.formatting_is_faithful.ensures.alike c.formatting_is_faithful.ensures.fits
    c.formatting_is_faithful.ensures.settled

pub returns-clause-ends : goal.returns-clause-ends
returns-clause-ends c = ends_are_kept c.sources_of_other_systems_are_read.ensures c.line_ends_stay.ensures
