use Rattle.source_kept_lines.proofs.OtherSystems.{are_repaired, ends_are_kept}
use Rattle.source_kept_lines.proofs.laws.repaired_sources_are_faithful.Goals as goal

pub returns-clause-is_repaired : goal.returns-clause-is_repaired
returns-clause-is_repaired c =
    are_repaired c.writing_is_read_back.ensures c.writing_is_settled.ensures c.repairing_is_faithful.ensures.alike c.repairing_is_faithful.ensures.fits
    c.repairing_is_faithful.ensures.settled

pub returns-clause-ends : goal.returns-clause-ends
returns-clause-ends c = ends_are_kept c.sources_of_other_systems_are_read.ensures c.line_ends_stay.ensures
