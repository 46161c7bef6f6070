use Rattle.tools_relisting.proofs.RunLaws.{relative_by_run, relisted_by_run, runs_leave}
use Rattle.tools_relisting.proofs.runs.runs_of_listings_compile_back.Goals as goal

pub returns-clause-texts : goal.returns-clause-texts
returns-clause-texts c = runs_leave

pub returns-clause-listings : goal.returns-clause-listings
returns-clause-listings c = relisted_by_run c.several_listings_compile_back.ensures

pub returns-clause-relative : goal.returns-clause-relative
returns-clause-relative c = relative_by_run c.relative_sources_compile_back.ensures
