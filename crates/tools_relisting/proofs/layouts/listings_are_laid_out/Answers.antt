use Rattle.tools_relisting.proofs.Listing.{listings_laid_out, relatives_laid_out}
use Rattle.tools_relisting.proofs.layouts.listings_are_laid_out.Goals as goal

pub returns-clause-listing : goal.returns-clause-listing
returns-clause-listing c = listings_laid_out

pub returns-clause-relative : goal.returns-clause-relative
returns-clause-relative c = relatives_laid_out
