use Rattle.user_relisting.proofs.Read.{read_have_listings}
use Rattle.user_relisting.proofs.reading_back.read_entries_have_listings.Goals as goal

pub returns : goal.returns
returns c = read_have_listings
