use Rattle.decode_listing.proofs.Once.{listing_once}
use Rattle.decode_listing.proofs.laws.one_listing.Goals as goal

pub returns : goal.returns
returns c = listing_once
