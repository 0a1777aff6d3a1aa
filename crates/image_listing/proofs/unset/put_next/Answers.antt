use Rattle.image_listing.proofs.Merges.{extends_same}
use Rattle.image_listing.proofs.unset.put_next.Goals as goal
