use Rattle.image_loader.proofs.Starts.{can_start}
use Rattle.image_loader.proofs.laws.images_can_start.Goals as goal

pub returns : goal.returns
returns c = can_start
