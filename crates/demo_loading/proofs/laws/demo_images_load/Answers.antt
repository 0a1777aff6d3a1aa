use Rattle.demo_loading.proofs.Images.{images_load}
use Rattle.demo_loading.proofs.laws.demo_images_load.Goals as goal

pub returns : goal.returns
returns c = images_load
