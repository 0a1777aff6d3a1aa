use Rattle.image_loader.proofs.Few as few
use Rattle.image_loader.proofs.laws.loaded_are_few.Goals as goal

pub returns : goal.returns
returns c = few.loaded_are_few
