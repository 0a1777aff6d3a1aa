use Rattle.elf32_reader.proofs.Loads.{all_fit}
use Rattle.elf32_reader.proofs.segments.map_loads.Goals as goal

pub map_pieces-requires : goal.map_pieces-requires
map_pieces-requires c = all_fit c.args.file.now c.args.bias c.args.loads.now c.in_ok-pieces.pieces.items c.in_ok-pieces.ensures.exact c.in_ok-pieces.ensures.addresses c.requires.inside c.requires.within
