-- A text tells only tables whose k is in its bounds.
use Rattle.std.proofs.Common.{◌<◌, ◌^◌, length, arith}
use Rattle.table_check.proofs.Told.{texts_tell}
use Rattle.jakstab_core.proofs.tables.check_output.Goals as goal

pub checked-requires-clause-least : goal.checked-requires-clause-least
checked-requires-clause-least g c κs within =
    let short : length c.args.told.now < 2 ^ 64 = omega arith in
    (texts_tell c.args.image.now c.args.told.now c.in-Ok.table short c.in-Ok.ensures).0.k_least

pub checked-requires-clause-greatest : goal.checked-requires-clause-greatest
checked-requires-clause-greatest g c κs within =
    let short : length c.args.told.now < 2 ^ 64 = omega arith in
    (texts_tell c.args.image.now c.args.told.now c.in-Ok.table short c.in-Ok.ensures).0.k_greatest
