use Rattle.std.proofs.Common.{sym}
use Rattle.stub_file.proofs.Lists.{items_in-view}
use Rattle.stub_file.proofs.document.items_of.Goals as goal

pub returns-in-Some : goal.returns-in-Some
returns-in-Some c =
    rw (c.as_slice.ensures.value, ← c.as_array.ensures, c.in-Some.is) (sym (items_in-view c.in-Some.items.now.items))
