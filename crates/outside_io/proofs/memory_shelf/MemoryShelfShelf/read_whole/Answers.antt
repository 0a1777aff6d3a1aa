use Rattle.std.proofs.Common.{rules, ◌≡◌, Some, false}
use Rattle.outside_io.specs.Outside.{held_in, is_listed, next_count}
use Rattle.outside_io.proofs.memory_shelf.MemoryShelfShelf.read_whole.Goals as goal

pub returns-in-Some-clause-exact : goal.returns-in-Some-clause-exact
returns-in-Some-clause-exact c =
    let unlisted : is_listed c.args.self.now.fail_at.items (next_count c.args.self.now.calls) ≡ false = search rules in
    let held : held_in c.args.self.now.files c.args.name.now ≡ Some c.in-Some.content.now.items = search rules in
    ((λ failed. absurd (c.copy_of.ensures.read failed)), rw (unlisted, held) (λ listed. let never : ⊥ = cc in absurd never))
