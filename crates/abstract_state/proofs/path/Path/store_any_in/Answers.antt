use Rattle.std.proofs.Common.{rules}
use Rattle.abstract_state.proofs.AnyBytes.{any-done}
use Rattle.abstract_state.proofs.path.Path.store_any_in.Goals as goal

pub returns-in_ok-write_some_in : goal.returns-in_ok-write_some_in
returns-in_ok-write_some_in g c =
    any-done c.args.region c.args.low c.args.high c.args.n c.args.self.now _ (search rules) (search rules)
