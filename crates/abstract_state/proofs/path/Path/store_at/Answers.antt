use Rattle.std.proofs.Common.{rules}
use Rattle.domain_laws.specs.Made.{values_of}
use Rattle.abstract_state.proofs.Storing.{stored-done}
use Rattle.abstract_state.proofs.path.Path.store_at.Goals as goal

pub returns : goal.returns
returns g c =
    stored-done (values_of g.D.Domain g.D.PartialEq.eq) c.args.image.now c.args.a c.args.w c.args.v c.args.self.now c.write_word.new.self (search rules) (search rules) (search rules) (search rules)
