use Rattle.std.proofs.Common.{◌∙◌, ap}
use Rattle.std.proofs.Math.Facts.{to_z-of_z}
use Rattle.partitioned_memory.specs.Held.{after_forgetting}
use Rattle.domain_laws.specs.Made.{values_of}
use Rattle.abstract_state.specs.State.{with_flags, with_parts, with_register_value}
use Rattle.import_stubs.proofs.Calling.{free-is}
use Rattle.import_stubs.proofs.replies.free.Goals as goal

pub set_register-requires-after_bounds : goal.set_register-requires-after_bounds
set_register-requires-after_bounds g c κs within = c.anything.ensures.holds _

pub set_register-requires-2-after_bounds : goal.set_register-requires-2-after_bounds
set_register-requires-2-after_bounds g c κs within = c.anything-2.ensures.holds _

pub returns : goal.returns
returns g c =
    let d = values_of g.D.Domain g.D.PartialEq.eq in
    free-is d c.args.s.now c.forget_below.new.self c.set_register.new.self c.set_register-2.new.self c.set_flags.new.self c.args.end (c.in_ok-forget_below.ensures.ok ∙ ap (λ high. with_parts (after_forgetting high c.args.s.now.parts) c.args.s.now) (to_z-of_z c.ranges.end))
    (c.set_register.ensures ∙ ap (λ v. with_register_value 1 v c.forget_below.new.self) c.anything.ensures.value)
    (c.set_register-2.ensures ∙ ap (λ v. with_register_value 2 v c.set_register.new.self) c.anything-2.ensures.value)
    (c.set_flags.ensures ∙ ap (λ t. with_flags t c.set_register-2.new.self) c.unknown.ensures)
