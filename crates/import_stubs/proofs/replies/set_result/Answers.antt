use Rattle.std.proofs.Common.{◌∙◌, ap}
use Rattle.std.proofs.Math.Facts.{to_z-of_z}
use Rattle.address_regions.specs.declared.region.Region.TheVariants.{Stack}
use Rattle.domain_laws.specs.Made.{values_of}
use Rattle.abstract_state.specs.State.{with_register_value}
use Rattle.import_stubs.proofs.Calling.{result-is}
use Rattle.import_stubs.proofs.replies.set_result.Goals as goal

pub set_register-requires-2-after_bounds : goal.set_register-requires-2-after_bounds
set_register-requires-2-after_bounds g c κs within = c.stack_place.ensures.holds _

pub returns : goal.returns
returns g c =
    let d = values_of g.D.Domain g.D.PartialEq.eq in
    result-is d c.args.s.now c.set_register.new.self c.set_register-2.new.self c.args.v (d.place Stack c.args.top) c.requires.unnoted c.set_register.ensures
    (c.set_register-2.ensures ∙ ap (λ w. with_register_value 4 w c.set_register.new.self) (c.stack_place.ensures.value ∙ ap (d.place Stack) (to_z-of_z c.ranges.top)))
