use Rattle.transfer_functions.proofs.site.Site.return_to.Goals as goal

pub set_stack_pointer-requires-after_bounds : goal.set_stack_pointer-requires-after_bounds
set_stack_pointer-requires-after_bounds g c κs within =
    let blocks = c.p.inside.state.parts.blocks in
    c.above-top.ensures.holds blocks c.past_word.ensures.holds (c.number-size.ensures.word blocks)
