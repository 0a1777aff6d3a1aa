use Rattle.std.proofs.Common.{rules, pos, ◌+ℤ◌}
use Rattle.bit_words.specs.Width.{bytes_of}
use Rattle.abstract_state.proofs.Keeping.{extent-inside, width-ordered}
use Rattle.abstract_state.proofs.state.State.value_in.Goals as goal

pub value_at-requires : goal.value_at-requires
value_at-requires g c =
    let r = c.requires in
    let inside = extent-inside c.args.region c.args.low (c.args.low +ℤ pos (bytes_of c.args.w)) c.bounds-bounds.result c.bounds-bounds.ensures.value c.bounds-bounds.ensures.least c.bounds-bounds.ensures.greatest (width-ordered c.args.low c.args.w) r in
    search rules
