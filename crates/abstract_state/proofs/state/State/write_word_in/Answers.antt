use Rattle.std.proofs.Common.{rules, pos, ◌+ℤ◌}
use Rattle.bit_words.specs.Width.{bytes_of}
use Rattle.abstract_state.proofs.Keeping.{extent-inside, width-ordered}
use Rattle.abstract_state.proofs.state.State.write_word_in.Goals as goal

pub write_exact-requires-clause-inside : goal.write_exact-requires-clause-inside
write_exact-requires-clause-inside g c =
    let r = c.requires.inside in
    let inside = extent-inside c.args.region c.args.low (c.args.low +ℤ pos (bytes_of c.args.w)) c.bounds-bounds.result c.bounds-bounds.ensures.value c.bounds-bounds.ensures.least c.bounds-bounds.ensures.greatest (width-ordered c.args.low c.args.w) r in
    search rules
