use Rattle.std.proofs.Common.{◌∙◌, ap}
use Rattle.bit_words.specs.Flags.{FlagBits, logic_flags}
use Rattle.memory_map.specs.State.{Flags}
use Rattle.x86_semantics.specs.FlagRules.{with_status}
use Rattle.statement_lang.specs.Cells.{flags_of}
use Rattle.statement_lang.proofs.rules.of_result.Goals as goal

pub returns : goal.returns
unfolding logic_flags
returns c =
    c.with_both.ensures
    ∙ ap (λ (f : Flags). record f { carry = c.args.carry; overflow = c.args.overflow })
    (c.with_status.ensures ∙ ap (λ (s : FlagBits). with_status s (flags_of c.args.flags)) c.flags_of_logic.ensures.each)
