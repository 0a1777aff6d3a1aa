use Rattle.std.proofs.Common.{◌∙◌, ap}
use Rattle.statement_lang.specs.Run.{set_to}
use Rattle.statement_lang.specs.Cells.{flags_of}
use Rattle.statement_lang.proofs.FlagFacts.{status-by-bits}
use Rattle.statement_lang.proofs.rules.by_status.Goals as goal

pub returns : goal.returns
returns c =
    c.with_flag.ensures
    ∙ ap (set_to (record { 0 = 16 }) c.is_set-5.result)
    (c.with_flag-with-3.ensures
    ∙ ap (set_to (record { 0 = 8 }) c.is_set-4.result)
    (c.with_flag-with-2.ensures
    ∙ ap (set_to (record { 0 = 4 }) c.is_set-3.result)
    (c.with_flag-with.ensures ∙ ap (set_to (record { 0 = 2 }) c.is_set-2.result) c.with_carry-with.ensures)))
    ∙ status-by-bits (flags_of c.args.flags) c.args.a c.is_set.result c.is_set-2.result c.is_set-3.result c.is_set-4.result c.is_set-5.result
    c.is_set.ensures c.is_set-2.ensures c.is_set-3.ensures c.is_set-4.ensures c.is_set-5.ensures
