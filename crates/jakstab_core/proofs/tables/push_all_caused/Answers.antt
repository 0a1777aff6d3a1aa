-- One more cause.
use Rattle.std.proofs.Common.{◌++◌, ◌<◌, length, take, map, get_or, ap, sym, ◌∙◌, append_assoc, arith}
use Rattle.std.specs.Prelude.{filter_map, option_map, option_to_list}
use Rattle.flow_log.specs.declared.cause.Cause.TheVariants.{Bytes}
use Rattle.flow_log.specs.Log.{expansion_mark}
use Rattle.flow_worklist.proofs.Marking.{filtered_more}
use Rattle.jakstab_core.proofs.Tabling.{at}
use Rattle.jakstab_core.proofs.tables.push_all_caused.Goals as goal

pub loop-noted-preserved : goal.loop-noted-preserved
loop-noted-preserved c =
    let h = expansion_mark c.args.rows.now in
    let causes = c.args.causes.now in
    let i = c.loop-noted.noted-index in
    let within : i < length causes = omega arith in
    let last = option_to_list (option_map at (h (get_or causes i (0, Bytes)))) in
    c.in_ok-push_caused.ensures
    ∙ ap (λ l. l ++ last) c.loop-noted.invariant
    ∙ append_assoc c.args.found.now.items (map at (filter_map h (take i causes))) last
    ∙ ap (λ l. c.args.found.now.items ++ l) (sym (filtered_more h at causes i (0, Bytes) within))
