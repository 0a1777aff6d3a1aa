use Rattle.std.proofs.Common.{◌≡◌, ◌+◌, ◌<◌, ◌++◌, ◌∷◌, [], ◌∙◌, Bool, List, ap, inl, inr, length, map, subst, sym, take, ⊎_elim}
use Rattle.std.specs.List.{list_all}
use Rattle.std.proofs.lemmas.List.{append-nil, append_assoc, map_more, take_all}
use Rattle.std.proofs.lemmas.Result.{err_from_is_err_and}
use Rattle.memory_map.specs.Map.{all_apart, is_in_user_space, range_of}
use Rattle.memory_map.specs.Range.{Range, end_of}
use Rattle.memory_map.specs.State.{MachineState, memory}
use Rattle.statement_lang.specs.Indexed.{is_clear}
use Rattle.x86_machine.proofs.Apart.{apart_more}
use Rattle.x86_machine.proofs.Placing.{segment_mappable, segment_shares}
use Rattle.x86_machine.proofs.starting.with_segments.Goals as goal

pub loop-segment-init : goal.loop-segment-init
loop-segment-init c =
    let cells = c.args.cells in
    record { mapped = sym (ap (λ (l : List Range). record cells { ranges = l }) (append-nil cells.ranges)); apart = c.requires.apart }

pub with_range-requires-clause-some : goal.with_range-requires-clause-some
with_range-requires-clause-some c =
    let own = segment_mappable c.args.segments.now c.loop-segment.segment-index c.segment-item.result c.requires.map c.loop-segment-test.true c.segment-item.is in
    let P : Range → Type 0 = λ r. 0 < length r.bytes in
    subst P (sym c.in_ok-block.ensures) own.some

pub with_range-requires-clause-inside : goal.with_range-requires-clause-inside
with_range-requires-clause-inside c =
    let own = segment_mappable c.args.segments.now c.loop-segment.segment-index c.segment-item.result c.requires.map c.loop-segment-test.true c.segment-item.is in
    ap is_in_user_space c.in_ok-block.ensures ∙ own.inside

pub returns-in_err-mapped : goal.returns-in_err-mapped
returns-in_err-mapped c =
    let list = c.args.segments.now in
    let i = c.loop-segment.segment-index in
    let segment = c.segment-item.result in
    let clear : Range → List Range → Bool = λ r l. list_all (is_clear r.low (end_of r)) l in
    let mapped = c.loop-segment.mapped in
    let p = err_from_is_err_and c.from_residual-in_err-mapped.result c.from_residual-in_err-mapped.ensures.1 in
    rw (p.1, p.2) (⊎_elim
    inl
    (λ h. inr (
      h.0,
      segment_shares (memory c.args.cells) list i segment c.loop-segment-test.true c.segment-item.is
          (sym (ap (λ (r : Range). clear r (memory mapped)) c.in_ok-block.ensures ∙ ap (λ (m : MachineState). clear (range_of segment) (memory m)) c.loop-segment.invariant.mapped) ∙ h.1),
    ))
    c.in_err-mapped.ensures)

pub loop-segment-preserved : goal.loop-segment-preserved
loop-segment-preserved c =
    let cells = c.args.cells in
    let list = c.args.segments.now in
    let i = c.loop-segment.segment-index in
    let segment = c.segment-item.result in
    let block = c.in_ok-block.block in
    let own : range_of segment ≡ block = sym c.in_ok-block.ensures in
    let more : map range_of (take (i + 1) list) ≡ map range_of (take i list) ++ block ∷ [] =
    map_more range_of list i segment c.loop-segment-test.true ∙ ap (λ r. map range_of (take i list) ++ r ∷ []) (ap range_of (sym c.segment-item.is) ∙ own) in
    record {
      mapped = c.in_ok-mapped.ensures.0
          ∙ ap (λ (m : MachineState). record m { ranges = m.ranges ++ block ∷ [] }) c.loop-segment.invariant.mapped
          ∙ ap (λ (l : List Range). record cells { ranges = l }) (append_assoc cells.ranges (map range_of (take i list)) (block ∷ []) ∙ ap (λ l. cells.ranges ++ l) (sym more));
      apart = ap (λ (m : MachineState). all_apart (memory m)) c.in_ok-mapped.ensures.0
          ∙ apart_more (memory c.loop-segment.mapped) block c.loop-segment.invariant.apart c.in_ok-mapped.ensures.1;
    }

pub returns : goal.returns
returns c =
    let cells = c.args.cells in
    (c.loop-segment.invariant.mapped ∙ ap (λ l. record cells { ranges = cells.ranges ++ map range_of l }) (take_all c.loop-segment.segment-index c.args.segments.now c.loop-segment-test.false), c.loop-segment.invariant.apart)
