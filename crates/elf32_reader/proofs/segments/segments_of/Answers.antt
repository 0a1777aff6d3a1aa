use Rattle.std.proofs.Common.{◌∙◌, ap, sym, inr}
use Rattle.std.specs.Prelude.{filter}
use Rattle.std.specs.List.{list_any}
use Rattle.elf32_reader.specs.Headers.{is_load}
use Rattle.elf32_reader.specs.Segments.{is_file_longer, is_outside}
use Rattle.elf32_reader.proofs.Loads.{mapped_loads, segments_fault-outside, segments_fault-longer}
use Rattle.elf32_reader.proofs.segments.segments_of.Goals as goal

pub returns-then-is_any_outside : goal.returns-then-is_any_outside
returns-then-is_any_outside c =
    let all = c.in_ok-loads.ensures ∙ ap (filter is_load) c.requires.headers in
    inr (segments_fault-outside c.args.file.now (ap (list_any (is_outside c.args.file.now)) (sym (c.deref.ensures.value ∙ all)) ∙ sym c.is_any_outside.ensures ∙ c.if-is_any_outside.true))

pub returns-then-is_any_file_longer : goal.returns-then-is_any_file_longer
returns-then-is_any_file_longer c =
    let all = c.in_ok-loads.ensures ∙ ap (filter is_load) c.requires.headers in
    let inside = ap (list_any (is_outside c.args.file.now)) (sym (c.deref.ensures.value ∙ all)) ∙ sym c.is_any_outside.ensures ∙ c.if-is_any_outside.false in
    inr (segments_fault-longer c.args.file.now inside (ap (list_any is_file_longer) (sym (c.deref-2.ensures.value ∙ all)) ∙ sym c.is_any_file_longer.ensures ∙ c.if-is_any_file_longer.true))

pub returns : goal.returns
returns c =
    let all = c.in_ok-loads.ensures ∙ ap (filter is_load) c.requires.headers in
    let inside = ap (list_any (is_outside c.args.file.now)) (c.deref-3.ensures.value ∙ sym c.deref.ensures.value) ∙ sym c.is_any_outside.ensures ∙ c.if-is_any_outside.false in
    let within = ap (list_any is_file_longer) (c.deref-3.ensures.value ∙ sym c.deref-2.ensures.value) ∙ sym c.is_any_file_longer.ensures ∙ c.if-is_any_file_longer.false in
    mapped_loads c.args.file.now c.map_loads.result c.bias_of.result c.deref-3.result.now c.bias_of.ensures (c.deref-3.ensures.value ∙ all) inside within c.map_loads.ensures
