use Rattle.std.proofs.Common.{◌≡◌, ◌+◌, ap, ◌∙◌}
use Rattle.x86_syntax.specs.Spelling.{displacement_size, mod_of, row_number_size}
use Rattle.x86_decoder.specs.Reading.{fault_at}
use Rattle.x86_decoder.proofs.Shortest.{ending_shortest}
use Rattle.x86_decoder.proofs.Steps.{no_bytes, place_register, place_address, place_sib_end, place_sib}
use Rattle.x86_decoder.proofs.decoder.read_place.Goals as goal

pub returns-then-mode-eq3 : goal.returns-then-mode-eq3
returns-then-mode-eq3 c =
    place_register c.args.modrm _ c.args.bytes.now c.args.at c.read_ending.result c.if-mode-eq3.true (rw c.unnumbered.ensures at c.read_ending.ensures)

pub returns-then-rm-ne4 : goal.returns-then-rm-ne4
returns-then-rm-ne4 c =
    place_address c.args.modrm _ c.args.bytes.now c.args.at c.read_address.result c.if-mode-eq3.false c.if-rm-ne4.true c.read_address.ensures

pub returns-in-None : goal.returns-in-None
returns-in-None c =
    let size : c.displacement_bytes.result ≡ displacement_size (mod_of c.args.modrm) 0 = c.displacement_bytes.ensures.value in
    let same : c.short.result ≡ fault_at (c.args.at + (1 + (displacement_size (mod_of c.args.modrm) 0 + row_number_size c.args.prefixes c.args.row))) =
    c.short.ensures ∙ ap (λ n. fault_at (c.args.at + (1 + (n + c.row_size.result)))) size
    ∙ ap (λ n. fault_at (c.args.at + (1 + (displacement_size (mod_of c.args.modrm) 0 + n)))) c.row_size.ensures.value in
    rw same (place_sib_end c.args.modrm (row_number_size c.args.prefixes c.args.row) _ c.args.bytes.now c.args.at c.if-mode-eq3.false c.if-rm-ne4.false (ending_shortest c.args.prefixes c.args.row c.args.code c.args.modrm) (no_bytes c.args.bytes.now c.in-None.ensures.cases))

pub returns-in-Some : goal.returns-in-Some
returns-in-Some c =
    place_sib c.args.modrm c.in-Some.sib.now _ c.args.bytes.now c.in-Some.rest.now c.args.at c.read_address-in-Some.result c.if-mode-eq3.false c.if-rm-ne4.false c.in-Some.ensures.cases.0
    (rw c.index_of.ensures at c.read_address-in-Some.ensures)
