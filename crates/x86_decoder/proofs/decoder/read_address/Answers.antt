use Rattle.std.proofs.Common.{◌≡◌, ◌+◌, take, drop, ap, ◌∙◌, arith}
use Rattle.x86_syntax.specs.Spelling.{displacement_size, mod_of, row_number_size, ending}
use Rattle.x86_decoder.specs.Reading.{fault_at}
use Rattle.x86_decoder.proofs.Steps.{address_end, address_step}
use Rattle.x86_decoder.proofs.decoder.read_address.Goals as goal

pub returns-in-None : goal.returns-in-None
returns-in-None c =
    let few = c.in-None.ensures.cases in
    let size : c.displacement_bytes-size.result ≡ displacement_size (mod_of c.args.modrm) c.args.base = c.displacement_bytes-size.ensures.value in
    let same : c.short.result ≡ fault_at (c.args.at + (displacement_size (mod_of c.args.modrm) c.args.base + row_number_size c.args.prefixes c.args.row)) =
    c.short.ensures ∙ ap (λ n. fault_at (c.args.at + (n + c.row_size.result))) size
    ∙ ap (λ n. fault_at (c.args.at + (displacement_size (mod_of c.args.modrm) c.args.base + n))) c.row_size.ensures.value in
    rw same (address_end c.args.prefixes c.args.row (mod_of c.args.modrm) c.args.base c.args.code c.args.modrm c.args.index c.args.bytes.now c.args.at (omega arith))

pub returns-in-Some : goal.returns-in-Some
returns-in-Some c =
    let split = c.in-Some.ensures.cases in
    let size : c.displacement_bytes-size.result ≡ displacement_size (mod_of c.args.modrm) c.args.base = c.displacement_bytes-size.ensures.value in
    let h = rw (c.unnumbered.ensures, c.address-place.ensures, c.number.ensures) at c.read_ending.ensures in
    address_step (mod_of c.args.modrm) c.args.base c.displacement_bytes-size.result c.args.index (λ place. ending c.args.prefixes c.args.row c.args.code c.args.modrm place)
    c.args.bytes.now c.in-Some.front.now c.in-Some.rest.now c.args.at c.read_ending.result size (omega arith)
    (split.1 ∙ ap (λ k. take k c.args.bytes.now) c.from.ensures) (split.2 ∙ ap (λ k. drop k c.args.bytes.now) c.from.ensures) h
