-- What is refused for another fault than want of bytes is no front of an instruction.
use Rattle.std.proofs.Common.{List, ℕ, subst}
use Rattle.x86_decoder.specs.declared.fault.DecodeFault.{DecodeFault}
use Rattle.x86_decoder.specs.declared.fault.DecodeFault.TheVariants.{NotListed, TooLong}
use Rattle.x86_decoder.specs.Refusals.{Refused}
use Rattle.flow_worklist.proofs.Posting.{not_listed, too_long}
use Rattle.flow_worklist.proofs.post.unlisted_cause.Goals as goal

pub returns-in-Err-NotListed : goal.returns-in-Err-NotListed
returns-in-Err-NotListed c =
    let of_bytes : List ℕ → Type 0 = Refused (NotListed c.in-Err-NotListed.field-0-0) in
    let of_fault : DecodeFault → Type 0 = λ fault. Refused fault c.as_slice.result.now in
    not_listed c.args.known.now.cut c.args.known.now.bytes.items c.in-Err-NotListed.field-0-0
    (subst of_bytes c.as_slice.ensures.value (subst of_fault c.in-Err-NotListed.field-0-is c.in-Err-NotListed.ensures.refused))

pub returns-in-Err-TooLong : goal.returns-in-Err-TooLong
returns-in-Err-TooLong c =
    let of_bytes : List ℕ → Type 0 = Refused TooLong in
    let of_fault : DecodeFault → Type 0 = λ fault. Refused fault c.as_slice.result.now in
    too_long c.args.known.now.cut c.args.known.now.bytes.items (subst of_bytes c.as_slice.ensures.value (subst of_fault c.in-Err-TooLong.field-0-is c.in-Err-TooLong.ensures.refused))
