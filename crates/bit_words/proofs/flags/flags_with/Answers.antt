use Rattle.std.proofs.Common.{◌≡◌, ℕ, ap, sym, ◌∙◌}
use Rattle.std.specs.Int.Bits.{or_zero_r}
use Rattle.bit_words.specs.declared.flags.Flags.{Flags}
use Rattle.bit_words.specs.Flags.{flags_by, packed_bits, unpacked}
use Rattle.bit_words.proofs.FlagLaws.{unpacked-packed}
use Rattle.bit_words.proofs.flags.flags_with.Goals as goal

pub returns-clause-each : goal.returns-clause-each
returns-clause-each c =
    let f = flags_by c.args.w c.args.word c.args.carry c.args.adjust c.args.overflow in
    let e : c.union-5.result.0 ≡ packed_bits f =
    rw (c.union-5.ensures tt, c.union-4.ensures tt, c.union-3.ensures tt, c.union-2.ensures tt, c.union.ensures tt, c.flag_if.ensures, c.flag_if-2.ensures, c.flag_if-3.ensures, c.flag_if-4.ensures, c.flag_if-5.ensures, c.flag_if-6.ensures, c.top.ensures) (sym (or_zero_r _)) in
    let read : ℕ → Flags = λ n. record { 0 = n } in
    ap (λ n. unpacked (read n)) e ∙ unpacked-packed f
