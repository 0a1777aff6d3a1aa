use Rattle.std.proofs.Common.{◌≡◌, ◌+◌, ◌<◌, ◌∙◌, ℕ, Bool, true, false, ap, drop, length, sym, arith}
use Rattle.std.specs.Prelude.{◌&&◌}
use Rattle.std.specs.List.{enumerate_from, list_all}
use Rattle.x86_machine.specs.Started.{is_free_byte}
use Rattle.x86_machine.proofs.Enumerated.{enumerate_more}
use Rattle.x86_machine.proofs.filling.is_free_fill.Goals as goal

pub returns-then-not-is_free_byte : goal.returns-then-not-is_free_byte
returns-then-not-is_free_byte c =
    let bytes = c.args.fill.now.bytes in
    let at = c.args.fill.now.at in
    let i = c.loop-i.i in
    let free : ℕ → Bool = is_free_byte c.args.image.now c.args.start.now in
    let P : ℕ × ℕ → Bool = λ x. free x.0 in
    let within : i < length bytes = omega arith in
    let place : c.from.result + i ≡ at + i = omega arith in
    let here : free (at + i) ≡ false = ap free (sym place) ∙ sym c.is_free_byte.ensures ∙ c.if-not-is_free_byte.true in
    sym (sym c.loop-i.invariant
    ∙ ap (list_all P) (enumerate_more bytes at i within)
    ∙ ap (λ b. b && list_all P (enumerate_from (at + (i + 1)) (drop (i + 1) bytes))) here)

pub loop-i-preserved : goal.loop-i-preserved
loop-i-preserved c =
    let bytes = c.args.fill.now.bytes in
    let at = c.args.fill.now.at in
    let i = c.loop-i.i in
    let free : ℕ → Bool = is_free_byte c.args.image.now c.args.start.now in
    let P : ℕ × ℕ → Bool = λ x. free x.0 in
    let within : i < length bytes = omega arith in
    let place : c.from.result + i ≡ at + i = omega arith in
    let here : free (at + i) ≡ true = ap free (sym place) ∙ sym c.is_free_byte.ensures ∙ c.if-not-is_free_byte.false in
    sym (ap (list_all P) (enumerate_more bytes at i within)
    ∙ ap (λ b. b && list_all P (enumerate_from (at + (i + 1)) (drop (i + 1) bytes))) here)
    ∙ c.loop-i.invariant
