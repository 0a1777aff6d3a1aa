use Rattle.std.proofs.Common.{◌≡◌, true, cond, Some, None, ℕ, ℤ, ap, ap₂, sym, ◌∙◌, w64, to_z, of_z}
use Rattle.std.specs.Prelude.{int_div, int_rem}
use Rattle.std.proofs.lemmas.Int.{to_z-of_z, rem_is}
use Rattle.bit_words.specs.Width.{word_of, is_signed}
use Rattle.memory_map.specs.State.{MachineState}
use Rattle.x86_semantics.specs.Products.{with_long}
use Rattle.statement_lang.proofs.cells.Cells.divide_signed.Goals as goal

pub returns-then-holds-clause-divided : goal.returns-then-holds-clause-divided
returns-then-holds-clause-divided c =
    let w = c.args.w in
    let m = c.args.self.now in
    let x = c.args.x in
    let d = c.args.d in
    let held : ℤ → ℤ = λ z. to_z w64 (of_z w64 z) in
    let quotient : held c.in-Some.quotient ≡ int_div x d =
    ap held c.in-Some.ensures.1
    ∙ to_z-of_z w64 (int_div (held x) (held d)) c.in-Some.ensures.0.1
    ∙ ap (λ z. int_div z (held d)) (to_z-of_z w64 x c.ranges.x)
    ∙ ap (λ z. int_div x z) (to_z-of_z w64 d c.ranges.d) in
    let low : c.word.result ≡ word_of w (int_div x d) = c.word.ensures ∙ ap (λ z. word_of w z) quotient in
    let high : c.word-then-holds.result ≡ word_of w (int_rem x d) = c.word-then-holds.ensures ∙ ap (λ z. word_of w z) (rem_is w64 x d c.ranges.x c.ranges.d) in
    let fits : is_signed w (int_div x d) ≡ true = sym (ap (λ z. is_signed w z) quotient) ∙ sym c.holds.ensures ∙ c.if-holds.true in
    let state : c.set_long.new.self ≡ with_long w (word_of w (int_div x d)) (word_of w (int_rem x d)) m = c.set_long.ensures ∙ ap₂ (λ (a b : ℕ). with_long w a b m) low high in
    ap (λ (n : MachineState). Some n) state
    ∙ sym (ap (λ b. cond b (Some (with_long w (word_of w (int_div x d)) (word_of w (int_rem x d)) m)) None) fits)
