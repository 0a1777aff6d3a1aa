use Rattle.std.proofs.Common.{rules, arith, ap, take, ℕ, Option, None, ◌≤◌, ◌≡◌, ◌<◌, ◌++◌, length, Some, refl, sym, ◌∙◌, ◌^◌}
use Rattle.std.proofs.lemmas.List.{take-append-drop, append_assoc, append-nil}
use Rattle.text_fields.specs.Hex.{hex2, hex_bytes, hex_number, hex_text}
use Rattle.text_fields.proofs.HexFacts.{hex_text_parts, hex_text-push, with_none, with_bytes, with_one_more, no_pair, nothing_left, odd_left}
use Rattle.text_fields.proofs.readers.parse_hex_bytes.Goals as goal

pub loop-rest-init : goal.loop-rest-init
unfolding hex_text
loop-rest-init c = rw c.new-bytes.ensures.items (refl, (λ is. is), with_none (hex_bytes c.args.text.now))

pub returns-then-rest-lt2-clause-none : goal.returns-then-rest-lt2-clause-none
returns-then-rest-lt2-clause-none c = λ is.
    let some : 0 < length c.loop-rest.rest.now = search rules in
    let long = (hex_text_parts c.loop-rest.rest.now (c.loop-rest.invariant.1 is) some).long in
    let short = c.if-rest-lt2.true in
    omega arith

pub returns-in-None-clause-none : goal.returns-in-None-clause-none
returns-in-None-clause-none c = λ is.
    let some : 0 < length c.loop-rest.rest.now = search rules in
    let parts = hex_text_parts c.loop-rest.rest.now (c.loop-rest.invariant.1 is) some in
    let found : c.parse_hex2.result ≡ Some parts.byte =
    (c.parse_hex2.ensures.digits parts.byte parts.small).1 (c.split_at.ensures.front ∙ parts.first)
    in
    let none = c.in-None.is in
    cc

pub loop-rest-preserved : goal.loop-rest-preserved
loop-rest-preserved c =
    let small : c.in-Some.b < 2 ^ 8 = search rules in
    let digits : c.split_at.result.0.now ≡ hex2 c.in-Some.b = (c.parse_hex2.ensures.digits c.in-Some.b small).0 c.in-Some.is in
    let whole : c.loop-rest.rest.now ≡ hex2 c.in-Some.b ++ c.split_at.result.1.now =
    rw (← digits, c.split_at.ensures.front, c.split_at.ensures.back) (sym (take-append-drop 2 c.loop-rest.rest.now))
    in
    let long : 2 ≤ length c.loop-rest.rest.now = c.if-rest-lt2.false in
    let pair : Some c.in-Some.b ≡ hex_number 2 (take 2 c.loop-rest.rest.now) = sym c.in-Some.is ∙ c.parse_hex2.ensures.value ∙ ap (hex_number 2) c.split_at.ensures.front in
    let one_more : with_bytes c.loop-rest.bytes.items (hex_bytes c.loop-rest.rest.now) ≡ with_bytes c.push.new.self.items (hex_bytes c.split_at.result.1.now) =
    rw (c.in_ok-push-in-Some.ensures.items, c.split_at.ensures.back) (with_one_more c.loop-rest.bytes.items c.loop-rest.rest.now c.in-Some.b long pair)
    in (
      (rw (c.in_ok-push-in-Some.ensures.items, hex_text-push c.loop-rest.bytes.items c.in-Some.b, append_assoc (hex_text c.loop-rest.bytes.items) (hex2 c.in-Some.b) c.split_at.result.1.now, ← whole) c.loop-rest.invariant.0),
      λ is.
          let some : 0 < length c.loop-rest.rest.now = search rules in
          rw c.split_at.ensures.back (hex_text_parts c.loop-rest.rest.now (c.loop-rest.invariant.1 is) some).others,
      c.loop-rest.invariant.2 ∙ one_more,
    )

pub returns-then-rest-lt2-clause-value : goal.returns-then-rest-lt2-clause-value
returns-then-rest-lt2-clause-value c =
    let some : 0 < length c.loop-rest.rest.now = search rules in
    rw (c.loop-rest.invariant.2, odd_left c.loop-rest.rest.now some c.if-rest-lt2.true) refl

pub returns-in-None-clause-value : goal.returns-in-None-clause-value
returns-in-None-clause-value c =
    let none : ◌≡◌ {A = Option ℕ} None (hex_number 2 (take 2 c.loop-rest.rest.now)) = sym c.in-None.is ∙ c.parse_hex2.ensures.value ∙ ap (hex_number 2) c.split_at.ensures.front in
    rw (c.loop-rest.invariant.2, no_pair c.loop-rest.rest.now c.if-rest-lt2.false none) refl

pub returns-clause-value : goal.returns-clause-value
returns-clause-value c =
    let none : length c.loop-rest.rest.now ≡ 0 = search rules in
    rw (c.loop-rest.invariant.2, nothing_left c.loop-rest.rest.now none) (ap Some (sym (append-nil c.loop-rest.bytes.items)))
