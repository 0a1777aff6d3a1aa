use Rattle.std.proofs.Common.{map, sym, ◌∙◌, ap, ℤ, w64, to_z, of_z}
use Rattle.std.specs.Prelude.{option_and_then}
use Rattle.std.proofs.lemmas.Int.{to_z-of_z}
use Rattle.domain_laws.specs.Made.{values_of}
use Rattle.partitioned_memory.specs.Held.{fact_at}
use Rattle.partitioned_memory.specs.KnownBytes.{byte_held, byte_of_fact, is_number_at}
use Rattle.partitioned_memory.proofs.KnownBytes.{find-passes, number-spans}
use Rattle.partitioned_memory.proofs.held_byte.byte_held.Goals as goal

pub byte-requires-clause-least : goal.byte-requires-clause-least
byte-requires-clause-least g c κs within =
    let d = values_of g.D.Domain g.D.PartialEq.eq in
    let o = to_z w64 (of_z w64 c.args.o) in
    let found = c.in-Some.ensures in
    (number-spans d c.in-Some.f o (find-passes (is_number_at d o) (map fact_at c.args.facts.now) c.in-Some.f (sym found))).low

pub byte-requires-clause-below : goal.byte-requires-clause-below
byte-requires-clause-below g c κs within =
    let d = values_of g.D.Domain g.D.PartialEq.eq in
    let o = to_z w64 (of_z w64 c.args.o) in
    let found = c.in-Some.ensures in
    (number-spans d c.in-Some.f o (find-passes (is_number_at d o) (map fact_at c.args.facts.now) c.in-Some.f (sym found))).high

pub returns-in-Some : goal.returns-in-Some
returns-in-Some g c =
    let d = values_of g.D.Domain g.D.PartialEq.eq in
    let o = to_z w64 (of_z w64 c.args.o) in
    let found = c.in-Some.ensures in
    c.byte.ensures ∙ ap (option_and_then (byte_of_fact d o)) found ∙ ap (λ (z : ℤ). byte_held d z (map fact_at c.args.facts.now)) (to_z-of_z w64 c.args.o c.ranges.o)

pub returns-in-None : goal.returns-in-None
returns-in-None g c =
    let d = values_of g.D.Domain g.D.PartialEq.eq in
    let o = to_z w64 (of_z w64 c.args.o) in
    let found = c.in-None.ensures in
    ap (option_and_then (byte_of_fact d o)) found ∙ ap (λ (z : ℤ). byte_held d z (map fact_at c.args.facts.now)) (to_z-of_z w64 c.args.o c.ranges.o)
