use Rattle.std.proofs.Common.{◌∷◌, [], ap, length, arith}
use Rattle.std.proofs.lemmas.List.{length-append}
use Rattle.pe32_reader.specs.declared.slots.Slot.{Slot}
use Rattle.pe32_reader.proofs.Named.{length-with_name}
use Rattle.pe32_reader.proofs.imports.ImportTable.add.Goals as goal

pub import_place-place-requires : goal.import_place-place-requires
import_place-place-requires c =
    let more = length-with_name c.args.self.now.names c.args.name.now in
    let names = ap length c.in_ok-index.ensures.names in
    omega (arith, more, names, c.in_ok-index.ensures.within, c.requires.slots.each, c.requires.room)

pub returns-clause-few : goal.returns-clause-few
returns-clause-few c =
    let slot : Slot = record { at = c.args.at; place = c.import_place-place.result } in
    let more = length-with_name c.args.self.now.names c.args.name.now in
    let names = ap length c.in_ok-index.ensures.names in
    let pushed = ap length c.in_ok-push.ensures.items in
    let sum = length-append c.index_of.new.self.slots.items (slot ∷ []) in
    let kept = ap (λ v. length v.items) c.in_ok-index.ensures.slots in
    let each = c.requires.slots.each in
    let room = c.requires.room in
    record { each = omega (arith, more, names, pushed, sum, kept, each); few = omega (arith, pushed, sum, kept, room) }
