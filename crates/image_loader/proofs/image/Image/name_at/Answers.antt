use Rattle.std.proofs.Common.{◌-◌, ◌/◌, sym, ◌∙◌, arith, ap, Some, List, length, refl}
use Rattle.std.specs.Prelude.{slice_get}
use Rattle.std.specs.Option.{option_map}
use Rattle.std.proofs.lemmas.Bool.{ltb-false}
use Rattle.std.proofs.lemmas.Option.{slice_get_past, slice_get_read}
use Rattle.memory_map.specs.declared.import_name.ImportName.{ImportName}
use Rattle.memory_map.specs.Image.{Image, EXIT_PLACE}
use Rattle.image_loader.proofs.Places.{name_at-none, name_at-place}
use Rattle.image_loader.proofs.image.Image.name_at.Goals as goal

pub returns-then-place-clause-found : goal.returns-then-place-clause-found
returns-then-place-clause-found c = sym (name_at-none c.args.self.now c.args.place (λ k e. omega arith))

pub returns-then-place-ne0-clause-found : goal.returns-then-place-ne0-clause-found
returns-then-place-ne0-clause-found c = sym (name_at-none c.args.self.now c.args.place (λ k e. omega arith))

pub returns-in-Some-clause-found : goal.returns-in-Some-clause-found
returns-in-Some-clause-found c =
    let i = (c.args.place - EXIT_PLACE) / 16 - 1 in
    let known = c.in-Some.ensures.lookup in
    let names = c.as_slice.ensures ∙ ap (λ (m : Image). m.names) c.self.view_is in
    ap Some c.as_slice-in-Some.ensures.bytes
    ∙ sym (ap (option_map (λ (n : ImportName). n.name)) (slice_get_read c.as_slice.result.now (length c.as_slice.result.now) i c.in-Some.import.now refl known.3.0 known.1))
    ∙ ap (λ (l : List ImportName). option_map (λ (n : ImportName). n.name) (slice_get l i)) names
    ∙ sym (name_at-place c.args.self.now i c.args.place (omega arith))

pub returns-in-None-clause-found : goal.returns-in-None-clause-found
returns-in-None-clause-found c =
    let i = (c.args.place - EXIT_PLACE) / 16 - 1 in
    let known = c.in-None.ensures.lookup in
    let names = c.as_slice.ensures ∙ ap (λ (m : Image). m.names) c.self.view_is in
    sym (ap (option_map (λ (n : ImportName). n.name)) (slice_get_past c.as_slice.result.now i (ltb-false i (length c.as_slice.result.now) (sym known.0))))
    ∙ ap (λ (l : List ImportName). option_map (λ (n : ImportName). n.name) (slice_get l i)) names
    ∙ sym (name_at-place c.args.self.now i c.args.place (omega arith))
