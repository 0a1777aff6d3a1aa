use Rattle.std.proofs.Common.{◌∙◌, sym, ap, map, inl, inr, ⊎_elim, Ok}
use Rattle.std.proofs.lemmas.Result.{err_from_is_err_and}
use Rattle.memory_map.specs.Map.{range_of}
use Rattle.pe_headers.specs.Layout.{ranges_of, entry_of}
use Rattle.pe32_reader.specs.Image.{with_slots}
use Rattle.pe32_reader.proofs.Images.{image_of-fault, image_of-imports}
use Rattle.pe32_reader.proofs.file.read_pe.Goals as goal

pub returns-in_err-segments : goal.returns-in_err-segments
returns-in_err-segments c =
    let p = err_from_is_err_and c.from_residual.result c.from_residual.ensures.1 in
    rw (p.1, p.2) (⊎_elim inl (λ h. inr (image_of-fault c.args.bytes.now _ h)) c.in_err-segments.ensures.exact)

pub returns-in_err-imported : goal.returns-in_err-imported
returns-in_err-imported c =
    let file = c.args.bytes.now in
    let p = err_from_is_err_and c.from_residual-in_err-imported.result c.from_residual-in_err-imported.ensures.1 in
    let ranges = c.in_ok-segments.ensures.exact.0 in
    let none = c.in_ok-segments.ensures.exact.1 in
    rw (p.1, p.2) (⊎_elim
    inl
    (λ h. inr (image_of-imports file (map range_of c.in_ok-segments.segments) c.image_base-base.result c.import_directory.result _ none ranges c.image_base-base.ensures c.import_directory.ensures h))
    c.in_err-imported.ensures.exact)

pub returns : goal.returns
returns c =
    let file = c.args.bytes.now in
    let ranges = c.in_ok-segments.ensures.exact.0 in
    let none = c.in_ok-segments.ensures.exact.1 in
    let slots = c.in_ok-imported.imported.slots.items in
    let held = c.fill_slots.ensures ∙ ap (λ rs. with_slots rs c.deref.result.now) ranges ∙ ap (with_slots (ranges_of file)) c.deref.ensures.value in
    image_of-imports file (map range_of c.in_ok-segments.segments) c.image_base-base.result c.import_directory.result _ none ranges c.image_base-base.ensures c.import_directory.ensures c.in_ok-imported.ensures.exact
    ∙ ap (λ b. Ok (record { base = b; entry = entry_of file; ranges = with_slots (ranges_of file) slots; names = c.in_ok-imported.imported.names })) (sym c.image_base-base.ensures)
    ∙ ap (λ e. Ok (record { base = c.image_base-base.result; entry = e; ranges = with_slots (ranges_of file) slots; names = c.in_ok-imported.imported.names })) (sym c.entry.ensures)
    ∙ ap (λ rs. Ok (record { base = c.image_base-base.result; entry = c.entry.result; ranges = rs; names = c.in_ok-imported.imported.names })) (sym held)
    ∙ ap (λ ns. Ok (record { base = c.image_base-base.result; entry = c.entry.result; ranges = map range_of c.fill_slots.new.segments; names = ns })) (sym c.in_ok-names.ensures)
