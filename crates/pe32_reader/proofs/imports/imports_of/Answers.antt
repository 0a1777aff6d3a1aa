use Rattle.std.proofs.Common.{map, sym, ap, ◌∙◌, inl, inr, ⊎_elim, Ok}
use Rattle.std.proofs.lemmas.Result.{err_from_is_err_and}
use Rattle.memory_map.specs.Map.{range_of}
use Rattle.pe32_reader.proofs.Walks.{imports_of-none, imports_of-some}
use Rattle.pe32_reader.proofs.imports.imports_of.Goals as goal

pub returns-in-None-clause-exact : goal.returns-in-None-clause-exact
returns-in-None-clause-exact c =
    imports_of-none (map range_of c.args.segments.now) c.args.base c.args.directory c.in-None.is ∙ ap Ok (sym c.new-imported.ensures.seen)

pub returns-in_err-take_descriptors-in-Some-clause-exact : goal.returns-in_err-take_descriptors-in-Some-clause-exact
returns-in_err-take_descriptors-in-Some-clause-exact c =
    let p = err_from_is_err_and c.from_residual.result c.from_residual.ensures.1 in
    rw (p.1, p.2) (⊎_elim
    inl
    (λ h. inr (imports_of-some (map range_of c.args.segments.now) c.args.base c.args.directory c.in-Some.directory c.address_from-at.result _ _ c.in-Some.is c.address_from-at.ensures c.new-imported.ensures.seen h))
    c.in_err-take_descriptors-in-Some.ensures.exact)

pub returns-in_ok-take_descriptors-in-Some-clause-exact : goal.returns-in_ok-take_descriptors-in-Some-clause-exact
returns-in_ok-take_descriptors-in-Some-clause-exact c =
    imports_of-some (map range_of c.args.segments.now) c.args.base c.args.directory c.in-Some.directory c.address_from-at.result _ _ c.in-Some.is c.address_from-at.ensures c.new-imported.ensures.seen c.in_ok-take_descriptors-in-Some.ensures.exact
