use Rattle.std.proofs.Common.{◌≡◌, ◌+◌, ◌-◌, ◌*◌, map, Some, sym, ap, ◌∙◌, arith, inl, inr, ⊎_elim}
use Rattle.std.specs.Option.{option_map}
use Rattle.std.proofs.lemmas.Result.{err_from_is_err_and}
use Rattle.memory_map.specs.Map.{range_of}
use Rattle.file_pieces.specs.Found.{bytes_at}
use Rattle.pe32_reader.specs.Imports.{each_entry, descriptor_step, descriptor_of, descriptors, MOST_DESCRIPTORS}
use Rattle.pe32_reader.specs.Walk.{seen_by}
use Rattle.pe32_reader.proofs.Walks.{each-broken, each-ended, each-goes, each-fails, descriptors-none, descriptors-end, descriptors-next, descriptors-over}
use Rattle.pe32_reader.proofs.imports.ImportTable.take_descriptors.Goals as goal

pub returns-in-None-clause-exact : goal.returns-in-None-clause-exact
returns-in-None-clause-exact c =
    let ranges = map range_of c.args.segments.now in
    let i = c.loop-i.i in
    let place = ap (λ a. option_map descriptor_of (bytes_at ranges (a + 20 * i) 20)) c.from.ensures in
    inr (c.loop-i.invariant.walk ∙ each-broken _ _ _ (descriptors-none ranges (MOST_DESCRIPTORS - i) (c.args.directory + 20 * i) (c.in-None.ensures ∙ place)))

pub returns-in-Some-None-clause-exact : goal.returns-in-Some-None-clause-exact
returns-in-Some-None-clause-exact c =
    let ranges = map range_of c.args.segments.now in
    let i = c.loop-i.i in
    let place = ap (λ a. option_map descriptor_of (bytes_at ranges (a + 20 * i) 20)) c.from.ensures in
    c.loop-i.invariant.walk ∙ each-ended _ _ _ (descriptors-end ranges (MOST_DESCRIPTORS - i) (MOST_DESCRIPTORS - (i + 1)) (c.args.directory + 20 * i) (omega arith) (ap Some (sym c.in-Some-None.field-0-is) ∙ c.in-Some-None.ensures ∙ place))

pub returns-in_err-take_descriptor-in-Some-Some-clause-exact : goal.returns-in_err-take_descriptor-in-Some-Some-clause-exact
returns-in_err-take_descriptor-in-Some-Some-clause-exact c =
    let ranges = map range_of c.args.segments.now in
    let i = c.loop-i.i in
    let m = MOST_DESCRIPTORS - (i + 1) in
    let at = c.args.directory + 20 * i in
    let found = c.in-Some-Some.descriptor in
    let step = descriptor_step ranges c.args.base in
    let place = ap (λ a. option_map descriptor_of (bytes_at ranges (a + 20 * i) 20)) c.from.ensures in
    let table = descriptors-next ranges (MOST_DESCRIPTORS - i) m at found (omega arith) (ap Some (sym c.in-Some-Some.field-0-is) ∙ c.in-Some-Some.ensures ∙ place) in
    let p = err_from_is_err_and c.from_residual.result c.from_residual.ensures.1 in
    rw (p.1, p.2) (⊎_elim
    inl
    (λ h. inr (c.loop-i.invariant.walk ∙ each-fails step (descriptors ranges (MOST_DESCRIPTORS - i) at) (seen_by c.loop-i.self) found (descriptors ranges m (at + 20)) _ table h))
    c.in_err-take_descriptor-in-Some-Some.ensures.exact)

pub loop-i-preserved : goal.loop-i-preserved
loop-i-preserved c =
    let ranges = map range_of c.args.segments.now in
    let i = c.loop-i.i in
    let m = MOST_DESCRIPTORS - (i + 1) in
    let at = c.args.directory + 20 * i in
    let found = c.in-Some-Some.descriptor in
    let next = seen_by c.take_descriptor.new.self in
    let step = descriptor_step ranges c.args.base in
    let place = ap (λ a. option_map descriptor_of (bytes_at ranges (a + 20 * i) 20)) c.from.ensures in
    let table = descriptors-next ranges (MOST_DESCRIPTORS - i) m at found (omega arith) (ap Some (sym c.in-Some-Some.field-0-is) ∙ c.in-Some-Some.ensures ∙ place) in
    let on : at + 20 ≡ c.args.directory + 20 * (i + 1) = omega arith in
    record {
      walk = c.loop-i.invariant.walk
          ∙ each-goes step (descriptors ranges (MOST_DESCRIPTORS - i) at) (seen_by c.loop-i.self) found (descriptors ranges m (at + 20)) next table c.in_ok-take_descriptor-in-Some-Some.ensures.exact
          ∙ ap (λ a. each_entry step (descriptors ranges m a) next) on;
      slots = c.in_ok-take_descriptor-in-Some-Some.ensures.few;
      named = c.in_ok-take_descriptor-in-Some-Some.ensures.named;
    }

pub returns-clause-exact : goal.returns-clause-exact
returns-clause-exact c =
    let ranges = map range_of c.args.segments.now in
    let i = c.loop-i.i in
    inr (c.loop-i.invariant.walk ∙ each-broken _ _ _ (descriptors-over ranges (MOST_DESCRIPTORS - i) (c.args.directory + 20 * i) (omega arith)))
