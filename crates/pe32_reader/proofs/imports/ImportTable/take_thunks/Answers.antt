use Rattle.std.proofs.Common.{◌≡◌, ◌+◌, ◌-◌, ◌*◌, map, sym, ap, ◌∙◌, arith, inl, inr, ⊎_elim}
use Rattle.std.specs.Option.{option_map}
use Rattle.std.proofs.lemmas.Result.{err_from_is_err_and}
use Rattle.memory_map.specs.FileBytes.{word_at}
use Rattle.memory_map.specs.Map.{range_of}
use Rattle.file_pieces.specs.Found.{bytes_at}
use Rattle.pe32_reader.specs.Imports.{each_entry, thunk_step, thunks, TOO_MANY_THUNKS}
use Rattle.pe32_reader.specs.Walk.{seen_by}
use Rattle.pe32_reader.proofs.Walks.{each-broken, each-ended, each-goes, each-fails, thunks-none, thunks-zero, thunks-word, thunks-over}
use Rattle.pe32_reader.proofs.imports.ImportTable.take_thunks.Goals as goal

pub returns-in-None-clause-exact : goal.returns-in-None-clause-exact
returns-in-None-clause-exact c =
    let ranges = map range_of c.args.segments.now in
    let i = c.loop-i.i in
    let place = ap (λ a. option_map (λ bytes. word_at bytes 0) (bytes_at ranges (a + 4 * i) 4)) c.from.ensures in
    inr (c.loop-i.invariant.walk ∙ each-broken _ _ _ (thunks-none ranges (TOO_MANY_THUNKS - i) (c.args.list + 4 * i) (c.args.slots + 4 * i) (c.in-None.ensures ∙ place)))

pub returns-in-Some-eq0-clause-exact : goal.returns-in-Some-eq0-clause-exact
returns-in-Some-eq0-clause-exact c =
    let ranges = map range_of c.args.segments.now in
    let i = c.loop-i.i in
    let place = ap (λ a. option_map (λ bytes. word_at bytes 0) (bytes_at ranges (a + 4 * i) 4)) c.from.ensures in
    c.loop-i.invariant.walk ∙ each-ended _ _ _ (thunks-zero ranges (TOO_MANY_THUNKS - i) (TOO_MANY_THUNKS - (i + 1)) (c.args.list + 4 * i) (c.args.slots + 4 * i) c.in-Some-eq0.field-0 (omega arith) (c.in-Some-eq0.ensures ∙ place) (omega arith))

pub returns-in_err-take_thunk-in-Some-clause-exact : goal.returns-in_err-take_thunk-in-Some-clause-exact
returns-in_err-take_thunk-in-Some-clause-exact c =
    let ranges = map range_of c.args.segments.now in
    let i = c.loop-i.i in
    let m = TOO_MANY_THUNKS - (i + 1) in
    let at = c.args.list + 4 * i in
    let slot = c.args.slots + 4 * i in
    let word = c.in-Some.word in
    let step = thunk_step ranges c.args.base c.args.library.now in
    let place = ap (λ a. option_map (λ bytes. word_at bytes 0) (bytes_at ranges (a + 4 * i) 4)) c.from.ensures in
    let tried = ap (λ a. step (record { word = word; slot = a + 4 * i }) (seen_by c.loop-i.self)) c.from-in-Some.ensures in
    let table = thunks-word ranges (TOO_MANY_THUNKS - i) m at slot word (omega arith) (c.in-Some.ensures ∙ place) (λ e. omega arith) in
    let p = err_from_is_err_and c.from_residual.result c.from_residual.ensures.1 in
    rw (p.1, p.2) (⊎_elim
    inl
    (λ h. inr (c.loop-i.invariant.walk ∙ each-fails step (thunks ranges (TOO_MANY_THUNKS - i) at slot) (seen_by c.loop-i.self) (record { word = word; slot = slot }) (thunks ranges m (at + 4) (slot + 4)) _ table (sym tried ∙ h)))
    c.in_err-take_thunk-in-Some.ensures.exact)

pub loop-i-preserved : goal.loop-i-preserved
loop-i-preserved c =
    let ranges = map range_of c.args.segments.now in
    let i = c.loop-i.i in
    let m = TOO_MANY_THUNKS - (i + 1) in
    let at = c.args.list + 4 * i in
    let slot = c.args.slots + 4 * i in
    let word = c.in-Some.word in
    let next = seen_by c.take_thunk.new.self in
    let step = thunk_step ranges c.args.base c.args.library.now in
    let place = ap (λ a. option_map (λ bytes. word_at bytes 0) (bytes_at ranges (a + 4 * i) 4)) c.from.ensures in
    let tried = ap (λ a. step (record { word = word; slot = a + 4 * i }) (seen_by c.loop-i.self)) c.from-in-Some.ensures in
    let table = thunks-word ranges (TOO_MANY_THUNKS - i) m at slot word (omega arith) (c.in-Some.ensures ∙ place) (λ e. omega arith) in
    let on : at + 4 ≡ c.args.list + 4 * (i + 1) = omega arith in
    let slot_on : slot + 4 ≡ c.args.slots + 4 * (i + 1) = omega arith in
    record {
      walk = c.loop-i.invariant.walk
          ∙ each-goes step (thunks ranges (TOO_MANY_THUNKS - i) at slot) (seen_by c.loop-i.self) (record { word = word; slot = slot }) (thunks ranges m (at + 4) (slot + 4)) next table (sym tried ∙ c.in_ok-take_thunk-in-Some.ensures.exact)
          ∙ ap (λ a. each_entry step (thunks ranges m a (slot + 4)) next) on
          ∙ ap (λ a. each_entry step (thunks ranges m (c.args.list + 4 * (i + 1)) a) next) slot_on;
      slots = c.in_ok-take_thunk-in-Some.ensures.few;
    }

pub returns-clause-exact : goal.returns-clause-exact
returns-clause-exact c =
    let ranges = map range_of c.args.segments.now in
    let i = c.loop-i.i in
    inr (c.loop-i.invariant.walk ∙ each-broken _ _ _ (thunks-over ranges (TOO_MANY_THUNKS - i) (c.args.list + 4 * i) (c.args.slots + 4 * i) (omega arith)))
