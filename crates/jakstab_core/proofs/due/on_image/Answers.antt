-- What was found of the files of a command on an image is its text, or why it is refused.
use Rattle.std.proofs.Common.{ℕ, List, ◌≤◌, ◌∙◌, refl, subst, arith}
use Rattle.std.specs.Prelude.{option_map, Ok, ◌≡◌}
use Rattle.std.proofs.lemmas.Result.{MatchResult-weaker, err_from_is_err_and}
use Rattle.outside_io.specs.Outside.{Contents}
use Rattle.std.specs.Prelude.{Option}
use Rattle.image_loader.specs.Loading.{LaidOut, laid_out_by, load_of}
use Rattle.command_words.specs.Reader.{task_of}
use Rattle.command_words.specs.Words.{Command, on_image}
use Rattle.jakstab_core.specs.declared.status.Input.TheVariants as inputs
use Rattle.jakstab_core.specs.Inputs.{ShelfCall, OfBytes, image_of, stubs_of, limit_of}
use Rattle.jakstab_core.specs.Tasks.{AreStubs, IsWork}
use Rattle.jakstab_core.specs.Says.{IsCommandRefused}
use Rattle.jakstab_core.specs.Due.{OrMemory}
use Rattle.jakstab_core.proofs.Finding.{IsLater, further_refused_later, start_refused, stubs_refused_later, text_found}
use Rattle.jakstab_core.proofs.due.on_image.Goals as goal

pub returns-in_err-stubs : goal.returns-in_err-stubs
returns-in_err-stubs g c =
    let asked : Command = on_image c.args.command.image.now (option_map (λ s. s.now) c.args.command.stubs) (task_of c.args.command.task) in
    let r : ShelfCall = record {
      held = g.S.Shelf.contents c.args.shelf.now;
      faults_before = g.S.Shelf.faults c.args.shelf.now;
      faults_after = g.S.Shelf.faults c.read_stub_file.new.shelf;
    } in
    let later : ShelfCall = record {
      held = g.S.Shelf.contents c.read_image.new.shelf;
      faults_before = g.S.Shelf.faults c.read_image.new.shelf;
      faults_after = g.S.Shelf.faults c.read_stub_file.new.shelf;
    } in
    let is : IsLater r later = record { held = c.in_ok-loaded.ensures.contents; before = c.in_ok-loaded.ensures.rising; after = refl } in
    let why : OrMemory (IsCommandRefused r asked) c.in_err-stubs.field-0.0 =
    stubs_refused_later r asked (laid_out_by c.in_ok-loaded.loaded) c.in_ok-loaded.ensures.read later is c.in_err-stubs.field-0.0 c.in_err-stubs.ensures.read in
    let p = err_from_is_err_and c.from_residual-in_err-stubs.result c.from_residual-in_err-stubs.ensures.1 in
    rw (p.1, p.2) why

pub returns-in_err-work : goal.returns-in_err-work
returns-in_err-work g c =
    let asked : Command = on_image c.args.command.image.now (option_map (λ s. s.now) c.args.command.stubs) (task_of c.args.command.task) in
    let r : ShelfCall = record {
      held = g.S.Shelf.contents c.args.shelf.now;
      faults_before = g.S.Shelf.faults c.args.shelf.now;
      faults_after = g.S.Shelf.faults c.read_work.new.shelf;
    } in
    let later : ShelfCall = record {
      held = g.S.Shelf.contents c.read_stub_file.new.shelf;
      faults_before = g.S.Shelf.faults c.read_stub_file.new.shelf;
      faults_after = g.S.Shelf.faults c.read_work.new.shelf;
    } in
    let is : IsLater r later = record {
      held = c.in_ok-stubs.ensures.contents ∙ c.in_ok-loaded.ensures.contents;
      before = λ name. (let first = c.in_ok-loaded.ensures.rising name in let second = c.in_ok-stubs.ensures.rising name in omega arith);
      after = refl;
    } in
    let P : Option Contents → Type 0 = λ held. AreStubs held (stubs_of asked) c.in_ok-stubs.stubs in
    let stated : AreStubs r.held (stubs_of asked) c.in_ok-stubs.stubs = subst P c.in_ok-loaded.ensures.contents c.in_ok-stubs.ensures.read in
    let why : OrMemory (IsCommandRefused r asked) c.in_err-work.field-0.0 =
    further_refused_later r asked (laid_out_by c.in_ok-loaded.loaded) c.in_ok-loaded.ensures.read c.in_ok-stubs.stubs stated later is c.in_err-work.field-0.0 c.in_err-work.ensures.read in
    let p = err_from_is_err_and c.from_residual-in_err-work.result c.from_residual-in_err-work.ensures.1 in
    rw (p.1, p.2) why

pub returns : goal.returns
returns g c =
    let asked : Command = on_image c.args.command.image.now (option_map (λ s. s.now) c.args.command.stubs) (task_of c.args.command.task) in
    let r : ShelfCall = record {
      held = g.S.Shelf.contents c.args.shelf.now;
      faults_before = g.S.Shelf.faults c.args.shelf.now;
      faults_after = g.S.Shelf.faults c.read_work.new.shelf;
    } in
    let P : Option Contents → Type 0 = λ held. AreStubs held (stubs_of asked) c.in_ok-stubs.stubs in
    let stated : AreStubs r.held (stubs_of asked) c.in_ok-stubs.stubs = subst P c.in_ok-loaded.ensures.contents c.in_ok-stubs.ensures.read in
    let Q : Option Contents → Type 0 = λ held. IsWork held asked c.in_ok-work.work in
    let due : IsWork r.held asked c.in_ok-work.work = subst Q (c.in_ok-stubs.ensures.contents ∙ c.in_ok-loaded.ensures.contents) c.in_ok-work.ensures.read in
    MatchResult-weaker c.output_of_loaded.result c.output_of_loaded.ensures
    (λ o found. text_found r asked (laid_out_by c.in_ok-loaded.loaded) c.in_ok-loaded.ensures.read c.in_ok-stubs.stubs stated c.in_ok-work.work due o.text.items o.is_no found)
    (λ status found. start_refused r asked (laid_out_by c.in_ok-loaded.loaded) c.in_ok-loaded.ensures.read c.in_ok-stubs.stubs stated c.in_ok-work.work due status found)
