-- What was found of a demo image is its text, or why it is refused.
use Rattle.std.proofs.Common.{◌≡◌, ◌≤◌, ◌∙◌, ℕ, List, refl, sym, arith}
use Rattle.std.specs.Prelude.{Ok, Some}
use Rattle.std.proofs.lemmas.Result.{MatchResult-weaker, err_from_is_err_and}
use Rattle.demo_images.specs.Demo.{demo_image, demo_stubs}
use Rattle.image_loader.specs.Loading.{laid_out_by, load_of}
use Rattle.command_words.specs.Words.{Command, Demo}
use Rattle.jakstab_core.specs.declared.status.Input.TheVariants as inputs
use Rattle.jakstab_core.specs.declared.work.Work.{Work}
use Rattle.jakstab_core.specs.declared.work.Work.TheVariants as works
use Rattle.jakstab_core.specs.Tasks.{AreStubs}
use Rattle.jakstab_core.specs.Inputs.{ShelfCall, Made, OfBytes, image_of, limit_of}
use Rattle.jakstab_core.specs.Says.{IsCommandRefused}
use Rattle.jakstab_core.specs.Due.{OrMemory}
use Rattle.jakstab_core.proofs.Finding.{IsLater, demo_stubs_refused, start_refused, stubs_refused_later, text_found}
use Rattle.jakstab_core.proofs.due.on_demo.Goals as goal

pub returns-in_err-stubs : goal.returns-in_err-stubs
returns-in_err-stubs g c = λ r.
    let asked : Command = Demo c.args.blocks c.args.options in
    let image : OfBytes r.held (limit_of inputs.Image) (Made (demo_image c.args.blocks)) (λ bytes. load_of bytes ≡ Ok (laid_out_by c.in_ok-loaded.loaded)) =
    (c.deref.result.now, c.deref.ensures.value ∙ c.in-Ok.ensures.image, c.in_ok-loaded.ensures) in
    let same : IsLater r r = record { held = refl; before = λ name. omega arith; after = refl } in
    let why : OrMemory (IsCommandRefused r asked) c.in_err-stubs.field-0.0 =
    stubs_refused_later r asked (laid_out_by c.in_ok-loaded.loaded) image r same c.in_err-stubs.field-0.0
    (demo_stubs_refused r c.deref-2.result.now c.in_err-stubs.field-0.0 (c.deref-2.ensures.value ∙ c.in-Ok.ensures.stubs) c.in_err-stubs.ensures) in
    let p = err_from_is_err_and c.from_residual-in_err-stubs.result c.from_residual-in_err-stubs.ensures.1 in
    rw (p.1, p.2) why

pub returns : goal.returns
returns g c = λ r.
    let asked : Command = Demo c.args.blocks c.args.options in
    let image : OfBytes r.held (limit_of inputs.Image) (Made (demo_image c.args.blocks)) (λ bytes. load_of bytes ≡ Ok (laid_out_by c.in_ok-loaded.loaded)) =
    (c.deref.result.now, c.deref.ensures.value ∙ c.in-Ok.ensures.image, c.in_ok-loaded.ensures) in
    let stated : AreStubs r.held (Some (Made demo_stubs)) c.in_ok-stubs.stubs = (c.deref-2.result.now, (c.deref-2.ensures.value ∙ c.in-Ok.ensures.stubs, c.in_ok-stubs.ensures)) in
    let work : Work = works.Summarize c.args.blocks c.args.options in
    MatchResult-weaker c.output_of_loaded.result c.output_of_loaded.ensures
    (λ o found. text_found r asked (laid_out_by c.in_ok-loaded.loaded) image c.in_ok-stubs.stubs stated work refl o.text.items o.is_no found)
    (λ status found. start_refused r asked (laid_out_by c.in_ok-loaded.loaded) image c.in_ok-stubs.stubs stated work refl status found)
