-- From what the code finds on the way to what is due or refused.
use Rattle.std.proofs.Common.{◌≡◌, ℕ, ◌<◌, ◌≤◌, ◌⊎◌, Bool, List, [], ◌∷◌, ◌++◌, Option, Some, None, refl, sym, subst, inl, inr, arith}
use Rattle.outside_io.specs.Outside.{Contents, Rose}
use Rattle.memory_map.specs.Image.{Image}
use Rattle.stub_file.specs.Stubs.{StatedStubs, States}
use Rattle.automaton_text.specs.declared.automaton.Automaton.{Automaton}
use Rattle.automaton_text.specs.Reading.{automaton_read}
use Rattle.image_loader.specs.Loading.{LaidOut, load_of}
use Rattle.demo_images.specs.Demo.{demo_stubs}
use Rattle.jakstab_core.specs.declared.status.Input.TheVariants as inputs
use Rattle.jakstab_core.specs.declared.status.Status.{Status}
use Rattle.jakstab_core.specs.declared.work.Work.{Work}
use Rattle.command_words.specs.Words.{Command}
use Rattle.std.specs.Prelude.{Ok}
use Rattle.jakstab_core.specs.Inputs.{ShelfCall, Origin, File, Made, Source, StubFile, IsFaulty, IsFine, IsUnread, IsRefusedAt, AreRefused, OfBytes, image_of, stubs_of, automaton_source, image_source, record_source, stub_source, stub_sources, further_sources, sources_of, limit_of}
use Rattle.jakstab_core.specs.Tasks.{Prepared, AreStubs, IsWork, IsOutput, IsStartRefused}
use Rattle.jakstab_core.specs.Says.{IsCommandRefused, IsStartless, IsTextOf}
use Rattle.jakstab_core.specs.Due.{OfImage, OrMemory}

-- ---- a part of a call's reading

-- a count that rose after it had grown rose altogether
rose_before : (before middle after : ℕ) → before ≤ middle → Rose middle after → Rose before after
rose_before before middle after grown (inl rose) = inl (omega arith)
rose_before before middle after grown (inr full) = inr full

-- a shelf was asked later in a call, and not again
pub record IsLater (r later : ShelfCall) : Type 0 where
  pub held : later.held ≡ r.held
  pub before : (name : List ℕ) → r.faults_before name ≤ later.faults_before name
  pub after : later.faults_after ≡ r.faults_after

module _ (r later : ShelfCall) (is : IsLater r later) where
  unread_later : (origin : Origin) → IsUnread later origin → IsUnread r origin
  unread_later (File name) rose =
      let P : (List ℕ → ℕ) → Type 0 = λ counts. Rose (r.faults_before name) (counts name) in
      subst P is.after (rose_before (r.faults_before name) (later.faults_before name) (later.faults_after name) (is.before name) rose)
  unread_later (Made made) unread = unread

  refused_later : (s : Source) (status : Status) → IsRefusedAt later s status → IsRefusedAt r s status
  refused_later s status (inl (inl why)) = inl (inl (why.0, unread_later s.origin why.1))
  refused_later s status (inr why) =
      let P : Option Contents → Type 0 = λ held. IsRefusedAt (record { held = held; faults_before = r.faults_before; faults_after = r.faults_after }) s status in
      subst P is.held (inr why)
  refused_later s status (inl (inr why)) =
      let P : Option Contents → Type 0 = λ held. IsRefusedAt (record { held = held; faults_before = r.faults_before; faults_after = r.faults_after }) s status in
      subst P is.held (inl (inr why))

  pub are_refused_later : (sources : List Source) (status : Status) → AreRefused later sources status → AreRefused r sources status
  are_refused_later [] status why = why
  are_refused_later (s ∷ rest) status (inl why) = inl (refused_later s status why)
  are_refused_later (s ∷ rest) status (inr why) =
      let P : Option Contents → Type 0 = λ held. IsFine held s in inr (subst P is.held why.0, are_refused_later rest status why.1)

-- ---- one input after another

module _ (r : ShelfCall) where
  -- inputs are refused, whatever is to be read behind them
  refused_among : (sources others : List Source) (status : Status) → AreRefused r sources status → AreRefused r (sources ++ others) status
  refused_among [] others status why = absurd why
  refused_among (s ∷ rest) others status (inl why) = inl why
  refused_among (s ∷ rest) others status (inr why) = inr (why.0, refused_among rest others status why.1)

  -- the stubs are fine, and what is read behind them is refused
  refused_behind : (origin : Option Origin) (stubs : StatedStubs) → AreStubs r.held origin stubs → (others : List Source) (status : Status) → AreRefused r others status
      → AreRefused r (stub_sources origin ++ others) status
  refused_behind None stubs stated others status why = why
  refused_behind (Some origin) stubs stated others status why = inr ((stated.0, stated.1.0, (stubs, stated.1.1)), why)

  -- the automaton is fine, and the record is refused, of which the shelf was asked later
  pub record_refused_later : (later : ShelfCall) → IsLater r later → (automaton taken : List ℕ) (a : Automaton) → OfBytes r.held (limit_of inputs.First) (File automaton) (λ text. automaton_read text ≡ Ok a)
      → (status : Status) → OrMemory (IsRefusedAt later (record_source taken)) status → OrMemory (AreRefused r (automaton_source automaton ∷ record_source taken ∷ [])) status
  record_refused_later later is automaton taken a told status (inl memory) = inl memory
  record_refused_later later is automaton taken a told status (inr why) = inr (inr ((told.0, told.1, (a, told.2)), inl (refused_later r later is (record_source taken) status why)))

-- ---- a command

module _ (r : ShelfCall) (command : Command) where
  -- the image is refused
  pub image_refused : (status : Status) → IsRefusedAt r (image_source (image_of command)) status → IsCommandRefused r command status
  image_refused status why = inl (inl why)

  module _ (laid_out : LaidOut) (image : OfBytes r.held (limit_of inputs.Image) (image_of command) (λ bytes. load_of bytes ≡ Ok laid_out)) where
    -- the image is fine, and what is read behind it is refused
    behind_image : (status : Status) → AreRefused r (stub_sources (stubs_of command) ++ further_sources command) status → IsCommandRefused r command status
    behind_image status why = inl (inr ((image.0, image.1, (laid_out, image.2)), why))

    -- the stubs are refused, of which the shelf was asked later
    pub stubs_refused_later : (later : ShelfCall) → IsLater r later → (status : Status) → OrMemory (AreRefused later (stub_sources (stubs_of command))) status → OrMemory (IsCommandRefused r command) status
    stubs_refused_later later is status (inl memory) = inl memory
    stubs_refused_later later is status (inr why) =
        inr (behind_image status (refused_among r (stub_sources (stubs_of command)) (further_sources command) status (are_refused_later r later is (stub_sources (stubs_of command)) status why)))

    module _ (stubs : StatedStubs) (stated : AreStubs r.held (stubs_of command) stubs) where
      -- the stubs are fine, and a further input is refused, of which the shelf was asked later
      pub further_refused_later : (later : ShelfCall) → IsLater r later → (status : Status) → OrMemory (AreRefused later (further_sources command)) status → OrMemory (IsCommandRefused r command) status
      further_refused_later later is status (inl memory) = inl memory
      further_refused_later later is status (inr why) =
          inr (behind_image status (refused_behind r (stubs_of command) stubs stated (further_sources command) status (are_refused_later r later is (further_sources command) status why)))

      module _ (work : Work) (due : IsWork r.held command work) where
        prepared : (image_there : Image) → {Fact : Image → Type 0} → OfImage laid_out stubs Fact → Prepared r.held command
        prepared image_there found = record {
          bytes = image.0;
          read = image.1;
          stubs = stubs;
          stated = stated;
          image = found.image;
          loads = record { laid_out = laid_out; loads = image.2; is = found.is };
          loaded = found.loaded;
          work = work;
          due = due;
        }

        pub text_found : (text : List ℕ) (refuted : Bool) → OfImage laid_out stubs (λ there. IsOutput work stubs there text refuted) → IsTextOf r.held command text refuted
        unfolding prepared
        text_found text refuted found = record { prepared = prepared found.image found; is = found.fact }

        startless : (status : Status) → OfImage laid_out stubs (λ there. IsStartRefused work there status) → IsStartless r.held command status
        unfolding prepared
        startless status found = record { prepared = prepared found.image found; refused = found.fact }

        -- no run begins as the inputs say
        pub start_refused : (status : Status) → OrMemory (λ status. OfImage laid_out stubs (λ there. IsStartRefused work there status)) status → OrMemory (IsCommandRefused r command) status
        start_refused status (inl memory) = inl memory
        start_refused status (inr found) = inr (inr (startless status found))

-- the stubs of a demo image are refused
pub demo_stubs_refused : (r : ShelfCall) (text : List ℕ) (status : Status) → text ≡ demo_stubs → OrMemory (IsFaulty StubFile text) status → OrMemory (AreRefused r (stub_sources (Some (Made demo_stubs)))) status
demo_stubs_refused r text status is (inl memory) = inl memory
demo_stubs_refused r text status is (inr why) = inr (inl (inr (text, is, why)))
