-- What follows of each status.
use Rattle.std.proofs.Common.{◌≡◌, ℕ, ◌<◌, ◌≤◌, ◌⊎◌, Bool, true, false, List, [], ◌∷◌, length, Option, Some, None, refl, sym, ◌∙◌, ap, subst, inl, inr, arith}
use Rattle.std.specs.Prelude.{IsSomeAnd, MatchResult, OnOk, OnErr, Result, Ok, Err}
use Rattle.outside_io.specs.Outside.{Contents, IsWhole, Rose, Gained, GainedPrefix}
use Rattle.memory_map.specs.Image.{Image, IsLoaded}
use Rattle.stub_file.specs.Stubs.{StatedStubs}
use Rattle.image_loader.specs.Loading.{first_fault}
use Rattle.jakstab_core.specs.declared.status.Status.{Status}
use Rattle.jakstab_core.specs.declared.status.Status.TheVariants.{Done, VerdictNo, Usage, ReadFault, TooLong, WriteFault, ImageRefused, StubsRefused, Memory, InputRefused}
use Rattle.text_fields.specs.declared.line_fault.LineFault.{LineFault}
use Rattle.jakstab_core.specs.declared.work.Output.{Output}
use Rattle.jakstab_core.specs.declared.work.Work.{Work}
use Rattle.jakstab_core.specs.declared.work.Work.TheVariants as works
use Rattle.command_words.specs.Words.{Command, command_of}
use Rattle.jakstab_core.specs.StatusLine.{status_line}
use Rattle.jakstab_core.specs.Headline.{CoversRuns}
use Rattle.jakstab_core.specs.Inputs.{ShelfCall, Origin, File, Made, Kind, ImageFile, StubFile, StartText, AutomatonText, RecordText, TableText, Source, sources_of, IsFrom, IsFaulty, IsToldAt, IsUnread, IsTooLong, IsRefusedAt, AreRefused, IsHeldFrom, AreHeld, start_place, stub_number, limit_of}
use Rattle.jakstab_core.specs.Tasks.{IsOutput, IsStartRefused, Covers}
use Rattle.jakstab_core.specs.Says.{Call, Gain, Says, OfCommand, IsDue, IsCommandRefused, IsStartless, IsRefused, IsUsageExact, IsFaultless, IsComplete, IsNoted, Answers}
use Rattle.jakstab_core.specs.Due.{IsDelivered, OrMemory}
use Rattle.jakstab_core.proofs.Making.{IsMadeFine, AreMadeFine, made_fine}
use Rattle.jakstab_core.proofs.Covering.{text_covers}
use Rattle.jakstab_core.proofs.Tabling.{check_covers}

-- the text of work says of the machine's runs what it is to say
covers_of : (work : Work) (stubs : StatedStubs) (image : Image) (text : List ℕ) (refuted : Bool) → IsLoaded image → IsOutput work stubs image text refuted → Covers work stubs image text
covers_of (works.Recover options version) stubs image text refuted loaded is =
    let P : List ℕ → Type 0 = CoversRuns image stubs in subst P (sym is.0) (text_covers image stubs loaded options version)
covers_of works.List stubs image text refuted loaded is = tt
covers_of (works.Decode address count) stubs image text refuted loaded is = tt
covers_of (works.Run start steps) stubs image text refuted loaded is = tt
covers_of (works.Replay automaton taken) stubs image text refuted loaded is = tt
covers_of (works.Tabulate k budget) stubs image text refuted loaded is = tt
covers_of (works.Check told) stubs image text refuted loaded is = check_covers stubs image told text refuted loaded is
covers_of (works.Summarize blocks options) stubs image text refuted loaded is = tt

-- ---- which statuses tell of an input or of work on it

abbrev is_of_input : Status → Bool
is_of_input (ReadFault input) = true
is_of_input (TooLong input) = true
is_of_input (ImageRefused n) = true
is_of_input (StubsRefused n) = true
is_of_input (InputRefused line kind) = true
is_of_input Done = false
is_of_input VerdictNo = false
is_of_input Usage = false
is_of_input WriteFault = false
is_of_input Memory = false

numbered_status : (told : ℕ → Status) → ((n : ℕ) → is_of_input (told n) ≡ true) → (status : Status) (o : Option ℕ) → IsSomeAnd o (λ n. status ≡ told n) → is_of_input status ≡ true
numbered_status told tells status None h = absurd h
numbered_status told tells status (Some n) h = ap is_of_input h ∙ tells n

place_status : (status : Status) (fault : LineFault) → IsToldAt status fault → is_of_input status ≡ true
place_status status fault h = ap is_of_input h

faulty_status : (kind : Kind) (bytes : List ℕ) (status : Status) → IsFaulty kind bytes status → is_of_input status ≡ true
faulty_status ImageFile bytes status h = numbered_status ImageRefused (λ n. refl) status (first_fault bytes) h
faulty_status StubFile bytes status h = numbered_status StubsRefused (λ n. refl) status (stub_number h.0) h.2
faulty_status StartText bytes status h = place_status status h.0 h.2
faulty_status AutomatonText bytes status h = place_status status h.0 h.2
faulty_status RecordText bytes status h = place_status status h.0 h.2
faulty_status TableText bytes status h = absurd h

refused_status : (r : ShelfCall) (s : Source) (status : Status) → IsRefusedAt r s status → is_of_input status ≡ true
refused_status r s status (inl (inl h)) = ap is_of_input h.0
refused_status r s status (inl (inr h)) = ap is_of_input h.0
refused_status r s status (inr h) = faulty_status s.kind h.0 status h.2

among_status : (r : ShelfCall) (sources : List Source) (status : Status) → AreRefused r sources status → is_of_input status ≡ true
among_status r [] status h = absurd h
among_status r (s ∷ rest) status (inl h) = refused_status r s status h
among_status r (s ∷ rest) status (inr h) = among_status r rest status h.1

placed_status : (status : Status) (place : Option LineFault) → IsSomeAnd place (IsToldAt status) → is_of_input status ≡ true
placed_status status None h = absurd h
placed_status status (Some fault) h = place_status status fault h

start_status : (work : Work) (image : Image) (status : Status) → IsStartRefused work image status → is_of_input status ≡ true
start_status (works.Run start steps) image status h = placed_status status (start_place h.0) h.2
start_status (works.Replay automaton taken) image status h = placed_status status (start_place h.0) h.2
start_status (works.Check told) image status h = place_status status h.0 h.2
start_status (works.Tabulate k budget) image status h = absurd h
start_status works.List image status h = absurd h
start_status (works.Recover options version) image status h = absurd h
start_status (works.Decode address count) image status h = absurd h
start_status (works.Summarize blocks options) image status h = absurd h

command_status : (r : ShelfCall) (command : Command) (status : Status) → IsCommandRefused r command status → is_of_input status ≡ true
command_status r command status (inl h) = among_status r (sources_of command) status h
command_status r command status (inr h) = start_status h.prepared.work h.prepared.image status h.refused

-- ---- from why a command is refused to what its status says

without_memory : (Refused : Status → Type 0) (status : Status) → (status ≡ Memory → ⊥) → OrMemory Refused status → Refused status
without_memory Refused status other (inl memory) = absurd (other memory)
without_memory Refused status other (inr h) = h

module _ (a : Call) where
  pub refused : (command : Command) → command_of a.words ≡ Some command → (status : Status) → OrMemory (IsCommandRefused a.shelf command) status → IsRefused status a
  refused command accepted Memory h = tt
  refused command accepted Usage h =
      absurd (let told : is_of_input Usage ≡ true = command_status a.shelf command Usage (without_memory (IsCommandRefused a.shelf command) Usage (λ e. cc) h) in cc)
  refused command accepted Done h = record { command = command; accepted = accepted; fact = without_memory (IsCommandRefused a.shelf command) Done (λ e. cc) h }
  refused command accepted VerdictNo h = record { command = command; accepted = accepted; fact = without_memory (IsCommandRefused a.shelf command) VerdictNo (λ e. cc) h }
  refused command accepted WriteFault h = record { command = command; accepted = accepted; fact = without_memory (IsCommandRefused a.shelf command) WriteFault (λ e. cc) h }
  refused command accepted (ReadFault input) h = record { command = command; accepted = accepted; fact = without_memory (IsCommandRefused a.shelf command) (ReadFault input) (λ e. cc) h }
  refused command accepted (TooLong input) h = record { command = command; accepted = accepted; fact = without_memory (IsCommandRefused a.shelf command) (TooLong input) (λ e. cc) h }
  refused command accepted (ImageRefused n) h = record { command = command; accepted = accepted; fact = without_memory (IsCommandRefused a.shelf command) (ImageRefused n) (λ e. cc) h }
  refused command accepted (StubsRefused n) h = record { command = command; accepted = accepted; fact = without_memory (IsCommandRefused a.shelf command) (StubsRefused n) (λ e. cc) h }
  refused command accepted (InputRefused line kind) h =
      record { command = command; accepted = accepted; fact = without_memory (IsCommandRefused a.shelf command) (InputRefused line kind) (λ e. cc) h }

  -- words that are a command are not refused
  not_usage : (status : Status) → (status ≡ Usage → ⊥) → {Fact : Command → Type 0} → OfCommand a Fact → IsUsageExact status a
  not_usage status other of =
      (λ is. absurd (other is), λ none. absurd (let e : Some of.command ≡ None = sym of.accepted ∙ none in cc))

  pub usage_exact : (status : Status) (out : Gain) → Says status a out → IsUsageExact status a
  usage_exact Done out s = not_usage Done (λ e. cc) s.due
  usage_exact WriteFault out s = not_usage WriteFault (λ e. cc) s.due
  usage_exact Usage out s = (λ is. s.0, λ none. inl refl)
  usage_exact Memory out s = (λ is. absurd (cc), λ none. inr refl)
  usage_exact VerdictNo out s = not_usage VerdictNo (λ e. cc) s.due
  usage_exact (ReadFault input) out s = not_usage (ReadFault input) (λ e. cc) s.0
  usage_exact (TooLong input) out s = not_usage (TooLong input) (λ e. cc) s.0
  usage_exact (ImageRefused n) out s = not_usage (ImageRefused n) (λ e. cc) s.0
  usage_exact (StubsRefused n) out s = not_usage (StubsRefused n) (λ e. cc) s.0
  usage_exact (InputRefused line kind) out s = not_usage (InputRefused line kind) (λ e. cc) s.0

-- ---- inputs that are held are not refused

some_same : (x y : List ℕ) → Some x ≡ Some y → x ≡ y
some_same x y e = cc

-- what a shelf that tells holds under a name is what was read
held_is : (told : Option Contents) (contents : Contents) (limit : ℕ) (name bytes read : List ℕ) → told ≡ Some contents → contents name ≡ Some bytes → IsWhole told name limit read → read ≡ bytes
held_is None contents limit name bytes read tells content whole = cc
held_is (Some held) contents limit name bytes read tells content whole =
    let same : held ≡ contents = cc in
    some_same read bytes (sym whole.1 ∙ ap (λ (h : Contents). h name) same ∙ content)

not_longer : (told : Option Contents) (contents : Contents) (limit : ℕ) (name bytes : List ℕ) → told ≡ Some contents → contents name ≡ Some bytes → length bytes ≤ limit
    → IsTooLong told limit (File name) → ⊥
not_longer None contents limit name bytes tells content short longer = cc
not_longer (Some held) contents limit name bytes tells content short longer =
    let same : held ≡ contents = cc in
    let there : held name ≡ Some bytes = ap (λ (h : Contents). h name) same ∙ content in
    let P : Option (List ℕ) → Type 0 = λ o. IsSomeAnd o (λ content. limit < length content) in
    let long : limit < length bytes = subst P there longer in
    omega arith

module _ (r : ShelfCall) where
  held_read : (limit : ℕ) (kind : Kind) (origin : Origin) → IsHeldFrom r limit kind origin → IsUnread r origin → ⊥
  held_read limit kind (File name) h unread = h.3 unread
  held_read limit kind (Made made) h unread = unread

  held_short : (limit : ℕ) (kind : Kind) (origin : Origin) → IsHeldFrom r limit kind origin → IsTooLong r.held limit origin → ⊥
  held_short limit kind (File name) h long = not_longer r.held h.1.contents limit name h.0 h.1.tells h.1.there h.2 long
  held_short limit kind (Made made) h long = long

  held_faultless : (limit : ℕ) (kind : Kind) (origin : Origin) → IsHeldFrom r limit kind origin → IsMadeFine kind origin → (bytes : List ℕ) → IsFrom r.held limit origin bytes → (status : Status) → IsFaulty kind bytes status
      → ⊥
  held_faultless limit kind (File name) h fine bytes whole status faulty =
      let P : List ℕ → Type 0 = λ l. IsFaulty kind l status in
      h.4 status (subst P (held_is r.held h.1.contents limit name h.0 bytes h.1.tells h.1.there whole) faulty)
  held_faultless limit kind (Made made) h fine bytes whole status faulty =
      let P : List ℕ → Type 0 = λ l. IsFaulty kind l status in fine status (subst P whole faulty)

  held_not_refused : (sources : List Source) → AreHeld r sources → AreMadeFine sources → (status : Status) → AreRefused r sources status → ⊥
  held_not_refused [] h fine status why = why
  held_not_refused (s ∷ rest) h fine status (inl (inl (inl why))) = held_read (limit_of s.input) s.kind s.origin h.0 why.1
  held_not_refused (s ∷ rest) h fine status (inl (inl (inr why))) = held_short (limit_of s.input) s.kind s.origin h.0 why.1
  held_not_refused (s ∷ rest) h fine status (inl (inr why)) = held_faultless (limit_of s.input) s.kind s.origin h.0 fine.0 why.0 why.1 status why.2
  held_not_refused (s ∷ rest) h fine status (inr why) = held_not_refused rest h.1 fine.1 status why.1

module _ (a : Call) (out : Gain) (f : IsFaultless a out) where
  neither : (status : Status) → IsCommandRefused a.shelf f.command status → ⊥
  neither status (inl why) = held_not_refused a.shelf (sources_of f.command) f.inputs (made_fine a.words f.command f.accepted) status why
  neither status (inr why) = f.starts status why

  not_refused : (command : Command) (status : Status) → command ≡ f.command → IsCommandRefused a.shelf command status → ⊥
  not_refused command status same why =
      let P : Command → Type 0 = λ c. IsCommandRefused a.shelf c status in neither status (subst P same why)

  refusal : (status : Status) → OfCommand a (λ command. IsCommandRefused a.shelf command status) → ⊥
  refusal status of =
      let same : of.command ≡ f.command = (let e : Some of.command ≡ Some f.command = sym of.accepted ∙ f.accepted in cc) in
      not_refused of.command status same of.fact

  pub completes : (status : Status) → Says status a out → (status ≡ Done) ⊎ (status ≡ VerdictNo) ⊎ (status ≡ Memory)
  completes Done s = inl refl
  completes VerdictNo s = inr (inl refl)
  completes Memory s = inr (inr refl)
  completes Usage s = absurd (let e : Some f.command ≡ None = sym f.accepted ∙ s.0 in cc)
  completes WriteFault s = absurd (f.written s.rose)
  completes (ReadFault input) s = absurd (refusal (ReadFault input) s.0)
  completes (TooLong input) s = absurd (refusal (TooLong input) s.0)
  completes (ImageRefused n) s = absurd (refusal (ImageRefused n) s.0)
  completes (StubsRefused n) s = absurd (refusal (StubsRefused n) s.0)
  completes (InputRefused line kind) s = absurd (refusal (InputRefused line kind) s.0)

-- what is said with what is noted is all that the top call keeps
pub answers : (status : Status) (a : Call) (out note : Gain) → Says status a out → IsNoted (status_line status) note → Answers status a out note
answers status a out note says noted = record { says = says; usage = usage_exact a status out says; complete = λ f. completes a out f status says; noted = noted }

-- a text that is due, written whole
done_says : (a : Call) (out : Gain) (text : List ℕ) → IsDue a text false → Gained out.before out.after text → Says Done a out
done_says a out text due gained = record {
  text = text;
  due = due;
  gained = gained;
  covers =
      covers_of due.fact.prepared.work due.fact.prepared.stubs due.fact.prepared.image text false due.fact.prepared.loaded due.fact.is;
}

-- a refusal with nothing written
not_of_input : (status : Status) (a : Call) → is_of_input status ≡ false → OfCommand a (λ command. IsCommandRefused a.shelf command status) → ⊥
not_of_input status a other of = let told : is_of_input status ≡ true = command_status a.shelf of.command status of.fact in (let bad : false ≡ true = sym other ∙ told in cc)

refused_says : (status : Status) (a : Call) (out : Gain) → IsRefused status a → out.after ≡ out.before → Says status a out
refused_says Done a out why same = absurd (not_of_input Done a refl why)
refused_says WriteFault a out why same = absurd (not_of_input WriteFault a refl why)
refused_says Usage a out why same = (why, same)
refused_says (ReadFault input) a out why same = (why, same)
refused_says (TooLong input) a out why same = (why, same)
refused_says (ImageRefused n) a out why same = (why, same)
refused_says Memory a out why same = (why, same)
refused_says VerdictNo a out why same = absurd (not_of_input VerdictNo a refl why)
refused_says (StubsRefused n) a out why same = (why, same)
refused_says (InputRefused line kind) a out why same = (why, same)

-- what is due, delivered
due_as : (a : Call) (text : List ℕ) (refuted told : Bool) → refuted ≡ told → IsDue a text refuted → IsDue a text told
due_as a text refuted told is due = let P : Bool → Type 0 = IsDue a text in subst P is due

pub delivered_says : (due : Result Output Status) (status : Status) (a : Call) (out : Gain)
    → MatchResult due (λ o. IsDue a o.text.items o.is_no) (λ refusal. IsRefused refusal a) → IsDelivered due status out → Says status a out
delivered_says (Ok o) Done a out due given = done_says a out o.text.items (due_as a o.text.items o.is_no false given.0 due) given.1
delivered_says (Ok o) VerdictNo a out due given = record { text = o.text.items; due = due_as a o.text.items o.is_no true given.0 due; gained = given.1 }
delivered_says (Ok o) WriteFault a out due given = record { rose = given.0; text = o.text.items; refuted = o.is_no; due = due; part = given.1 }
delivered_says (Ok o) Usage a out due given = absurd given
delivered_says (Ok o) (ReadFault input) a out due given = absurd given
delivered_says (Ok o) (TooLong input) a out due given = absurd given
delivered_says (Ok o) (ImageRefused n) a out due given = absurd given
delivered_says (Ok o) (StubsRefused n) a out due given = absurd given
delivered_says (Ok o) Memory a out due given = absurd given
delivered_says (Ok o) (InputRefused line kind) a out due given = absurd given
delivered_says (Err refusal) status a out due given =
    let P : Status → Type 0 = λ s. Says s a out in subst P (sym given.0) (refused_says refusal a out due given.1)

-- the line on `note`
pub noted : {V E : Type 0} (r : Result V E) (line : List ℕ) (note : Gain) → OnOk r (Gained note.before note.after line) → OnErr r (Rose note.faults_before note.faults_after)
    → OnErr r (GainedPrefix note.before note.after line) → IsNoted line note
noted (Ok done) line note gained rose part = inl gained
noted (Err failed) line note gained rose part = inr (rose, part)
