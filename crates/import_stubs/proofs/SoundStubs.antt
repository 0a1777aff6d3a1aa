-- The law of calls, said of the expansion at an import's place.
use Rattle.std.proofs.Common.{◌≡◌, ℕ, List, [], Some, refl, sym, ap, ◌∙◌, subst}
use Rattle.std.specs.Prelude.{◌≢◌}
use Rattle.memory_map.specs.declared.choice.Choice.{Choice}
use Rattle.memory_map.specs.Image.{Image, IsLoaded}
use Rattle.memory_map.specs.State.{MachineState}
use Rattle.address_regions.specs.Places.{Places}
use Rattle.domain_laws.specs.Laws.{IsLawful, Values}
use Rattle.stub_file.specs.declared.stub.Reply.{Reply}
use Rattle.stub_file.specs.declared.stub.Reply.TheVariants as reply
use Rattle.stub_file.specs.declared.stub.Stub.{Stub}
use Rattle.stub_file.specs.Stubs.{StatedStubs, stub_named}
use Rattle.import_semantics.specs.StubDoes.{Returned, stub_does}
use Rattle.abstract_state.specs.Describes.{Describes}
use Rattle.abstract_state.specs.Expanding.{Expanded}
use Rattle.abstract_state.specs.State.{IsWellState, Known}
use Rattle.import_stubs.specs.Laws.{IsFoundByPlaces}
use Rattle.import_stubs.specs.Stub.{calls, expand_call, expand_import, expand_stub, stack_offset}
use Rattle.import_stubs.proofs.SoundReplies.{call-is_sound}

module _ {D : Type 0} (d : Values D) (l : IsLawful d) (image : Image) where
  called : (stub : Stub) (r : Reply) (s : Known D) → r ≢ reply.Never → expand_call d image stub r s ≡ calls d image stub (stack_offset (d.reach s.regs.esp)) s
  called stub reply.Anything s some = refl
  called stub (reply.Number n) s some = refl
  called stub (reply.Block size zeroed may) s some = refl
  called stub reply.Never s some = absurd (some refl)
  called stub (reply.Enter i) s some = refl

  -- an import with a stub: whatever it does is described by one of the next pairs, unless a cause leaves its place open
  pub stub-is_sound : (stubs : StatedStubs) (name : List ℕ) (stub : Stub) (choice : Choice) (s : Known D) (p : Places) (m next : MachineState)
      → IsLoaded image → IsWellState d s → Describes d image s p m → stub_named name stubs ≡ Some stub → stub.reply ≢ reply.Never → stub_does stub choice m ≡ Returned next
      → (expand_stub d image stubs name s).causes ≡ [] → IsFoundByPlaces d image (expand_stub d image stubs name s) next
  unfolding expand_stub
  stub-is_sound stubs name stub choice s p m next loaded well describes named some does none =
      let same : expand_stub d image stubs name s ≡ calls d image stub (stack_offset (d.reach s.regs.esp)) s =
      ap (λ o. expand_import d image o s) named ∙ called stub stub.reply s some in
      subst (λ (x : Expanded D). IsFoundByPlaces d image x next) (sym same)
      (call-is_sound d l image stub choice s p m next loaded well describes some does (subst (λ (x : Expanded D). x.causes ≡ []) same none))
