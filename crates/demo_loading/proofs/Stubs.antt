-- The stub file of a demo image, read.
use Rattle.std.proofs.Common.{◌≡◌, Some, None, IsUtf8, refl, sym, subst, inl, inr, ◌∙◌}
use Rattle.demo_images.specs.Demo.{demo_stubs}
use Rattle.toml.specs.Parse.{parse_document}
use Rattle.toml.proofs.OnLiterals.{toml_on_literals}
use Rattle.stub_file.specs.Faults.{stub_fault, stubs_in, top_fault, table_fault, stub_has, write_has, table_has, has_unknown_key, has_wrong_type, lacks_required, has_choices, choices_made, has_wrong_kind, is_out_of_range, has_other_reply, has_both, reply_of, args_of, HasFault, IsFaultless}
use Rattle.stub_file.specs.Stubs.{IsDocument}
use Rattle.stub_file.specs.declared.fault.StubFault.{StubFault}
use Rattle.stub_file.specs.declared.fault.StubFault.TheVariants.{NotToml, UnknownKey, WrongKind, OutOfRange, Both, Memory}
use Rattle.toml.specs.Data.{Members}
use Rattle.stub_file.proofs.Order.{stubs_fault, none_has}
use Rattle.demo_loading.specs.Laws.{DemoStubsAreFaultless, DemoStubsAreRead, demo_document}

parsed : parse_document demo_stubs ≡ Some demo_document
unfolding toml_on_literals
parsed = refl

top : top_fault demo_document ≡ None
unfolding top_fault table_has has_unknown_key has_wrong_type lacks_required has_choices choices_made has_wrong_kind is_out_of_range has_other_reply has_both
top = refl

stubs : stubs_fault (stubs_in demo_document) ≡ None
unfolding stub_fault table_fault stub_has write_has reply_of args_of table_has has_unknown_key has_wrong_type lacks_required has_choices choices_made has_wrong_kind is_out_of_range has_other_reply has_both
stubs = refl

text : IsUtf8 demo_stubs
unfolding lib.Utf8.encode
text = (demo_stubs, (refl, refl))

pub stubs_are_faultless : DemoStubsAreFaultless
stubs_are_faultless = ((text, parsed), (top, none_has (stubs_in demo_document) stubs))

-- a document without a fault has none
has_none : (t : Members) → IsFaultless t → (fault : StubFault) → HasFault t fault → ⊥
has_none t faultless fault (inl h) = (let e : None ≡ Some fault = sym faultless.0 ∙ h in cc)
has_none t faultless fault (inr h) = (let e : None ≡ Some fault = sym (faultless.1 h.1.name h.1.value h.1.there) ∙ h.1.has in cc)

refused_for : (fault : StubFault) (t : Members) → IsDocument demo_stubs t → HasFault t fault → fault ≡ Memory
refused_for fault t document h =
    let e : Some t ≡ Some demo_document = sym document.1 ∙ parsed in
    let same : t ≡ demo_document = cc in
    let P : Members → Type 0 = λ m. HasFault m fault in absurd (has_none demo_document stubs_are_faultless.1 fault (subst P same h))

pub stubs_are_read : DemoStubsAreRead
stubs_are_read NotToml why = absurd (why demo_document stubs_are_faultless.0)
stubs_are_read Memory why = refl
stubs_are_read UnknownKey why = refused_for UnknownKey why.0 why.1 why.2
stubs_are_read WrongKind why = refused_for WrongKind why.0 why.1 why.2
stubs_are_read OutOfRange why = refused_for OutOfRange why.0 why.1 why.2
stubs_are_read Both why = refused_for Both why.0 why.1 why.2
