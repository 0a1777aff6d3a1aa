-- A call has a next state exactly where no fault holds.
use Rattle.std.proofs.Common.{◌≡◌, Bool, true, false, cond, [], Option, None, refl, sym, ◌∙◌, ap}
use Rattle.std.specs.Prelude.{not, ◌&&◌, flat_map}
use Rattle.std.specs.List.{enumerate_from, list_all}
use Rattle.std.proofs.lemmas.Bool.{false≢true}
use Rattle.memory_map.specs.declared.choice.Choice.{Choice}
use Rattle.memory_map.specs.declared.fault.BadKind.{BadKind}
use Rattle.memory_map.specs.State.{MachineState}
use Rattle.stub_file.specs.declared.stub.Reply.{Reply}
use Rattle.stub_file.specs.declared.stub.Reply.TheVariants.{Anything, Block, Enter, Never, Number}
use Rattle.stub_file.specs.declared.stub.Stub.{Stub}
use Rattle.import_semantics.specs.StubDoes.{Returned, after_call, bad_of, block_of, end_by, fault_of, filled_in, is_allowed, may_fail, may_fill, stub_does}
use Rattle.import_semantics.specs.Laws.{CallsFail, CallsFault, CallsReturn}

pub no_kind : (a b c : Bool) (x y z : Option BadKind) → a ≡ false → b ≡ false → c ≡ false → cond a x (cond b y (cond c z None)) ≡ None
no_kind false false false x y z p q r = refl
no_kind true b c x y z p q r = absurd (false≢true (sym p))
no_kind false true c x y z p q r = absurd (false≢true (sym q))
no_kind false false true x y z p q r = absurd (false≢true (sym r))

-- a choice that fills in nothing fills in nothing bad
fills_nothing : (stub : Stub) (choice : Choice) (m : MachineState) → choice.fill ≡ [] → not (list_all (may_fill stub choice m) (filled_in choice)) ≡ false
fills_nothing stub choice m none = ap (λ fill. not (list_all (may_fill stub choice m) (flat_map (λ f. enumerate_from f.at f.bytes) fill))) none

-- a call that fails asks for no base
fails_without_base : (r : Reply) (choice : Choice) (m : MachineState) → may_fail r ≡ true → choice.fails ≡ true → not (is_allowed m (block_of r choice m)) ≡ false
fails_without_base (Block size zeroed fails) choice m may does = ap (λ b. not (is_allowed m (cond b None (block_of (Block size zeroed fails) (record choice { fails = false }) m)))) does
fails_without_base Anything choice m may does = refl
fails_without_base (Number n) choice m may does = refl
fails_without_base Never choice m may does = refl
fails_without_base (Enter i) choice m may does = refl

pub returned : (stub : Stub) (choice : Choice) (m : MachineState) → fault_of stub m ≡ None → bad_of stub choice m ≡ None → stub_does stub choice m ≡ Returned (after_call stub choice m)
unfolding stub_does
returned stub choice m clear plain =
    ap (λ f. end_by f (bad_of stub choice m) (after_call stub choice m)) clear ∙ ap (λ b. end_by None b (after_call stub choice m)) plain

pub calls_fail : CallsFail
calls_fail stub choice m may does fill clear =
    let a = ap (λ b. choice.fails && not b) may ∙ ap (λ b. b && false) does in
    (after_call stub choice m, returned stub choice m clear (no_kind _ _ _ _ _ _ a (fails_without_base stub.reply choice m may does) (fills_nothing stub choice m fill)))

pub calls_return : CallsReturn
calls_return stub choice m plain lies clear =
    let a = ap (λ b. b && not (may_fail stub.reply)) plain.fails in
    (after_call stub choice m, returned stub choice m clear (no_kind _ _ _ _ _ _ a (ap not lies) (fills_nothing stub choice m plain.fill)))

pub calls_fault : CallsFault
unfolding stub_does
calls_fault stub choice m kind holds = ap (λ f. end_by f (bad_of stub choice m) (after_call stub choice m)) holds
