-- The writes of a call are those of the machine: the parts describe the bytes after them.
use Rattle.std.proofs.Common.{◌≡◌, ℕ, ◌+◌, ◌-◌, ◌*◌, ◌≤◌, ◌==◌, true, false, not, cond, List, [], ◌∷◌, map, Option, Some, None, refl, subst, arith, ℤ, pos, ◌+ℤ◌, fold, inl, inr}
use Rattle.std.specs.Prelude.{◌||◌, All}
use Rattle.std.specs.List.{list_all}
use Rattle.std.proofs.lemmas.Bool.{and_cases, and_parts, both_ways, cases_Bool, eq-eqb, eqb-true, false≢true, not_from_false, or_cases, or_parts}
use Rattle.memory_map.specs.declared.span.Span.{Span}
use Rattle.memory_map.specs.Image.{Image}
use Rattle.memory_map.specs.Range.{IsInUserSpace, may_write}
use Rattle.memory_map.specs.Spans.{is_in_span}
use Rattle.memory_map.specs.State.{MachineState, memory}
use Rattle.memory_map.proofs.RunBytes.{IsInOne, IsInSpan, all_in_range}
use Rattle.address_regions.specs.Places.{Places}
use Rattle.domain_laws.specs.declared.reach.Reach.{Reach}
use Rattle.domain_laws.specs.declared.reach.Reach.TheVariants.{Number, Place, Anywhere}
use Rattle.domain_laws.specs.Laws.{IsLawful, Values}
use Rattle.domain_laws.specs.Reached.{IsReached}
use Rattle.stub_file.specs.declared.stub.Amount.{Amount}
use Rattle.stub_file.specs.declared.stub.Amount.TheVariants.{Argument, Fixed}
use Rattle.stub_file.specs.declared.stub.StubWrite.{StubWrite}
use Rattle.flow_log.specs.declared.cause.Cause.TheVariants as causes
use Rattle.abstract_state.specs.declared.stored.Stored.TheVariants.{Done, Faults, Stopped}
use Rattle.abstract_state.specs.Accessing.{StoredPath, any_stored, any_stored_by}
use Rattle.abstract_state.specs.Describes.{Describes}
use Rattle.abstract_state.specs.Expanding.{Path}
use Rattle.abstract_state.specs.State.{IsWellState, Known}
use Rattle.abstract_state.proofs.BridgeAny.{GoesTo, IsOver, IsPathAt, among-out, in-out, in_span-from, in_span-is, nothing, same-at}
use Rattle.import_semantics.specs.StubDoes.{amount, argument, may_write_span, span_of}
use Rattle.import_stubs.specs.Stub.{amount_known, argument_value, is_null, may_be_null, with_write, written, written_at}
use Rattle.import_stubs.proofs.SoundFrame.{word-stands}
use Rattle.import_stubs.proofs.KeepWrites.{KS, with_write-keeps}

-- the bytes c in a span, and b elsewhere
abbrev over : Span → (ℕ → ℕ) → (ℕ → ℕ) → ℕ → ℕ
over s b c y = cond (is_in_span y s) (c y) (b y)

over-off : (s : Span) (b c : ℕ → ℕ) (y : ℕ) → (IsInSpan y s → ⊥) → over s b c y ≡ b y
over-off s b c y off =
    elim (is_in_span y s) as (λ t. is_in_span y s ≡ t → cond t (c y) (b y) ≡ b y) [
      | true ↦ λ e. absurd (off (in_span-is y s e))
      | false ↦ λ e. refl
    ] refl

over-rest : (s : Span) (ss : List Span) (b c : ℕ → ℕ) → ((y : ℕ) → (IsInOne y (s ∷ ss) → ⊥) → c y ≡ b y) → (y : ℕ) → (IsInOne y ss → ⊥) → c y ≡ over s b c y
over-rest s ss b c stays y off =
    elim (is_in_span y s) as (λ t. is_in_span y s ≡ t → c y ≡ cond t (c y) (b y)) [
      | true ↦ λ e. refl
      | false ↦ λ e. stays y (λ h. elim h [ inl i ↦ both_ways (is_in_span y s) e (in_span-from y s i) | inr i ↦ off i ])
    ] refl

-- how many bytes a write of n bytes from an address on has: none where the address is 0
pub record IsSize (x n k : ℕ) : Type 0 where
  pub none : x ≡ 0 → k ≡ 0
  pub all : (x ≡ 0 → ⊥) → k ≡ n

size-is : (x n : ℕ) → IsSize x n (cond (x == 0) 0 n)
size-is x n =
    elim (x == 0) as (λ b. (x == 0) ≡ b → IsSize x n (cond b 0 n)) [
      | true ↦ λ e. record { none = λ z. refl; all = λ z. absurd (z (eqb-true x 0 e)) }
      | false ↦ λ e. record { none = λ z. absurd (both_ways (x == 0) e (eq-eqb x 0 z)); all = λ z. refl }
    ] refl

size-less : (x n k : ℕ) → IsSize x n k → k ≤ n
size-less x n k s =
    elim (cases_Bool (x == 0)) [
      | inl e ↦ (let z = s.none (eqb-true x 0 e) in omega (arith, z))
      | inr e ↦ (let z = s.all (λ q. both_ways (x == 0) e (eq-eqb x 0 q)) in omega (arith, z))
    ]

size-null : (x n k : ℕ) → IsSize x n k → n ≡ 0 → k ≡ 0
size-null x n k s e = (let z = size-less x n k s in omega (arith, z, e))

null-is : (reach : Reach) (p : Places) (x : ℕ) → IsReached reach p x → is_null reach ≡ true → x ≡ 0
null-is (Number low high) p x r e = (let z = eqb-true high 0 e in omega (arith, z, r.1))
null-is (Place r low high) p x reached e = absurd (false≢true e)
null-is Anywhere p x r e = absurd (false≢true e)

not-null : (low high x : ℕ) → is_null (Number low high) ≡ false → may_be_null (Number low high) ≡ false → low ≤ x → x ≡ 0 → ⊥
not-null low high x null may below zero =
    elim (and_cases (low == 0) (not (high == 0)) may) [
      | inl e ↦ both_ways (low == 0) e (eq-eqb low 0 (omega (arith, below, zero)))
      | inr e ↦ both_ways (not (high == 0)) e (not_from_false (high == 0) null)
    ]

module _ {D : Type 0} (d : Values D) (l : IsLawful d) (image : Image) (p : Places) (o : ℤ) (s : Known D) (m : MachineState) (inside : All IsInUserSpace image.segments)
    (well : IsWellState d s) (describes : Describes d image s p m) (sum : pos m.registers.esp ≡ pos p.stack +ℤ o) where
  -- a path whose registers are those of the state, and whose parts describe the bytes c
  abbrev pub IsAt : Path D → (ℕ → ℕ) → Type 0
  IsAt q c = IsPathAt d image p m describes.fits inside s.regs q c

  -- a write goes on where the machine does
  abbrev pub Out : StoredPath D → (ℕ → ℕ) → Type 0
  Out x c = GoesTo d image p m describes.fits inside s.regs x c

  abbrev IsOverSpan : ℕ → ℕ → (ℕ → ℕ) → (ℕ → ℕ) → Type 0
  IsOverSpan x k b c = IsOver d image p m describes.fits inside s.regs x k b c

  abbrev K : StoredPath D → Type 0
  K x = KS d l image s.parts.blocks inside well.small x

  by-out : (reach : Reach) (n : ℕ) (q : Path D) (x k : ℕ) (b c : ℕ → ℕ) → K (Done, q) → IsAt q b → IsOverSpan x k b c → IsSize x n k → (n ≡ 0 → ⊥) → is_null reach ≡ false → may_be_null reach ≡ false → IsReached reach p x
      → Out (any_stored_by d image reach n q) c
  by-out (Number low high) n q x k b c keeps h w size some null may reached =
      let all : k ≡ n = size.all (not-null low high x null may reached.0) in
      among-out d image p m describes.fits inside s.regs q low ((high + n) - low) x k b c keeps.well.parts h w (omega (arith, all, some)) reached.0 (omega (arith, all, reached.0, reached.1))
  by-out (Place r low high) n q x k b c keeps h w size some null may reached =
      in-out d image p m describes.fits inside s.regs q r reached.base low high reached.offset n x k b c h w (size-less x n k size) reached.is reached.has_base reached.from_low reached.to_high
  by-out Anywhere n q x k b c keeps h w size some null may reached = tt

  any-out : (v : D) (n : ℕ) (q : Path D) (x k : ℕ) (b c : ℕ → ℕ) → K (Done, q) → IsAt q b → IsOverSpan x k b c → IsSize x n k → (n ≡ 0 → ⊥) → is_null (d.reach v) ≡ false → may_be_null (d.reach v) ≡ false → IsReached (d.reach v) p x
      → Out (any_stored d image v n q) c
  unfolding any_stored
  any-out v n q x k b c keeps h w size some null may reached = by-out (d.reach v) n q x k b c keeps h w size some null may reached

  at-out : (v : D) (n : ℕ) (q : Path D) (x k : ℕ) (b c : ℕ → ℕ) → K (Done, q) → IsAt q b → IsOverSpan x k b c → IsSize x n k → d.stands v p x → Out (written_at d image v n q) c
  at-out v n q x k b c keeps h w size stands =
      let reached = l.reach_holds v p x describes.fits.valid stands in
      elim (n == 0 || is_null (d.reach v)) as (λ t. (n == 0 || is_null (d.reach v)) ≡ t → Out (cond t (Done, q) (cond (may_be_null (d.reach v)) (Stopped causes.Store, q) (any_stored d image v n q))) c) [
        | true ↦ λ e. nothing d image p m describes.fits inside s.regs q x k b c w (elim (or_cases (n == 0) (is_null (d.reach v)) e) [
          | inl z ↦ size-null x n k size (eqb-true n 0 z)
          | inr z ↦ size.none (null-is (d.reach v) p x reached z)
        ]) h
        | false ↦ λ e.
            let parts = or_parts (n == 0) (is_null (d.reach v)) e in
            elim (may_be_null (d.reach v)) as (λ t. may_be_null (d.reach v) ≡ t → Out (cond t (Stopped causes.Store, q) (any_stored d image v n q)) c) [
              | true ↦ λ f. tt
              | false ↦ λ f. any-out v n q x k b c keeps h w size (λ z. both_ways (n == 0) parts.0 (eq-eqb n 0 z)) parts.1 f reached
            ] refl
      ] refl

  -- an amount that is known is the machine's
  pub amount-is : (a : Amount) (n : ℕ) → amount_known d image o a s ≡ Some n → amount a m ≡ n
  amount-is (Fixed k) n e = cc
  amount-is (Argument i) n e = l.number_of_alone (argument_value d image o i s) n p (argument i m) describes.fits.valid e (word-stands d l image p o (4 + 4 * i) s m describes sum)

  known-out : (v : D) (a : Amount) (known : Option ℕ) (q : Path D) (x k : ℕ) (b c : ℕ → ℕ) → K (Done, q) → IsAt q b → IsOverSpan x k b c → IsSize x (amount a m) k → d.stands v p x → amount_known d image o a s ≡ known
      → Out (written d image v known q) c
  known-out v a (Some n) q x k b c keeps h w size stands e = at-out v n q x k b c keeps h w (subst (λ (z : ℕ). IsSize x z k) (amount-is a n e) size) stands
  known-out v a None q x k b c keeps h w size stands e =
      elim (is_null (d.reach v)) as (λ t. is_null (d.reach v) ≡ t → Out (cond t (Done, q) (Stopped causes.Store, q)) c) [
        | true ↦ λ f. nothing d image p m describes.fits inside s.regs q x k b c w (size.none (null-is (d.reach v) p x (l.reach_holds v p x describes.fits.valid stands) f)) h
        | false ↦ λ f. tt
      ] refl

  write-out : (x : StoredPath D) (w : StubWrite) (b c : ℕ → ℕ) → K x → Out x b → may_write_span m (span_of m w) ≡ true → ((y : ℕ) → (IsInSpan y (span_of m w) → ⊥) → c y ≡ b y) → Out (with_write d image o s x w) c
  write-out (Done, q) w b c keeps h may stays =
      let x = argument w.arg m in
      let k = cond (x == 0) 0 (amount w.length m) in
      known-out (argument_value d image o w.arg s) w.length (amount_known d image o w.length s) q x k b c keeps h
      (record { stays = stays; may = λ y from to. all_in_range (may_write (memory m)) x k y may from to })
      (size-is x (amount w.length m)) (word-stands d l image p o (4 + 4 * w.arg) s m describes sum) refl
  write-out (Faults, q) w b c keeps h may stays = absurd h
  write-out (Stopped e, q) w b c keeps h may stays = tt

  last-out : (x : StoredPath D) (b c : ℕ → ℕ) → Out x b → ((y : ℕ) → c y ≡ b y) → Out x c
  last-out (Done, q) b c h same = same-at d image p m describes.fits inside s.regs q b c same h
  last-out (Faults, q) b c h same = absurd h
  last-out (Stopped e, q) b c h same = tt

  pub writes-out : (ws : List StubWrite) (x : StoredPath D) (b c : ℕ → ℕ) → K x → Out x b → list_all (may_write_span m) (map (span_of m) ws) ≡ true → ((y : ℕ) → (IsInOne y (map (span_of m) ws) → ⊥) → c y ≡ b y)
      → Out (fold (with_write d image o s) x ws) c
  writes-out [] x b c keeps h may stays = last-out x b c h (λ y. stays y (λ i. i))
  writes-out (w ∷ ws) x b c keeps h may stays =
      let span = span_of m w in
      let spans = map (span_of m) ws in
      let parts = and_parts (may_write_span m span) (list_all (may_write_span m) spans) may in
      let mid = over span b c in
      writes-out ws (with_write d image o s x w) mid c (with_write-keeps d l image s.parts.blocks inside well.small o s x w well refl keeps)
      (write-out x w b mid keeps h parts.0 (λ y off. over-off span b c y off)) parts.1 (over-rest span spans b c stays)
