-- An answer on what is still to be read, carried back over the bytes before it.
use Rattle.std.proofs.Common.{◌≡◌, ℕ, suc, zero, ◌+◌, ◌-◌, ◌≤◌, ◌<◌, List, [], ◌∷◌, ◌++◌, inl, inr, Bool, true, false, length, take, drop, refl, sym, ◌∙◌, ap, Option, Some, None, Result, Ok, Err, arith, cond, append_assoc, length-append}
use Rattle.std.proofs.lemmas.List.{length-take}
use Rattle.std.proofs.lemmas.Bool.{cases_lt, leb-true, leb-false}
use Rattle.std.proofs.Math.Seq.{take-length}
use Rattle.std.specs.Prelude.{IfOk, IfErr, nat_le}
use Rattle.std.specs.Result.{result_ok}
use Rattle.x86_syntax.specs.declared.instr.Instr.{Instr}
use Rattle.x86_syntax.specs.Spelling.{spelled, no_prefixes}
use Rattle.x86_syntax.specs.Decodes.{Decodes, HasSpelling, decoded}
use Rattle.x86_syntax.proofs.SpellingLemmas.{prefix_law}
use Rattle.x86_syntax.proofs.DecodesLemmas.{take-split, decodes_computes, decoded_finds, decodes_spelling, none_decoded}
use Rattle.x86_decoder.specs.declared.fault.DecodeFault.{DecodeFault}
use Rattle.x86_decoder.specs.declared.fault.DecodeFault.TheVariants.{NotListed, Truncated, TooLong}
use Rattle.x86_decoder.specs.Refusals.{IsFront, Refused}
use Rattle.x86_decoder.specs.Reading.{Begins, Leaves, Reads, ReadsOrDead, Needs, fault_at}
use Rattle.x86_decoder.proofs.Fronts.{Further, further_of, goes_on_by}

begins_byte : (lang next : List ℕ → Option Instr) (b : ℕ) (bytes : List ℕ) → ((s : List ℕ) → lang (b ∷ s) ≡ next s) → Begins next bytes → Begins lang (b ∷ bytes)
begins_byte lang next b bytes step h = record { rest = h.rest; are_bytes = h.are_bytes; more = h.more; names = h.names; whole = step (bytes ++ h.rest) ∙ h.whole }

-- an answer behind a byte is one before it
pub reads_byte : (lang next : List ℕ → Option Instr) (b : ℕ) (bytes : List ℕ) (at : ℕ) (r : Result (Instr × ℕ) DecodeFault) → ((s : List ℕ) → lang (b ∷ s) ≡ next s) → Reads next bytes (at + 1) r → Reads lang (b ∷ bytes) at r
reads_byte lang next b bytes at (Ok p) step h = record { size = suc h.size; total = omega (arith, h.total); within = omega (arith, h.within); names = step (take h.size bytes) ∙ h.names }
reads_byte lang next b bytes at (Err (NotListed index)) step h = record {
  size = suc h.size;
  total = omega (arith, h.total);
  within = omega (arith, h.within);
  before = begins_byte lang next b (take h.size bytes) step h.before;
  none = λ x. step (take (suc h.size) bytes ++ x) ∙ h.none x;
}
reads_byte lang next b bytes at (Err Truncated) step h = record {
  begins = record { rest = h.begins.rest; are_bytes = h.begins.are_bytes; more = h.begins.more; names = h.begins.names; whole = step (bytes ++ h.begins.rest) ∙ h.begins.whole };
  short = omega (arith, h.short);
}
reads_byte lang next b bytes at (Err TooLong) step h = record {
  begins = begins_byte lang next b bytes step h.begins;
  long = λ x i whole. omega (arith, h.long x i (sym (step (bytes ++ x)) ∙ whole));
}

-- where some string goes on, a byte with which none does is not listed
pub reads_or_dead : (lang next : List ℕ → Option Instr) (b : ℕ) (bytes : List ℕ) (at : ℕ) (r : Result (Instr × ℕ) DecodeFault) → ((s : List ℕ) → lang (b ∷ s) ≡ next s) → Begins lang [] → ReadsOrDead next bytes (at + 1) r → Reads lang (b ∷ bytes) at r
reads_or_dead lang next b bytes at r step alive (inl h) = reads_byte lang next b bytes at r step h
reads_or_dead lang next b bytes at (Err (NotListed index)) step alive (inr h) = record {
  size = 0;
  total = omega (arith, h.0);
  within = omega arith;
  before = alive;
  none = λ x. step x ∙ h.1 x;
}
reads_or_dead lang next b bytes at (Err Truncated) step alive (inr h) = absurd h
reads_or_dead lang next b bytes at (Err TooLong) step alive (inr h) = absurd h
reads_or_dead lang next b bytes at (Ok p) step alive (inr h) = absurd h

-- where the bytes end
pub needs_reads : (lang : List ℕ → Option Instr) (bytes : List ℕ) (at need : ℕ) → Needs lang bytes need → Reads lang bytes at (Err (fault_at (at + need)))
needs_reads lang bytes at need h =
    let P : Bool → Type 0 = λ t. nat_le (at + need) 15 ≡ t → Reads lang bytes at (Err (cond t Truncated TooLong)) in
    (elim (nat_le (at + need) 15) as P [
      | true ↦ λ e. record { begins = h.begins; short = omega (arith, leb-true (at + need) 15 e, h.size) }
      | false ↦ λ e. record { begins = h.begins; long = λ x i whole. omega (arith, leb-false (at + need) 15 e, h.least x i whole) }
    ]) refl

-- a front of a front
take-take-le : (k m : ℕ) (xs : List ℕ) → k ≤ m → take k (take m xs) ≡ take k xs
take-take-le zero m xs le = refl
take-take-le (suc k) zero xs le = absurd (omega arith)
take-take-le (suc k) (suc m) [] le = refl
take-take-le (suc k) (suc m) (x ∷ xs) le = ap (λ ys. x ∷ ys) (take-take-le k m xs (omega arith))

-- a front of m bytes goes on from its own front of k bytes
goes_on : (k m : ℕ) (xs rest : List ℕ) → k ≤ m → take k xs ++ (drop k (take m xs) ++ rest) ≡ take m xs ++ rest
goes_on k m xs rest le = sym (append_assoc (take k xs) (drop k (take m xs)) rest) ∙ ap (λ ys. ys ++ rest) (sym (take-split k m xs le))

-- no front of what begins a longer spelling is a spelling
no_shorter : (k m : ℕ) (bytes : List ℕ) (i : Instr) → k ≤ m → Begins spelled (take m bytes) → spelled (take k bytes) ≡ Some i → ⊥
no_shorter k m bytes i le begins names =
    let rest = drop k (take m bytes) ++ begins.rest in
    let whole : spelled (take k bytes ++ rest) ≡ Some begins.names = rw (goes_on k m bytes begins.rest le) begins.whole in
    let none : rest ≡ [] = prefix_law no_prefixes (take k bytes) rest i begins.names names whole in
    absurd (omega (arith, ap length none, length-append (drop k (take m bytes)) begins.rest, begins.more))

-- the first 15 bytes have no other front of at most 15 than all bytes have
front_names : (bytes : List ℕ) (i : Instr) (n : ℕ) → Decodes bytes i n → spelled (take n (take 15 bytes)) ≡ Some i
front_names bytes i n d = rw (take-take-le n 15 bytes d.short) d.names

front_within : (bytes : List ℕ) (i : Instr) (n : ℕ) → Decodes bytes i n → n ≤ length (take 15 bytes)
front_within bytes i n d = omega (arith, length-take 15 bytes, d.short, d.within)

-- nothing stands at the front where the first 15 bytes go on
begins_none : (bytes : List ℕ) → Begins spelled (take 15 bytes) → (i : Instr) (n : ℕ) → Decodes bytes i n → ⊥
begins_none bytes h i n d =
    let front = take 15 bytes in
    let begins : Begins spelled (take (length front) front) = rw (take-length front) h in
    no_shorter n (length front) front i (front_within bytes i n d) begins (front_names bytes i n d)

leaves_none : (bytes : List ℕ) (index : ℕ) → Leaves spelled (take 15 bytes) 0 index → (i : Instr) (n : ℕ) → Decodes bytes i n → ⊥
leaves_none bytes index h i n d =
    let front = take 15 bytes in
    elim (cases_lt n (suc h.size)) [
      | (inl lt) ↦ no_shorter n h.size front i (omega arith) h.before (front_names bytes i n d)
      | (inr ge) ↦
          let none : spelled (take n front) ≡ None = rw (take-split (suc h.size) n front ge) (h.none (drop (suc h.size) (take n front))) in
          let names : spelled (take n front) ≡ Some i = front_names bytes i n d in
          cc
    ]

-- an answer on the first 15 bytes is exact
pub reads_exact : (bytes : List ℕ) (r : Result (Instr × ℕ) DecodeFault) → Reads spelled (take 15 bytes) 0 r → result_ok r ≡ decoded bytes
reads_exact bytes (Ok p) h =
    let same : p.1 ≡ h.size = omega (arith, h.total) in
    let short : h.size ≤ 15 = omega (arith, h.within, length-take 15 bytes) in
    let d : Decodes bytes p.0 h.size = record { within = omega (arith, h.within, length-take 15 bytes); short = short; names = rw (sym (take-take-le h.size 15 bytes short)) h.names } in
    let e : Decodes bytes p.0 p.1 = rw same d in
    sym (decodes_computes bytes p.0 p.1 e)
reads_exact bytes (Err (NotListed index)) h = sym (none_decoded bytes (leaves_none bytes index h))
reads_exact bytes (Err Truncated) h = sym (none_decoded bytes (begins_none bytes h.begins))
reads_exact bytes (Err TooLong) h = sym (none_decoded bytes (begins_none bytes h.begins))

pub reads_found : (bytes : List ℕ) (r : Result (Instr × ℕ) DecodeFault) → Reads spelled (take 15 bytes) 0 r → IfOk r (λ p. Decodes bytes p.0 p.1)
reads_found bytes (Ok p) h = decoded_finds bytes p.0 p.1 (sym (reads_exact bytes (Ok p) h))
reads_found bytes (Err fault) h = tt

pub reads_spelling : (bytes : List ℕ) (r : Result (Instr × ℕ) DecodeFault) → Reads spelled (take 15 bytes) 0 r → IfOk r (λ p. HasSpelling p.0 p.1)
reads_spelling bytes (Ok p) h = decodes_spelling bytes p.0 p.1 (reads_found bytes (Ok p) h)
reads_spelling bytes (Err fault) h = tt

leaves_front : (front : List ℕ) (index : ℕ) (h : Leaves spelled front 0 index) → (k : ℕ) → k ≤ h.size → IsFront (take k front)
leaves_front front index h k le = (drop k (take h.size front) ++ h.before.rest, (h.before.names, rw (goes_on k h.size front h.before.rest le) h.before.whole))

-- fewer than 15 bytes are all of them
take-all : (k : ℕ) (xs : List ℕ) → length xs ≤ k → take k xs ≡ xs
take-all zero [] le = refl
take-all zero (x ∷ xs) le = absurd (omega arith)
take-all (suc k) [] le = refl
take-all (suc k) (x ∷ xs) le = ap (λ ys. x ∷ ys) (take-all k xs (omega arith))

short_front : (bytes : List ℕ) → length bytes < 15 → take 15 bytes ≡ bytes
short_front bytes few = take-all 15 bytes (omega arith)

pub reads_refused : (bytes : List ℕ) (r : Result (Instr × ℕ) DecodeFault) → Reads spelled (take 15 bytes) 0 r → IfErr r (λ fault. Refused fault bytes)
reads_refused bytes (Ok p) h = tt
reads_refused bytes (Err (NotListed index)) h =
    let front = take 15 bytes in
    record {
      within = omega (arith, h.total, h.within);
      before = λ k lt. leaves_front front index h (k + 1) (omega (arith, h.total));
      there = λ rest.
          let count : index + 1 ≡ suc h.size = omega (arith, h.total) in
          let same : take (index + 1) front ≡ take (suc h.size) front = ap (λ k. take k front) count in
          let named : spelled (take (suc h.size) front ++ rest.0) ≡ Some rest.1.0 = rw (sym same) rest.1.1 in
          let none : spelled (take (suc h.size) front ++ rest.0) ≡ None = h.none rest.0 in
          cc;
    }
reads_refused bytes (Err Truncated) h =
    let few : length bytes < 15 = omega (arith, h.short, h.begins.more, length-take 15 bytes) in
    let same : take 15 bytes ≡ bytes = short_front bytes few in
    goes_on_by (15 - length bytes) bytes h.begins.rest h.begins.names h.begins.more (omega (arith, h.short, ap length same)) h.begins.are_bytes (rw (sym same) h.begins.whole)
reads_refused bytes (Err TooLong) h = (
  (h.begins.rest, (h.begins.names, h.begins.whole)),
  λ on.
      let more : Further (15 - length bytes) bytes = further_of (15 - length bytes) bytes on in
      let few : length bytes < 15 = omega (arith, more.short, more.more) in
      absurd (omega (arith, more.short, ap length (short_front bytes few), h.long more.rest more.names (rw (short_front bytes few) more.whole))),
)
