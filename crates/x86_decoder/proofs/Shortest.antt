-- The shortest strings of the sets behind an opcode.
use Rattle.std.proofs.Common.{◌≡◌, ℕ, suc, zero, ◌+◌, ◌-◌, ◌*◌, ◌≤◌, ◌<◌, List, [], ◌∷◌, ◌++◌, Bool, true, false, length, take, drop, refl, sym, ◌∙◌, ap, Option, Some, Result, arith, cond, length-append, append_assoc, replicate}
use Rattle.std.proofs.lemmas.List.{length-take-le, length-replicate}
use Rattle.std.proofs.lemmas.List.Elements.{All-cons, All-nil}
use Rattle.std.specs.Prelude.{◌==◌, All}
use Rattle.x86_syntax.specs.declared.instr.Instr.{Instr}
use Rattle.x86_syntax.specs.declared.instr.Place.{Place}
use Rattle.x86_syntax.specs.declared.prefixes.Prefixes.{Prefixes}
use Rattle.x86_syntax.specs.declared.table.Row.{Row}
use Rattle.x86_syntax.specs.Formats.{Format, Whole, Byte, matched, number_then, little_endian}
use Rattle.x86_syntax.specs.Spelling.{rm_of, displacement_size, index_register, address_then, ending, row_number_size, instr_of}
use Rattle.x86_decoder.specs.declared.fault.DecodeFault.{DecodeFault}
use Rattle.x86_decoder.specs.Reading.{Ends, Reads, Needs}
use Rattle.x86_decoder.proofs.Readings.{reads_byte}

-- the shortest strings of the set have k bytes
pub record Shortest (lang : List ℕ → Option Instr) (k : ℕ) : Type 0 where
  pub string : List ℕ
  pub are_bytes : All (λ b. b < 256) string
  pub size : length string ≡ k
  pub names : Instr
  pub whole : lang string ≡ Some names
  pub least : (x : List ℕ) (i : Instr) → lang x ≡ Some i → k ≤ length x

pub shortest_needs : (lang : List ℕ → Option Instr) (k : ℕ) → 0 < k → Shortest lang k → Needs lang [] k
shortest_needs lang k some h = record {
  begins = record { rest = h.string; are_bytes = h.are_bytes; more = omega (arith, h.size); names = h.names; whole = h.whole };
  size = omega (arith, h.size);
  least = λ x i whole. omega (arith, h.least x i whole);
}

-- numbers

pub number_step : {A : Type 0} (n : ℕ) (go : ℕ → Format A) (bytes : List ℕ) → n ≤ length bytes → matched (number_then n go) bytes ≡ matched (go (little_endian (take n bytes))) (drop n bytes)
unfolding matched
number_step zero go bytes le = refl
number_step (suc n) go [] le = absurd (omega arith)
number_step (suc n) go (b ∷ bytes) le = number_step n (λ high. go (b + 256 * high)) bytes (omega arith)

number_long : {A : Type 0} (n : ℕ) (go : ℕ → Format A) (bytes : List ℕ) (a : A) → matched (number_then n go) bytes ≡ Some a → n ≤ length bytes
unfolding matched
number_long zero go bytes a h = omega arith
number_long (suc n) go [] a h = cc
number_long (suc n) go (b ∷ bytes) a h = omega (arith, number_long n (λ high. go (b + 256 * high)) bytes a h)

length_drop : (n : ℕ) (bytes : List ℕ) → n ≤ length bytes → length (drop n bytes) + n ≡ length bytes
length_drop zero bytes le = omega arith
length_drop (suc n) [] le = absurd (omega arith)
length_drop (suc n) (b ∷ bytes) le = omega (arith, length_drop n bytes (omega arith))

-- some string of the set is at least as long as n and a string of what follows
number_least : (n k : ℕ) (go : ℕ → Format Instr) → ((v : ℕ) (x : List ℕ) (i : Instr) → matched (go v) x ≡ Some i → k ≤ length x) → (x : List ℕ) (i : Instr) → matched (number_then n go) x ≡ Some i → n + k ≤ length x
number_least n k go least x i h =
    let long = number_long n go x i h in
    omega (arith, least (little_endian (take n x)) (drop n x) i (sym (number_step n go x long) ∙ h), length_drop n x long)

take_front : (n : ℕ) (xs ys : List ℕ) → length xs ≡ n → take n (xs ++ ys) ≡ xs
take_front zero [] ys e = refl
take_front zero (x ∷ xs) ys e = absurd (omega arith)
take_front (suc n) [] ys e = absurd (omega arith)
take_front (suc n) (x ∷ xs) ys e = ap (λ zs. x ∷ zs) (take_front n xs ys (omega arith))

drop_front : (n : ℕ) (xs ys : List ℕ) → length xs ≡ n → drop n (xs ++ ys) ≡ ys
drop_front zero [] ys e = refl
drop_front zero (x ∷ xs) ys e = absurd (omega arith)
drop_front (suc n) [] ys e = absurd (omega arith)
drop_front (suc n) (x ∷ xs) ys e = drop_front n xs ys (omega arith)

number_joined : (n : ℕ) (go : ℕ → Format Instr) (xs ys : List ℕ) → length xs ≡ n → matched (number_then n go) (xs ++ ys) ≡ matched (go (little_endian xs)) ys
number_joined n go xs ys e =
    let step = number_step n go (xs ++ ys) (omega (arith, length-append xs ys)) in
    rw (take_front n xs ys e, drop_front n xs ys e) at step

-- zeros before bytes are bytes
bytes_behind_zeros : (n : ℕ) (string : List ℕ) → All (λ b. b < 256) string → All (λ b. b < 256) (replicate n 0 ++ string)
bytes_behind_zeros zero string small = small
bytes_behind_zeros (suc n) string small = All-cons (λ b. b < 256) 0 (replicate n 0 ++ string) (omega arith) (bytes_behind_zeros n string small)

pub number_shortest : (n k : ℕ) (go : ℕ → Format Instr) → ((v : ℕ) → Shortest (matched (go v)) k) → Shortest (matched (number_then n go)) (n + k)
number_shortest n k go each =
    let zeros = replicate n 0 in
    let size : length zeros ≡ n = length-replicate {A = ℕ} n 0 in
    let s = each (little_endian zeros) in
    record {
      string = zeros ++ s.string;
      are_bytes = bytes_behind_zeros n s.string s.are_bytes;
      size = omega (arith, length-append zeros s.string, s.size);
      names = s.names;
      whole = number_joined n go zeros s.string size ∙ s.whole;
      least = number_least n k go (λ v. (each v).least);
    }

-- the bytes end in the number
pub number_needs : (n k : ℕ) (go : ℕ → Format Instr) (bytes : List ℕ) → length bytes < n → ((v : ℕ) → Shortest (matched (go v)) k) → Needs (matched (number_then n go)) bytes (n + k)
number_needs n k go bytes few each =
    let zeros = replicate (n - length bytes) 0 in
    let count : length zeros ≡ n - length bytes = length-replicate {A = ℕ} (n - length bytes) 0 in
    let s = each (little_endian (bytes ++ zeros)) in
    let size : length (bytes ++ zeros) ≡ n = omega (arith, length-append bytes zeros) in
    record {
      begins = record {
        rest = zeros ++ s.string;
        are_bytes = bytes_behind_zeros (n - length bytes) s.string s.are_bytes;
        more = omega (arith, length-append zeros s.string);
        names = s.names;
        whole = ap (matched (number_then n go)) (sym (append_assoc bytes zeros s.string)) ∙ number_joined n go (bytes ++ zeros) s.string size ∙ s.whole;
      };
      size = omega (arith, length-append zeros s.string, s.size);
      least = λ x i h. omega (arith, number_least n k go (λ v. (each v).least) (bytes ++ x) i h, length-append bytes x);
    }

-- an answer behind a number is one before it
pub reads_number : (n : ℕ) (go : ℕ → Format Instr) (bytes : List ℕ) (at : ℕ) (r : Result (Instr × ℕ) DecodeFault) → n ≤ length bytes → Reads (matched (go (little_endian (take n bytes)))) (drop n bytes) (at + n) r → Reads (matched (number_then n go)) bytes at r
unfolding matched
reads_number zero go bytes at r le h = (let same : at + 0 ≡ at = omega arith in rw same at h)
reads_number (suc n) go [] at r le h = absurd (omega arith)
reads_number (suc n) go (b ∷ bytes) at r le h =
    let same : at + suc n ≡ (at + 1) + n = omega arith in
    reads_byte (matched (number_then (suc n) go)) (matched (number_then n (λ high. go (b + 256 * high)))) b bytes at r (λ s. refl)
    (reads_number n (λ high. go (b + 256 * high)) bytes (at + 1) r (omega arith) (rw same at h))

-- what ends an instruction

whole_shortest : (i : Instr) → Shortest (matched (Whole i)) 0
unfolding matched
whole_shortest i = record { string = []; are_bytes = All-nil (λ b. b < 256); size = omega arith; names = i; whole = refl; least = λ x j h. omega arith }

pub ending_shortest : (p : Prefixes) (row : Row) (code modrm : ℕ) (place : Place) → Shortest (matched (ending p row code modrm place)) (row_number_size p row)
unfolding ending
ending_shortest p row code modrm place =
    let h = number_shortest (row_number_size p row) 0 _ (λ v. whole_shortest (instr_of p row (record { code = code; modrm = modrm; place = place; number = v }))) in
    let same : row_number_size p row + 0 ≡ row_number_size p row = omega arith in
    rw same at h

pub ending_needs : (p : Prefixes) (row : Row) (code modrm : ℕ) (place : Place) (bytes : List ℕ) → length bytes < row_number_size p row → Needs (matched (ending p row code modrm place)) bytes (row_number_size p row)
unfolding ending
ending_needs p row code modrm place bytes few =
    let h = number_needs (row_number_size p row) 0 _ bytes few (λ v. whole_shortest (instr_of p row (record { code = code; modrm = modrm; place = place; number = v }))) in
    let same : row_number_size p row + 0 ≡ row_number_size p row = omega arith in
    rw same at h

number_whole : {A : Type 0} (n : ℕ) (f : ℕ → A) (s : List ℕ) → length s ≡ n → matched (number_then n (λ v. Whole (f v))) s ≡ Some (f (little_endian s))
unfolding matched
number_whole zero f [] e = refl
number_whole zero f (b ∷ s) e = absurd (omega arith)
number_whole (suc n) f [] e = absurd (omega arith)
number_whole (suc n) f (b ∷ s) e = number_whole n (λ high. f (b + 256 * high)) s (omega arith)

pub ending_ends : (p : Prefixes) (row : Row) (code modrm : ℕ) (place : Place) (bytes : List ℕ) (at size : ℕ) (i : Instr) → size ≡ row_number_size p row → size ≤ length bytes
    → i ≡ instr_of p row (record { code = code; modrm = modrm; place = place; number = little_endian (take size bytes) }) → Ends (matched (ending p row code modrm place)) bytes at i (at + size)
unfolding ending matched
ending_ends p row code modrm place bytes at size i is_size enough is_i = record {
  size = size;
  total = refl;
  within = enough;
  names = rw is_i (rw is_size (number_whole (row_number_size p row) _ (take (row_number_size p row) bytes) (length-take-le (row_number_size p row) bytes (rw is_size at enough))));
}

-- addresses

pub address_shortest : (mode base k : ℕ) (index : Option (ℕ × ℕ)) (go : Place → Format Instr) → ((place : Place) → Shortest (matched (go place)) k) → Shortest (matched (address_then mode base index go)) (displacement_size mode base + k)
unfolding address_then
address_shortest mode base k index go each = number_shortest (displacement_size mode base) k _ (λ v. each _)

pub address_needs : (mode base k : ℕ) (index : Option (ℕ × ℕ)) (go : Place → Format Instr) (bytes : List ℕ) → length bytes < displacement_size mode base → ((place : Place) → Shortest (matched (go place)) k) → Needs (matched (address_then mode base index go)) bytes (displacement_size mode base + k)
unfolding address_then
address_needs mode base k index go bytes few each = number_needs (displacement_size mode base) k _ bytes few (λ v. each _)

-- a SIB byte whose base is 0 has the fewest bytes behind it
displacement_least : (mode base : ℕ) → displacement_size mode 0 ≤ displacement_size mode base
displacement_least mode base =
    let P : Bool → Type 0 = λ t. cond t 1 (cond (mode == 2) 4 0) ≤ cond t 1 (cond (mode == 2) 4 (cond (base == 5) 4 0)) in
    let Q : Bool → Type 0 = λ t. cond t 4 0 ≤ cond t 4 (cond (base == 5) 4 0) in
    elim (mode == 1) as P [ true ↦ omega arith | false ↦ (elim (mode == 2) as Q [ true ↦ omega arith | false ↦ omega arith ]) ]

sib_least : (mode k : ℕ) (go : Place → Format Instr) → ((place : Place) → Shortest (matched (go place)) k) → (x : List ℕ) (i : Instr) → matched (Byte (λ sib. address_then mode (rm_of sib) (index_register sib) go)) x ≡ Some i → 1 + (displacement_size mode 0 + k) ≤ length x
unfolding matched
sib_least mode k go each [] i h = cc
sib_least mode k go each (sib ∷ x) i h =
    omega (arith, (address_shortest mode (rm_of sib) k (index_register sib) go each).least x i h, displacement_least mode (rm_of sib))

pub sib_shortest : (mode k : ℕ) (go : Place → Format Instr) → ((place : Place) → Shortest (matched (go place)) k) → Shortest (matched (Byte (λ sib. address_then mode (rm_of sib) (index_register sib) go))) (1 + (displacement_size mode 0 + k))
unfolding matched
sib_shortest mode k go each =
    let s = address_shortest mode (rm_of 0) k (index_register 0) go each in
    record {
      string = 0 ∷ s.string;
      are_bytes = All-cons (λ b. b < 256) 0 s.string (omega arith) s.are_bytes;
      size = omega (arith, s.size);
      names = s.names;
      whole = s.whole;
      least = sib_least mode k go each;
    }
