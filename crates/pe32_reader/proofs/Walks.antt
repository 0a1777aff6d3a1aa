-- The front of a table of entries, and a step for each of them.
use Rattle.std.proofs.Common.{ℕ, zero, suc, ◌≡◌, ◌≢◌, ◌+◌, cond, List, Option, Some, None, Result, Ok, Err, refl, sym, ap, ◌∙◌, arith}
use Rattle.std.specs.Prelude.{◌==◌}
use Rattle.std.specs.Option.{option_map}
use Rattle.std.proofs.lemmas.Bool.{ne_eqb}
use Rattle.memory_map.specs.FileBytes.{word_at}
use Rattle.memory_map.specs.Range.{Range}
use Rattle.file_pieces.specs.Found.{bytes_at}
use Rattle.pe_headers.specs.Headers.{address_from}
use Rattle.pe_headers.specs.declared.fault.PeFault.{PeFault}
use Rattle.pe_headers.specs.declared.fault.PeFault.TheVariants.{Imports}
use Rattle.pe32_reader.specs.declared.descriptor.Descriptor.{Descriptor}
use Rattle.pe32_reader.specs.Imports.{Entries, ended, broken, entry, entry_before, each_entry, and_then, descriptors, descriptor_of, descriptor_step, Thunk, thunk_of, thunks, Imported, imports_of, nothing, MOST_DESCRIPTORS}

module _ {X S : Type 0} (step : X → S → Result S PeFault) (table : Entries X) (state : S) where
  pub each-broken : table ≡ broken → each_entry step table state ≡ Err Imports
  each-broken h = ap (λ t. each_entry step t state) h

  pub each-ended : table ≡ ended → each_entry step table state ≡ Ok state
  each-ended h = ap (λ t. each_entry step t state) h

  pub each-goes : (x : X) (rest : Entries X) (next : S) → table ≡ entry x rest → step x state ≡ Ok next → each_entry step table state ≡ each_entry step rest next
  each-goes x rest next h k = ap (λ t. each_entry step t state) h ∙ ap (λ r. and_then r (λ n. each_entry step rest n)) k

  pub each-fails : (x : X) (rest : Entries X) (fault : PeFault) → table ≡ entry x rest → step x state ≡ Err fault → each_entry step table state ≡ Err fault
  each-fails x rest fault h k = ap (λ t. each_entry step t state) h ∙ ap (λ r. and_then r (λ n. each_entry step rest n)) k

-- what is read at the front of thunk words
thunk-none : (o : Option (List ℕ)) (slot : ℕ) (rest : Entries Thunk) → option_map (λ bytes. word_at bytes 0) o ≡ None → entry_before (option_map (thunk_of slot) o) rest ≡ broken
thunk-none None slot rest h = refl
thunk-none (Some bytes) slot rest h = cc

thunk-zero : (o : Option (List ℕ)) (slot : ℕ) (rest : Entries Thunk) (w : ℕ) → option_map (λ bytes. word_at bytes 0) o ≡ Some w → w ≡ 0 → entry_before (option_map (thunk_of slot) o) rest ≡ ended
thunk-zero None slot rest w h z = cc
thunk-zero (Some bytes) slot rest w h z =
    let e : word_at bytes 0 ≡ 0 = cc in
    ap (λ n. entry_before (Some (cond (n == 0) None (Some (record { word = n; slot = slot })))) rest) e

thunk-word : (o : Option (List ℕ)) (slot : ℕ) (rest : Entries Thunk) (w : ℕ) → option_map (λ bytes. word_at bytes 0) o ≡ Some w → w ≢ 0 → entry_before (option_map (thunk_of slot) o) rest ≡ entry (record { word = w; slot = slot }) rest
thunk-word None slot rest w h z = cc
thunk-word (Some bytes) slot rest w h z =
    let e : word_at bytes 0 ≡ w = cc in
    ap (λ n. entry_before (Some (cond (n == 0) None (Some (record { word = n; slot = slot })))) rest) e
    ∙ ap (λ t. entry_before (Some (cond t None (Some (record { word = w; slot = slot })))) rest) (ne_eqb w 0 z)

pub thunks-none : (ranges : List Range) (n at slot : ℕ) → None ≡ option_map (λ bytes. word_at bytes 0) (bytes_at ranges at 4) → thunks ranges n at slot ≡ broken
unfolding thunks
thunks-none ranges zero at slot h = refl
thunks-none ranges (suc n) at slot h = thunk-none (bytes_at ranges at 4) slot (thunks ranges n (at + 4) (slot + 4)) (sym h)

pub thunks-zero : (ranges : List Range) (n m at slot w : ℕ) → n ≡ m + 1 → Some w ≡ option_map (λ bytes. word_at bytes 0) (bytes_at ranges at 4) → w ≡ 0 → thunks ranges n at slot ≡ ended
unfolding thunks
thunks-zero ranges zero m at slot w e h z = absurd (omega (arith, e))
thunks-zero ranges (suc n) m at slot w e h z = thunk-zero (bytes_at ranges at 4) slot (thunks ranges n (at + 4) (slot + 4)) w (sym h) z

pub thunks-word : (ranges : List Range) (n m at slot w : ℕ) → n ≡ m + 1 → Some w ≡ option_map (λ bytes. word_at bytes 0) (bytes_at ranges at 4) → w ≢ 0 → thunks ranges n at slot ≡ entry (record { word = w; slot = slot }) (thunks ranges m (at + 4) (slot + 4))
unfolding thunks
thunks-word ranges zero m at slot w e h z = absurd (omega (arith, e))
thunks-word ranges (suc n) m at slot w e h z =
    let same : n ≡ m = omega (arith, e) in
    thunk-word (bytes_at ranges at 4) slot (thunks ranges n (at + 4) (slot + 4)) w (sym h) z
    ∙ ap (λ k. entry (record { word = w; slot = slot }) (thunks ranges k (at + 4) (slot + 4))) same

pub thunks-over : (ranges : List Range) (n at slot : ℕ) → n ≡ 0 → thunks ranges n at slot ≡ broken
unfolding thunks
thunks-over ranges n at slot h = ap (λ k. thunks ranges k at slot) h

pub descriptors-none : (ranges : List Range) (n at : ℕ) → None ≡ option_map descriptor_of (bytes_at ranges at 20) → descriptors ranges n at ≡ broken
unfolding descriptors
descriptors-none ranges zero at h = refl
descriptors-none ranges (suc n) at h = ap (λ o. entry_before o (descriptors ranges n (at + 20))) (sym h)

pub descriptors-end : (ranges : List Range) (n m at : ℕ) → n ≡ m + 1 → Some None ≡ option_map descriptor_of (bytes_at ranges at 20) → descriptors ranges n at ≡ ended
unfolding descriptors
descriptors-end ranges zero m at e h = absurd (omega (arith, e))
descriptors-end ranges (suc n) m at e h = ap (λ o. entry_before o (descriptors ranges n (at + 20))) (sym h)

pub descriptors-next : (ranges : List Range) (n m at : ℕ) (d : Descriptor) → n ≡ m + 1 → Some (Some d) ≡ option_map descriptor_of (bytes_at ranges at 20) → descriptors ranges n at ≡ entry d (descriptors ranges m (at + 20))
unfolding descriptors
descriptors-next ranges zero m at d e h = absurd (omega (arith, e))
descriptors-next ranges (suc n) m at d e h =
    let same : n ≡ m = omega (arith, e) in
    ap (λ o. entry_before o (descriptors ranges n (at + 20))) (sym h)
    ∙ ap (λ k. entry d (descriptors ranges k (at + 20))) same

pub descriptors-over : (ranges : List Range) (n at : ℕ) → n ≡ 0 → descriptors ranges n at ≡ broken
unfolding descriptors
descriptors-over ranges n at h = ap (λ k. descriptors ranges k at) h

module _ (ranges : List Range) (base : ℕ) where
  pub imports_of-none : (directory : Option ℕ) → directory ≡ None → imports_of ranges base directory ≡ Ok nothing
  unfolding imports_of
  imports_of-none directory h = ap (imports_of ranges base) h

  pub imports_of-some : (directory : Option ℕ) (rva at : ℕ) (state : Imported) (r : Result Imported PeFault) → directory ≡ Some rva → at ≡ address_from base rva → state ≡ nothing
      → each_entry (descriptor_step ranges base) (descriptors ranges MOST_DESCRIPTORS at) state ≡ r → imports_of ranges base directory ≡ r
  unfolding imports_of
  imports_of-some directory rva at state r h k l walk =
      ap (imports_of ranges base) h
      ∙ ap (λ a. each_entry (descriptor_step ranges base) (descriptors ranges MOST_DESCRIPTORS a) nothing) (sym k)
      ∙ ap (λ s. each_entry (descriptor_step ranges base) (descriptors ranges MOST_DESCRIPTORS at) s) (sym l)
      ∙ walk
