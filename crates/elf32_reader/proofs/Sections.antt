-- Entries of a dynamic section, from the front on.
use Rattle.std.proofs.Common.{ℕ, suc, ◌≡◌, ◌≢◌, ◌+◌, ◌-◌, ◌*◌, ◌<◌, List, Some, cond, sym, ap, ◌∙◌, arith, add-one}
use Rattle.std.specs.Prelude.{◌==◌}
use Rattle.std.proofs.lemmas.Bool.{ne_eqb, eq-eqb}
use Rattle.memory_map.specs.FileBytes.{word_at}
use Rattle.elf32_reader.specs.Fields.{d_tag, d_val}
use Rattle.elf32_reader.specs.Dynamic.{entry_count, no_tables, tables_at, value_of}

pub entry_count_none : (file : List ℕ) (at most : ℕ) → most ≡ 0 → entry_count file at most ≡ 0
unfolding entry_count
entry_count_none file at most h = ap (entry_count file at) h

count-suc : (file : List ℕ) (at most m : ℕ) → most ≡ suc m → entry_count file at most ≡ cond (word_at file at == 0) 0 (1 + entry_count file (at + 8) m)
unfolding entry_count
count-suc file at most m h = ap (entry_count file at) h

pub entry_count_stop : (file : List ℕ) (at most i : ℕ) → i < most → word_at file (at + 8 * i) ≡ 0 → entry_count file (at + 8 * i) (most - i) ≡ 0
entry_count_stop file at most i lt h =
    let e : most - i ≡ suc (most - (i + 1)) = omega (arith, lt) in
    count-suc file (at + 8 * i) (most - i) (most - (i + 1)) e ∙ ap (λ t. cond t 0 (1 + entry_count file (at + 8 * i + 8) (most - (i + 1)))) (eq-eqb (word_at file (at + 8 * i)) 0 h)

pub entry_count_next : (file : List ℕ) (at most i : ℕ) → i < most → word_at file (at + 8 * i) ≢ 0 → entry_count file (at + 8 * i) (most - i) ≡ 1 + entry_count file (at + 8 * (i + 1)) (most - (i + 1))
entry_count_next file at most i lt h =
    let e : most - i ≡ suc (most - (i + 1)) = omega (arith, lt) in
    let next : at + 8 * i + 8 ≡ at + 8 * (i + 1) = omega arith in
    count-suc file (at + 8 * i) (most - i) (most - (i + 1)) e
    ∙ ap (λ t. cond t 0 (1 + entry_count file (at + 8 * i + 8) (most - (i + 1)))) (ne_eqb (word_at file (at + 8 * i)) 0 h)
    ∙ ap (λ a. 1 + entry_count file a (most - (i + 1))) next

pub entry_count_end : (file : List ℕ) (at most i : ℕ) → most - i ≡ 0 → entry_count file (at + 8 * i) (most - i) ≡ 0
entry_count_end file at most i h = entry_count_none file (at + 8 * i) (most - i) h

pub value_of_more : (file : List ℕ) (at tag i : ℕ) → value_of file at tag (i + 1) ≡ cond (d_tag file at i == tag) (Some (d_val file at i)) (value_of file at tag i)
unfolding value_of
value_of_more file at tag i = ap (value_of file at tag) (add-one i)

-- no entries give no tables
pub tables_none : (file : List ℕ) (at n : ℕ) → n ≡ 0 → no_tables ≡ tables_at file at n
unfolding value_of
tables_none file at n h = ap (tables_at file at) (sym h)
