-- The segments of a demo image, and what is found in them.
use Rattle.std.proofs.Common.{ℕ, ◌≡◌, ◌+◌, ◌-◌, ◌≤◌, ◌<◌, true, false, cond, not, List, [], ◌∷◌, ◌++◌, length, length-append, map, take, drop, replicate, append_assoc, append-nil, Some, None, filter, find, refl, sym, ap, ap₂, ◌∙◌, arith, le-leb, le-ltb, ne_eqb}
use Rattle.std.specs.Prelude.{◌==◌, nat_le, nat_lt, slice_range}
use Rattle.std.proofs.lemmas.Bool.{lt-leb}
use Rattle.std.proofs.Math.Bool.{and-false}
use Rattle.std.proofs.Math.Seq.{take-append_seam, drop-append_seam}
use Rattle.memory_map.specs.Range.{Range, USER_END, holds}
use Rattle.memory_map.specs.Map.{map_fault, MAPPED_LIMIT, all_apart, total_size}
use Rattle.memory_map.proofs.Faults.{map_fault-none}
use Rattle.demo_images.specs.Elf.{CODE}
use Rattle.demo_images.specs.Tables.{TABLES}
use Rattle.file_pieces.specs.Found.{is_in_one, bytes_at, rest_at}
use Rattle.file_pieces.specs.Layout.{layout, range_of_piece, range_with, bytes_of}
use Rattle.file_pieces.proofs.Lookups.{bytes_at-found, rest_at-found}
use Rattle.elf32_reader.specs.Headers.{bias_of, headers, is_load}
use Rattle.elf32_reader.specs.Segments.{piece_of, segments}
use Rattle.elf32_reader.specs.declared.program_header.ProgramHeader.{ProgramHeader}
use Rattle.demo_loading.proofs.Fields.{front, length_front, demo_tables, length_tables, code_header, tables_header, headers_are, has_fields}

-- code that ends before the tables begin
abbrev pub MOST_CODE : ℕ
MOST_CODE = 0xFB8000

take_all_of : (xs : List ℕ) (n : ℕ) → n ≡ length xs → take n (xs ++ []) ≡ xs
take_all_of xs n e = rw e (take-append_seam xs [])

-- a part of a list between two others
between : (before part after : List ℕ) (from to : ℕ) → from ≡ length before → to ≡ length before + length part → slice_range (before ++ (part ++ after)) from to ≡ part
between before part after from to e f =
    let size : to - from ≡ length part = omega arith in
    let dropped : drop from (before ++ (part ++ after)) ≡ part ++ after = rw e (drop-append_seam before (part ++ after)) in
    rw (dropped, size) (take-append_seam part after)

-- nothing comes behind file bytes that are all of a segment
unpadded : (part : List ℕ) (n : ℕ) → part ++ replicate (n - n) 0 ≡ part
unpadded part n = let e : n - n ≡ 0 = omega arith in rw e (append-nil part)

module _ (code : List ℕ) where
  abbrev pub code_range : Range
  code_range = record { low = CODE; bytes = code; write = false; execute = true }

  abbrev pub tables_range : Range
  tables_range = record { low = TABLES; bytes = demo_tables; write = true; execute = false }

  abbrev pub demo_ranges : List Range
  demo_ranges = code_range ∷ tables_range ∷ []

  abbrev pub demo_file : List ℕ
  demo_file = front (length code) ++ (code ++ demo_tables)

  pub length_file : length demo_file ≡ 262 + length code
  length_file =
      let a = length-append (front (length code)) (code ++ demo_tables) in
      let b = length-append code demo_tables in
      let c = length_front (length code) in
      let d = length_tables in
      omega (arith, a, b, c, d)

  code_bytes : slice_range demo_file 148 (148 + length code) ≡ code
  code_bytes = between (front (length code)) code demo_tables 148 (148 + length code) (sym (length_front (length code))) (let e = length_front (length code) in omega (arith, e))

  tables_bytes : slice_range demo_file (148 + length code) (148 + length code + 114) ≡ demo_tables
  tables_bytes =
      let before = front (length code) ++ code in
      let a = length-append (front (length code)) code in
      let b = length_front (length code) in
      let c = length_tables in
      let same : demo_file ≡ before ++ (demo_tables ++ []) = rw append-nil (sym (append_assoc (front (length code)) code demo_tables)) in
      rw same (between before demo_tables [] (148 + length code) (148 + length code + 114) (omega (arith, a, b)) (omega (arith, a, b, c)))

  -- what program headers map
  abbrev mapped_by : ℕ → List ProgramHeader → List Range
  mapped_by bias list = layout demo_file (map (piece_of bias) (filter is_load list))

  module _ (some : 0 < length code) (short : length code ≤ MOST_CODE) where
    pub segments_are : segments demo_file ≡ demo_ranges
    segments_are =
        let kind = (has_fields (length code) (code ++ demo_tables)).kind in
        let bias : bias_of demo_file ≡ 0 = rw kind refl in
        let list = headers_are (length code) (code ++ demo_tables) (omega arith) in
        let filled : (length code == 0) ≡ false = ne_eqb (length code) 0 (λ e. omega (arith, e)) in
        let first = piece_of 0 (code_header (length code)) in
        let second = piece_of 0 (tables_header (148 + length code)) in
        let same_code : bytes_of demo_file first ≡ code = ap (λ x. x ++ replicate (length code - length code) 0) code_bytes ∙ unpadded code (length code) in
        let same_tables : bytes_of demo_file second ≡ demo_tables = ap (λ x. x ++ []) tables_bytes ∙ append-nil demo_tables in
        ap (λ b. mapped_by b (headers demo_file)) bias
        ∙ ap (mapped_by 0) list
        ∙ ap (λ t. map (range_of_piece demo_file) (cond (not t) (first ∷ second ∷ []) (second ∷ []))) filled
        ∙ ap₂ (λ x y. range_with x first ∷ range_with y second ∷ []) same_code same_tables

    pub map_fault_is : map_fault demo_ranges ≡ None
    unfolding all_apart
    map_fault_is =
        let t = length_tables in
        let a : nat_le (CODE + length code) USER_END ≡ true = le-leb (CODE + length code) USER_END (omega arith) in
        let b : nat_le (TABLES + length demo_tables) USER_END ≡ true = le-leb (TABLES + length demo_tables) USER_END (omega arith) in
        let c : nat_le (CODE + length code) TABLES ≡ true = le-leb (CODE + length code) TABLES (omega arith) in
        let d : nat_lt MAPPED_LIMIT (total_size demo_ranges) ≡ false = le-ltb MAPPED_LIMIT (total_size demo_ranges) (omega arith) in
        map_fault-none demo_ranges (rw (a, b) refl) (rw c refl) d

    -- addresses of the tables are found there
    not_in_code : (a n : ℕ) → TABLES ≤ a → 0 < n → holds a n code_range ≡ false
    not_in_code a n low more = let e : nat_le (a + n) (CODE + length code) ≡ false = lt-leb (a + n) (CODE + length code) (omega arith) in rw e (and-false (nat_le CODE a))

    in_tables : (a n : ℕ) → TABLES ≤ a → a + n ≤ TABLES + 114 → holds a n tables_range ≡ true
    in_tables a n low below =
        let t = length_tables in
        let e : nat_le TABLES a ≡ true = le-leb TABLES a low in
        let f : nat_le (a + n) (TABLES + length demo_tables) ≡ true = le-leb (a + n) (TABLES + length demo_tables) (omega arith) in
        rw (e, f) refl

    pub found_there : (a n : ℕ) → TABLES ≤ a → 0 < n → a + n ≤ TABLES + 114 → find (holds a n) demo_ranges ≡ Some tables_range
    found_there a n low more below = let e = not_in_code a n low more in let f = in_tables a n low below in rw (e, f) refl

    pub in_one : (a n : ℕ) → TABLES ≤ a → 0 < n → a + n ≤ TABLES + 114 → is_in_one demo_ranges a n ≡ true
    in_one a n low more below =
        let e = not_in_code a n low more in
        let f = in_tables a n low below in
        let g : (n == 0) ≡ false = ne_eqb n 0 (λ e. omega (arith, e)) in
        rw (e, f, g) refl

    pub bytes_there : (a n : ℕ) → TABLES ≤ a → 0 < n → a + n ≤ TABLES + 114 → bytes_at demo_ranges a n ≡ Some (take n (drop (a - TABLES) demo_tables))
    bytes_there a n low more below = bytes_at-found demo_ranges a n tables_range (λ e. omega (arith, e)) (found_there a n low more below)

    pub rest_there : (a : ℕ) → TABLES ≤ a → a + 1 ≤ TABLES + 114 → rest_at demo_ranges a ≡ drop (a - TABLES) demo_tables
    rest_there a low below = rest_at-found demo_ranges a tables_range (found_there a 1 low (omega arith) below)
