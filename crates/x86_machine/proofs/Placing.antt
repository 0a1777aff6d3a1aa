-- Segments mapped one after another.
use Rattle.std.proofs.Common.{◌≡◌, ℕ, ◌+◌, ◌%◌, ◌<◌, Bool, true, false, cond, Option, Some, Result, Err, List, [], ◌∷◌, ◌++◌, drop, get_or, length, map, take, refl, sym, ◌∙◌, ap, subst, arith}
use Rattle.std.specs.Prelude.{◌==◌, not, position}
use Rattle.std.specs.List.{list_all}
use Rattle.std.specs.Option.{option_map}
use Rattle.std.proofs.lemmas.Bool.{and_from, eq-eqb, le-leb, ne_eqb}
use Rattle.std.proofs.lemmas.List.{append_assoc, drop_more, get_or-map, length-map, map-append, take-append-drop}
use Rattle.std.proofs.lemmas.List.Elements.{All-get_or}
use Rattle.memory_map.specs.declared.segment.Segment.{Segment}
use Rattle.memory_map.specs.Map.{HasSome, IsMap, all_apart, is_in_user_space, range_of}
use Rattle.memory_map.specs.Range.{IsInUserSpace, Range, USER_END, USER_LOW, end_of}
use Rattle.memory_map.specs.declared.registers.Regs.{Regs}
use Rattle.memory_map.specs.Image.{Image, has_exit_word}
use Rattle.memory_map.specs.State.{Flags, MachineState, memory}
use Rattle.memory_map.proofs.Lists.{all_apart-cons, all_apart-nil}
use Rattle.statement_lang.specs.Filling.{bytes_of_fills, status_of, with_filled}
use Rattle.statement_lang.specs.Indexed.{is_clear}
use Rattle.x86_machine.specs.declared.start_fault.StartFault.{StartFault}
use Rattle.x86_machine.specs.declared.start_fault.StartFault.TheVariants.{Align, Fill, Overlap, Window}
use Rattle.x86_machine.specs.declared.start_file.StartFile.{StartFile}
use Rattle.x86_machine.specs.Started.{bare_state, base_window, exit_word, is_free_fill, stack_pointer, stack_window, start_fault, start_state, started, state_unless, stated_registers, unset_zeros, windows, with_fills, zero_window}
use Rattle.x86_machine.proofs.Apart.{apart_more, front_apart, not_apart, zeros_size}
use Rattle.x86_machine.proofs.Enumerated.{fold-append}
use Rattle.x86_machine.proofs.Filled.{fills_each}

-- ---- a segment of an image

pub record IsMappable (r : Range) : Type 0 where
  pub some : 0 < length r.bytes
  pub inside : is_in_user_space r ≡ true

pub mappable : (r : Range) → 0 < length r.bytes → IsInUserSpace r → IsMappable r
mappable r some user =
    record { some = some; inside = and_from _ _ (le-leb USER_LOW r.low user.above) (le-leb (end_of r) USER_END user.below) }

pub segment_mappable : (list : List Segment) (i : ℕ) (s : Segment) → IsMap (map range_of list) → i < length list → s ≡ get_or list i s → IsMappable (range_of s)
segment_mappable list i s is_map within is =
    let long : length (map range_of list) ≡ length list = length-map list range_of in
    let within' : i < length (map range_of list) = omega (arith, within, long) in
    let same : get_or (map range_of list) i (range_of s) ≡ range_of s = get_or-map range_of list i s (range_of s) within ∙ ap range_of (sym is) in
    subst IsMappable same
    (mappable (get_or (map range_of list) i (range_of s)) (All-get_or HasSome (map range_of list) i (range_of s) within' is_map.some) (All-get_or IsInUserSpace (map range_of list) i (range_of s) within' is_map.inside))

-- all segments, the one at a place among them
segments_at : (list : List Segment) (i : ℕ) (s : Segment) → i < length list → s ≡ get_or list i s → map range_of list ≡ map range_of (take i list) ++ range_of s ∷ map range_of (drop (i + 1) list)
segments_at list i s within is =
    ap (map range_of) (sym (take-append-drop i list) ∙ ap (λ l. take i list ++ l) (drop_more list i s within ∙ ap (λ x. x ∷ drop (i + 1) list) (sym is)))
    ∙ map-append range_of (take i list) (s ∷ drop (i + 1) list)

-- one shares an address with what is mapped before it
pub segment_shares : (start : List Range) (list : List Segment) (i : ℕ) (s : Segment) → i < length list → s ≡ get_or list i s
    → list_all (is_clear (range_of s).low (end_of (range_of s))) (start ++ map range_of (take i list)) ≡ false
    → all_apart (start ++ map range_of list) ≡ false
segment_shares start list i s within is shares =
    ap (λ l. all_apart (start ++ l)) (segments_at list i s within is)
    ∙ ap all_apart (sym (append_assoc start (map range_of (take i list)) (range_of s ∷ map range_of (drop (i + 1) list))))
    ∙ not_apart (start ++ map range_of (take i list)) (map range_of (drop (i + 1) list)) (range_of s) shares

-- ---- windows

pub window_mappable : (below above base : ℕ) → 0 < below + above → IsInUserSpace (zero_window below above base) → IsMappable (zero_window below above base)
window_mappable below above base some user =
    let size = zeros_size (below + above) in
    mappable (zero_window below above base) (omega (arith, some, size)) user

pub one_apart : (r : Range) → all_apart (r ∷ []) ≡ true
one_apart r = all_apart-cons r [] ∙ all_apart-nil

-- ---- the state with the stack window alone, with the segments, and with the window of fs

module _ (image : Image) (s : StartFile) where
  abbrev pub empty_state : MachineState
  empty_state = record (bare_state image s) { ranges = [] }

  abbrev pub with_image : MachineState
  with_image = record empty_state { ranges = image.segments }

  abbrev pub with_fs : MachineState
  with_fs = record empty_state { ranges = image.segments ++ base_window s.fs ∷ [] }

  pub new_state : (m : MachineState) (registers : Regs ℕ) (eip : ℕ) (flags : Flags) (stack : Range)
      → m ≡ record { registers = registers; eip = eip; flags = flags; fs = s.fs; gs = s.gs; stack = stack; ranges = [] }
      → registers ≡ stated_registers s.regs → eip ≡ image.entry → flags ≡ status_of (record { 0 = s.flags }) → stack ≡ stack_window s
      → m ≡ empty_state
  new_state m registers eip flags stack is is_registers is_eip is_flags is_stack =
      is
      ∙ ap (λ (g : Regs ℕ). record { registers = g; eip = eip; flags = flags; fs = s.fs; gs = s.gs; stack = stack; ranges = [] }) is_registers
      ∙ ap (λ (e : ℕ). record empty_state { eip = e; flags = flags; stack = stack }) is_eip
      ∙ ap (λ (f : Flags). record empty_state { flags = f; stack = stack }) is_flags
      ∙ ap (λ (r : Range). record empty_state { stack = r }) is_stack

  pub segments_placed : (m n : MachineState) (list : List Segment) → m ≡ empty_state → map range_of list ≡ image.segments → n ≡ record m { ranges = m.ranges ++ map range_of list } → n ≡ with_image
  segments_placed m n list start same is =
      is ∙ ap (λ (x : MachineState). record x { ranges = x.ranges ++ map range_of list }) start ∙ ap (λ (l : List Range). record empty_state { ranges = l }) same

  pub fs_placed : (m n : MachineState) (r : Range) → m ≡ with_image → r ≡ base_window s.fs → n ≡ record m { ranges = m.ranges ++ r ∷ [] } → n ≡ with_fs
  fs_placed m n r start same is =
      is ∙ ap (λ (x : MachineState). record x { ranges = x.ranges ++ r ∷ [] }) start ∙ ap (λ (x : Range). record empty_state { ranges = image.segments ++ x ∷ [] }) same

  pub gs_placed : (m n : MachineState) (r : Range) → m ≡ with_fs → r ≡ base_window s.gs → n ≡ record m { ranges = m.ranges ++ r ∷ [] } → n ≡ bare_state image s
  gs_placed m n r start same is =
      is
      ∙ ap (λ (x : MachineState). record x { ranges = x.ranges ++ r ∷ [] }) start
      ∙ ap (λ (x : Range). record empty_state { ranges = (image.segments ++ base_window s.fs ∷ []) ++ x ∷ [] }) same
      ∙ ap (λ (l : List Range). record empty_state { ranges = l }) (append_assoc image.segments (base_window s.fs ∷ []) (base_window s.gs ∷ []))

  pub segments_share : (m : MachineState) (list : List Segment) → m ≡ empty_state → map range_of list ≡ image.segments → all_apart (memory m ++ map range_of list) ≡ false → all_apart (memory (bare_state image s)) ≡ false
  segments_share m list start same off =
      front_apart (stack_window s ∷ image.segments) (base_window s.fs ∷ base_window s.gs ∷ [])
      (sym (ap (λ (x : MachineState). all_apart (memory x ++ map range_of list)) start ∙ ap (λ l. all_apart (stack_window s ∷ l)) same) ∙ off)

  pub fs_shares : (m : MachineState) (r : Range) → m ≡ with_image → r ≡ base_window s.fs → list_all (is_clear r.low (end_of r)) (memory m) ≡ false → all_apart (memory (bare_state image s)) ≡ false
  fs_shares m r start same off =
      not_apart (stack_window s ∷ image.segments) (base_window s.gs ∷ []) (base_window s.fs)
      (sym (ap (λ (x : MachineState). list_all (is_clear r.low (end_of r)) (memory x)) start ∙ ap (λ (x : Range). list_all (is_clear x.low (end_of x)) (memory with_image)) same) ∙ off)

  pub gs_shares : (m : MachineState) (r : Range) → m ≡ with_fs → r ≡ base_window s.gs → list_all (is_clear r.low (end_of r)) (memory m) ≡ false → all_apart (memory (bare_state image s)) ≡ false
  gs_shares m r start same off =
      ap (λ l. all_apart (stack_window s ∷ l)) (sym (append_assoc image.segments (base_window s.fs ∷ []) (base_window s.gs ∷ [])))
      ∙ not_apart (stack_window s ∷ (image.segments ++ base_window s.fs ∷ [])) [] (base_window s.gs)
      (sym (ap (λ (x : MachineState). list_all (is_clear r.low (end_of r)) (memory x)) start ∙ ap (λ (x : Range). list_all (is_clear x.low (end_of x)) (memory with_fs)) same) ∙ off)

  pub more_apart : (m n : MachineState) (r : Range) → n ≡ record m { ranges = m.ranges ++ r ∷ [] } → all_apart (memory m) ≡ true → list_all (is_clear r.low (end_of r)) (memory m) ≡ true → all_apart (memory n) ≡ true
  more_apart m n r is apart clear = ap (λ (x : MachineState). all_apart (memory x)) is ∙ apart_more (memory m) r apart clear

  -- ---- the first fault, and none

  abbrev fault_by : Bool → Bool → Bool → Option ℕ → Result MachineState StartFault
  fault_by a b c p =
      state_unless (cond (not a) (Some Align) (cond (not b) (Some Window) (cond (not c) (Some Overlap) (option_map (λ index. Fill index) p)))) (start_state image s)

  by_tests : (a b c : Bool) (p : Option ℕ) → (stack_pointer s % image.align == 0) ≡ a → list_all is_in_user_space (windows s) ≡ b → all_apart (memory (bare_state image s)) ≡ c
      → position (λ f. not (is_free_fill image s f)) s.fill ≡ p
      → started image s ≡ fault_by a b c p
  unfolding start_fault
  by_tests a b c p is_a is_b is_c is_p =
      ap (λ x. fault_by x (list_all is_in_user_space (windows s)) (all_apart (memory (bare_state image s))) (position (λ f. not (is_free_fill image s f)) s.fill)) is_a
      ∙ ap (λ x. fault_by a x (all_apart (memory (bare_state image s))) (position (λ f. not (is_free_fill image s f)) s.fill)) is_b
      ∙ ap (λ x. fault_by a b x (position (λ f. not (is_free_fill image s f)) s.fill)) is_c
      ∙ ap (fault_by a b c) is_p

  pub off_align : (stack_pointer s % image.align ≡ 0 → ⊥) → started image s ≡ Err Align
  off_align off = by_tests false _ _ _ (ne_eqb (stack_pointer s % image.align) 0 off) refl refl refl

  pub windows_leave : stack_pointer s % image.align ≡ 0 → list_all is_in_user_space (windows s) ≡ false → started image s ≡ Err Window
  windows_leave aligned off = by_tests true false _ _ (eq-eqb (stack_pointer s % image.align) 0 aligned) off refl refl

  pub windows_share : stack_pointer s % image.align ≡ 0 → list_all is_in_user_space (windows s) ≡ true → all_apart (memory (bare_state image s)) ≡ false → started image s ≡ Err Overlap
  windows_share aligned lie off = by_tests true true false _ (eq-eqb (stack_pointer s % image.align) 0 aligned) lie off refl

  pub filled_as : (p : Option ℕ) → stack_pointer s % image.align ≡ 0 → list_all is_in_user_space (windows s) ≡ true → all_apart (memory (bare_state image s)) ≡ true
      → position (λ f. not (is_free_fill image s f)) s.fill ≡ p
      → started image s ≡ fault_by true true true p
  filled_as p aligned lie apart is = by_tests true true true p (eq-eqb (stack_pointer s % image.align) 0 aligned) lie apart is

  kept_registers : (list : List (ℕ × ℕ)) (m : MachineState) → (with_fills list m).registers ≡ m.registers
  kept_registers list m = ap (λ (x : MachineState). x.registers) (fills_each list m)

  pub filled_state : (m0 m1 m2 m3 : MachineState) → m0 ≡ bare_state image s → m1 ≡ with_fills (unset_zeros image.unset) m0 → m2 ≡ with_fills (bytes_of_fills s.fill) m1
      → m3 ≡ with_fills (exit_word (has_exit_word image) m2.registers.esp) m2
      → start_state image s ≡ m3
  unfolding start_state
  filled_state m0 m1 m2 m3 is0 is1 is2 is3 =
      let fill : MachineState → ℕ × ℕ → MachineState = λ n at. with_filled at.0 at.1 n in
      let unset = unset_zeros image.unset in
      let fills = bytes_of_fills s.fill in
      let word = exit_word (has_exit_word image) (stack_pointer s) in
      let second : m1 ≡ with_fills unset (bare_state image s) = is1 ∙ ap (with_fills unset) is0 in
      let third : m2 ≡ with_fills fills (with_fills unset (bare_state image s)) = is2 ∙ ap (with_fills fills) second in
      let kept : m2.registers ≡ stated_registers s.regs =
      ap (λ (x : MachineState). x.registers) third ∙ kept_registers fills (with_fills unset (bare_state image s)) ∙ kept_registers unset (bare_state image s) in
      let last : m3 ≡ with_fills word (with_fills fills (with_fills unset (bare_state image s))) =
      is3 ∙ ap (λ (g : Regs ℕ). with_fills (exit_word (has_exit_word image) g.esp) m2) kept ∙ ap (with_fills word) third in
      fold-append fill (bare_state image s) unset (fills ++ word)
      ∙ fold-append fill (with_fills unset (bare_state image s)) fills word
      ∙ sym last
