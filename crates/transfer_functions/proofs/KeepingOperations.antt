-- The expansion of every instruction keeps states well.
use Rattle.std.proofs.Common.{◌≡◌, ℕ, ◌<◌, ◌^◌, true, List, [], refl}
use Rattle.std.specs.Prelude.{⊤, All, Contains}
use Rattle.std.proofs.lemmas.Bool.{and_parts}
use Rattle.address_regions.specs.Places.{Places}
use Rattle.bit_words.specs.Width.{bits_of}
use Rattle.domain_laws.specs.Laws.{Values, IsLawful}
use Rattle.memory_map.specs.Image.{Image}
use Rattle.memory_map.specs.Range.{HasBytes, IsInUserSpace}
use Rattle.partitioned_memory.specs.declared.fact.Counted.{Counted}
use Rattle.x86_syntax.specs.declared.instr.Instr.{Instr}
use Rattle.x86_semantics.specs.declared.operation.Operation.{Operation}
use Rattle.x86_semantics.specs.declared.operation.Operation.TheVariants.{Combine, Carry, Compare, Move, Convert, Lea, Exchange, Shift, MultiplyLong, Multiply, Divide, Jump, Goto, Loop, JumpIfNoCount, Call, Return, Push, Pop, Leave, Set, MoveIf, Flag, LoadStatus, StoreStatus, Element, Nothing, Stop, DoubleShift, TestBit, FindBit, CompareExchange, ExchangeAdd}
use Rattle.x86_semantics.specs.Operations.{operation_of}
use Rattle.x86_semantics.specs.Widths.{fits_width, has_own_widths, has_place, has_width, is_count, is_place, width_of}
use Rattle.x86_semantics.proofs.Spelled.{spelled_widths}
use Rattle.abstract_state.specs.Expanding.{Path, starts}
use Rattle.abstract_state.specs.Laws.{RefiningKeepsWell}
use Rattle.abstract_state.specs.State.{AreSmall, IsWellState, Known}
use Rattle.abstract_state.proofs.BridgeKeeping.{store_keeps}
use Rattle.transfer_functions.specs.Post.{expand_instr, expand_operation}
use Rattle.transfer_functions.proofs.Keeping.{IsWellPath, KeepsWell, StoresKeep, ended_keeps, lands_keeps}
use Rattle.transfer_functions.proofs.KeepingExchanges.{compare_exchange_keeps, exchange_add_keeps, find_bit_keeps, test_bit_keeps}
use Rattle.transfer_functions.proofs.KeepingPaths.{call_keeps, convert_keeps, exchange_keeps, goto_keeps, jump_if_no_count_keeps, jump_keeps, lea_keeps, leave_keeps, loop_keeps, move_if_keeps, move_keeps, pop_keeps, push_keeps, return_keeps, set_keeps, string_keeps}
use Rattle.transfer_functions.proofs.KeepingShapes.{carry_keeps, change_flag_keeps, combine_keeps, compare_keeps, divide_keeps, double_shift_keeps, load_status_keeps, multiply_keeps, multiply_long_keeps, shift_keeps, store_status_keeps}
use Rattle.transfer_functions.proofs.OwnRules.{IsOwn, operations_own}

-- the numbers of an operation are words of their widths
abbrev pub HasNumbers : Operation → Type 0
HasNumbers (Convert op w to from by) = by < 2 ^ bits_of w
HasNumbers (Return extra) = extra < 2 ^ 32
HasNumbers operation = ⊤

module _ {D : Type 0} (d : Values D) (l : IsLawful d) (image : Image) (p : Places) (blocks : List Counted) where
  own_numbers : (operation : Operation) → IsOwn d l image p blocks operation → HasNumbers operation
  own_numbers (Convert op w to from by) own = own
  own_numbers (Return extra) own = own
  own_numbers operation own = tt

-- some places, of which nothing is said
some_places : Places
some_places = record { align = 4; stack = 0; fs = 0; gs = 0; blocks = [] }

module _ {D : Type 0} (d : Values D) (l : IsLawful d) (image : Image) (blocks : List Counted) (bytes : All HasBytes image.segments) (stores : StoresKeep d l image blocks) where
  operation_keeps : (k : ℕ) (operation : Operation) (at n : ℕ) (q : Path D) → RefiningKeepsWell d → has_own_widths operation ≡ true → HasNumbers operation → IsWellPath d l image blocks q
      → KeepsWell d l image blocks (expand_operation d image k operation at n q)
  unfolding has_own_widths
  operation_keeps k (Combine op rule w to from) at n q keeps widths own h =
      let parts = and_parts (has_place w to) (has_width w from) widths in
      combine_keeps d l image blocks bytes stores op rule w to from _ q parts.0 parts.1 h
  operation_keeps k (Carry op rule w to from) at n q keeps widths own h =
      let parts = and_parts (has_place w to) (has_width w from) widths in
      carry_keeps d l image blocks bytes stores op rule w to from _ q parts.0 parts.1 h
  operation_keeps k (Compare op rule w left right) at n q keeps widths own h =
      let parts = and_parts (has_width w left) (has_width w right) widths in
      compare_keeps d l image blocks bytes stores op rule w left right _ q parts.0 parts.1 h
  operation_keeps k (Move to from) at n q keeps widths own h =
      let parts = and_parts (is_place to) (fits_width (width_of to) from) widths in
      move_keeps d l image blocks bytes stores to from _ q parts.0 parts.1 h
  operation_keeps k (Convert op w to from by) at n q keeps widths own h =
      let parts = and_parts (has_place w to) (fits_width w from) widths in
      convert_keeps d l image blocks bytes stores op w to from by _ q own parts.0 parts.1 h
  operation_keeps k (Lea to address) at n q keeps widths own h = lea_keeps d l image blocks bytes stores to address _ q widths h
  operation_keeps k (Exchange place w r) at n q keeps widths own h = exchange_keeps d l image blocks bytes stores place w r _ q widths h
  operation_keeps k (Shift op rule w to count) at n q keeps widths own h =
      let parts = and_parts (has_place w to) (is_count count) widths in
      shift_keeps d l image blocks bytes stores op rule w to count _ q parts.0 parts.1 h
  operation_keeps k (DoubleShift op other rule w to r count) at n q keeps widths own h =
      let parts = and_parts (has_place w to) (is_count count) widths in
      double_shift_keeps d l image blocks bytes stores op other rule w to r count _ q parts.0 parts.1 h
  operation_keeps k (TestBit change w r index) at n q keeps widths own h = test_bit_keeps d l image blocks bytes stores change w r index _ q widths h
  operation_keeps k (FindBit op w r from) at n q keeps widths own h = find_bit_keeps d l image blocks bytes stores op w r from _ q widths h
  operation_keeps k (CompareExchange place w r) at n q keeps widths own h = compare_exchange_keeps d l image blocks bytes stores place w r _ q widths h
  operation_keeps k (ExchangeAdd place w r) at n q keeps widths own h = exchange_add_keeps d l image blocks bytes stores place w r _ q widths h
  operation_keeps k (MultiplyLong high rule w from) at n q keeps widths own h = multiply_long_keeps d l image blocks bytes stores high rule w from _ q widths h
  operation_keeps k (Multiply w r left right) at n q keeps widths own h =
      let parts = and_parts (has_width w left) (has_width w right) widths in
      multiply_keeps d l image blocks bytes stores w r left right _ q parts.0 parts.1 h
  operation_keeps k (Divide signed w by) at n q keeps widths own h = divide_keeps d l image blocks bytes stores signed w by _ q widths h
  operation_keeps k (Jump c offset) at n q keeps widths own h = jump_keeps d l image blocks bytes stores k c offset at n q keeps h
  operation_keeps k (Goto target) at n q keeps widths own h = goto_keeps d l image blocks bytes stores target at n q widths h
  operation_keeps k (Loop kind offset) at n q keeps widths own h = loop_keeps d l image blocks bytes stores kind offset at n q h
  operation_keeps k (JumpIfNoCount offset) at n q keeps widths own h = jump_if_no_count_keeps d l image blocks bytes stores offset at n q h
  operation_keeps k (Call target) at n q keeps widths own h = call_keeps d l image blocks bytes stores target at n q widths h
  operation_keeps k (Return extra) at n q keeps widths own h = return_keeps d l image blocks bytes stores extra q own h
  operation_keeps k (Push from) at n q keeps widths own h = push_keeps d l image blocks bytes stores from _ q widths h
  operation_keeps k (Pop to) at n q keeps widths own h = pop_keeps d l image blocks bytes stores to _ q widths h
  operation_keeps k Leave at n q keeps widths own h = leave_keeps d l image blocks bytes stores _ q h
  operation_keeps k (Set c to) at n q keeps widths own h = set_keeps d l image blocks bytes stores c to _ q widths h
  operation_keeps k (MoveIf c to from) at n q keeps widths own h =
      let parts = and_parts (is_place to) (has_width (width_of to) from) widths in
      move_if_keeps d l image blocks bytes stores c to from _ q parts.0 parts.1 h
  operation_keeps k (Flag change) at n q keeps widths own h = change_flag_keeps d l image blocks bytes stores change _ q h
  operation_keeps k LoadStatus at n q keeps widths own h = load_status_keeps d l image blocks bytes stores _ q h
  operation_keeps k StoreStatus at n q keeps widths own h = store_status_keeps d l image blocks bytes stores _ q h
  operation_keeps k (Element kind w seg repeat) at n q keeps widths own h = string_keeps d l image blocks bytes stores kind w seg repeat _ at q h
  operation_keeps k Nothing at n q keeps widths own h = lands_keeps d l image blocks _ q h
  operation_keeps k (Stop kind) at n q keeps widths own h = ended_keeps d l image blocks q.writes

module _ {D : Type 0} (d : Values D) (l : IsLawful d) (image : Image) (bytes : All HasBytes image.segments) (inside : All IsInUserSpace image.segments) where
  stores_keep : (blocks : List Counted) → AreSmall blocks → StoresKeep d l image blocks
  stores_keep blocks small q r w v u counted holds h e =
      let k = store_keeps d image blocks inside small q r w v u counted holds h.well h.blocks_same e in record { well = k.0; blocks_same = k.1 }

  -- each next state of a well state is well
  pub instructions_keep_well : (k : ℕ) (i : Instr) (at n : ℕ) (s : Known D) (pair : ℕ × Known D) → RefiningKeepsWell d → IsWellState d s → Contains (expand_instr d image k i at n s).next pair → IsWellState d pair.1
  unfolding expand_instr
  instructions_keep_well k i at n s pair keeps well held =
      let blocks = s.parts.blocks in
      let next = operation_keeps d l image blocks bytes (stores_keep blocks well.small) k (operation_of i) at n (starts s) keeps (spelled_widths i)
      (own_numbers d l image some_places blocks (operation_of i) (operations_own d l image some_places blocks i))
      (record { well = well; blocks_same = refl }) pair held in
      next.well
