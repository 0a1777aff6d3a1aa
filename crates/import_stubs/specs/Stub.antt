-- The expansion of a row at an import's place: what `import_semantics/specs/StubDoes` says of numbers, said of values.
use Rattle.std.specs.Prelude.{ℕ, ◌+◌, ◌*◌, Bool, true, false, not, ◌&&◌, ◌||◌, List, [], fold, Option, None, Some, nat_le, ◌==◌, ℤ, pos, ◌+ℤ◌, ◌-ℤ◌, if◌then◌else◌}
use Rattle.std.specs.Option.{option_map_or}
use Rattle.std.specs.Int.{w32, int_wrap}
use Rattle.std.specs.Ordering.{int_eq}
use Rattle.bit_words.specs.declared.width.Width.TheVariants.{B32}
use Rattle.bit_words.specs.Width.{cut}
use Rattle.memory_map.specs.Image.{Image, EXIT_PLACE, name_at}
use Rattle.address_regions.specs.declared.region.Region.{Region}
use Rattle.address_regions.specs.declared.region.Region.TheVariants as regions
use Rattle.domain_laws.specs.declared.reach.Reach.{Reach}
use Rattle.domain_laws.specs.declared.reach.Reach.TheVariants as reaches
use Rattle.domain_laws.specs.Laws.{Values}
use Rattle.partitioned_memory.specs.Held.{after_block, after_forgetting}
use Rattle.stub_file.specs.declared.stub.Amount.{Amount}
use Rattle.stub_file.specs.declared.stub.Amount.TheVariants.{Argument, Fixed}
use Rattle.stub_file.specs.declared.stub.Reply.{Reply}
use Rattle.stub_file.specs.declared.stub.Reply.TheVariants.{Anything, Block, Enter, Never, Number}
use Rattle.stub_file.specs.declared.stub.Stub.{Stub}
use Rattle.stub_file.specs.declared.stub.StubWrite.{StubWrite}
use Rattle.stub_file.specs.Stubs.{StatedStubs, stub_named}
use Rattle.import_semantics.specs.StubDoes.{LARGEST_BLOCK, block_size, frame_size}
use Rattle.flow_log.specs.declared.cause.Cause.TheVariants as causes
use Rattle.abstract_state.specs.declared.stored.Stored.TheVariants.{Done, Faults, Stopped}
use Rattle.abstract_state.specs.declared.truth.Truth.TheVariants.{No}
use Rattle.abstract_state.specs.Accessing.{StoredPath, after_store, any_stored, lies_in_extent, loaded_in, put_in}
use Rattle.abstract_state.specs.Expanding.{Expanded, Path, ended, joined, lands, starts, stopped}
use Rattle.abstract_state.specs.Flags.{unknown_flags}
use Rattle.abstract_state.specs.State.{Known, with_parts}

-- ---- where the stack pointer is

-- the offset in the stack of the one place that a value is; offsets wrap to 32 bits
abbrev pub offset_by : Region → ℤ → ℤ → Option ℤ
offset_by regions.Stack low high = if int_eq low high then Some (int_wrap w32 low) else None
offset_by _ low high = None

abbrev pub stack_offset : Reach → Option ℤ
stack_offset (reaches.Place r low high) = offset_by r low high
stack_offset _ = None

-- ---- pointers that may be 0

-- a value is the number 0
abbrev pub is_null : Reach → Bool
is_null (reaches.Number low high) = high == 0
is_null _ = false

-- a value is 0 or another number
abbrev pub may_be_null : Reach → Bool
may_be_null (reaches.Number low high) = low == 0 && not (high == 0)
may_be_null _ = false

module _ {D : Type 0} (d : Values D) (image : Image) where
  -- ---- the return address and the arguments, with the stack pointer at an offset

  abbrev pub word_above : ℤ → ℕ → Known D → D
  word_above o above s = loaded_in d image regions.Stack (o +ℤ pos above) B32 s

  abbrev pub return_value : ℤ → Known D → D
  return_value o s = word_above o 0 s

  abbrev pub argument_value : ℤ → ℕ → Known D → D
  argument_value o i s = word_above o (4 + 4 * i) s

  -- an amount, where it is known
  abbrev pub amount_known : ℤ → Amount → Known D → Option ℕ
  amount_known o (Fixed n) s = Some n
  amount_known o (Argument i) s = d.number_of (argument_value o i s)

  -- ---- writes

  -- so many bytes of which nothing is known, from a pointer on: none where it is 0
  abbrev pub written_at : D → ℕ → Path D → StoredPath D
  written_at pointer n p =
      if n == 0 || is_null (d.reach pointer) then (Done, p)
      else if may_be_null (d.reach pointer) then (Stopped causes.Store, p)
      else any_stored d image pointer n p

  -- a number of bytes that is not known
  abbrev pub written : D → Option ℕ → Path D → StoredPath D
  written pointer (Some n) p = written_at pointer n p
  written pointer None p = if is_null (d.reach pointer) then (Done, p) else (Stopped causes.Store, p)

  -- a write of a stub, by what is known in a state; a path that could not write stays as it is
  abbrev pub with_write : ℤ → Known D → StoredPath D → StubWrite → StoredPath D
  with_write o s (Done, p) w = written (argument_value o w.arg s) (amount_known o w.length s) p
  with_write o s (Faults, p) w = (Faults, p)
  with_write o s (Stopped c, p) w = (Stopped c, p)

  abbrev pub with_writes : ℤ → List StubWrite → Known D → StoredPath D
  with_writes o ws s = fold (with_write o s) (Done, starts s) ws

  -- ---- what is left free

  -- facts of the stack below the arguments' end go, ECX and EDX are any, nothing is known of the flags but that DF is clear
  abbrev pub freed : ℤ → Path D → Path D
  freed end p = record p {
    state = record {
      regs = record (p.state.regs) { ecx = d.any; edx = d.any };
      flags = unknown_flags No;
      note = None;
      parts = after_forgetting end p.state.parts;
    };
  }

  -- ---- replies

  -- the stack pointer at an offset, and a value in EAX
  abbrev pub with_result : ℤ → D → Path D → Path D
  with_result o v p =
      record p { state = record (p.state) { regs = record (p.state.regs) { eax = v; esp = d.place regions.Stack o } } }

  -- the place of a new block
  abbrev pub with_block : Region → Path D → Path D
  with_block r p = record p { state = with_parts (after_block r p.state.parts) p.state }

  -- a block of a size handed out at a return address: none that is larger than any block may be
  abbrev pub hands_out : ℤ → ℕ → ℕ → Bool → Path D → Expanded D
  hands_out top site size zeroed p =
      let r = regions.Block site size zeroed in
      if nat_le size LARGEST_BLOCK then lands site (with_result top (d.place r (pos 0)) (with_block r p)) else ended p.writes

  -- where the size is not known, nothing is known of the block
  abbrev pub returns_block : ℤ → ℕ → Option ℕ → Bool → Path D → Expanded D
  returns_block top site (Some n) zeroed p = hands_out top site (block_size n) zeroed p
  returns_block top site None zeroed p = lands site (with_result top d.any p)

  -- a call that may fail gives 0 then
  abbrev pub returns_null : ℤ → ℕ → Bool → Path D → Expanded D
  returns_null top site true p = lands site (with_result top (d.number 0) p)
  returns_null top site false p = ended p.writes

  -- back to the caller
  abbrev pub returns : ℤ → ℤ → Reply → ℕ → Known D → Path D → Expanded D
  returns o top Anything site s p = lands site (with_result top d.any p)
  returns o top (Number n) site s p = lands site (with_result top (d.number (cut B32 n)) p)
  returns o top (Block size zeroed may_fail) site s p =
      joined (returns_block top site (amount_known o size s) zeroed p) (returns_null top site may_fail p)
  returns o top Never site s p = ended p.writes
  returns o top (Enter i) site s p = ended p.writes

  abbrev pub returns_to : ℤ → ℤ → Reply → Option ℕ → Known D → Path D → Expanded D
  returns_to o top reply (Some site) s p = returns o top reply site s p
  returns_to o top reply None s p = stopped causes.Target p.writes

  -- into a function, with the exit place as its return address
  abbrev pub enters : ℤ → Option ℕ → Path D → Expanded D
  enters top (Some f) p = after_store d image (put_in d regions.Stack top top B32 (d.number EXIT_PLACE) p) (λ q. lands f (with_result top d.any q))
  enters top None p = stopped causes.Target p.writes

  abbrev pub replies : ℤ → Stub → Reply → Known D → Path D → Expanded D
  replies o stub (Enter i) s p = enters (o -ℤ pos 4) (d.number_of (argument_value o i s)) p
  replies o stub reply s p = returns_to o (o +ℤ pos (4 + stub.cleans)) reply (d.number_of (return_value o s)) s p

  -- ---- the whole

  -- the stack pointer at an offset
  abbrev pub calls_at : Stub → ℤ → Known D → Expanded D
  calls_at stub o s =
      let end = o +ℤ pos (frame_size stub) in
      if lies_in_extent regions.Stack o end
      then after_store d image (with_writes o stub.writes.items s) (λ p. replies o stub stub.reply s (freed end p))
      else ended []

  abbrev pub calls : Stub → Option ℤ → Known D → Expanded D
  calls stub (Some o) s = calls_at stub o s
  calls stub None s = stopped causes.Target []

  -- a call of a function that does not return leads nowhere
  abbrev pub expand_call : Stub → Reply → Known D → Expanded D
  expand_call stub Never s = ended []
  expand_call stub _ s = calls stub (stack_offset (d.reach s.regs.esp)) s

  abbrev pub expand_import : Option Stub → Known D → Expanded D
  expand_import None s = stopped causes.NoStub []
  expand_import (Some stub) s = expand_call stub stub.reply s

  -- the expansion of a row at the place of an import
  unfoldable pub expand_stub : StatedStubs → List ℕ → Known D → Expanded D
  expand_stub stubs name s = expand_import (stub_named name stubs) s

  -- the same at the place of the import
  abbrev pub expand_at : StatedStubs → ℕ → Known D → Expanded D
  expand_at stubs place s = option_map_or (λ name. expand_stub stubs name s) (name_at image place) (ended [])
