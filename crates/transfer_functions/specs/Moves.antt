-- Moves, exchanges, sign extensions and the stack, read with values: beside `x86_semantics/specs/Moves`.
use Rattle.std.specs.Prelude.{ℕ}
use Rattle.bit_words.specs.declared.width.Width.{Width}
use Rattle.bit_words.specs.declared.width.Width.TheVariants.{B32}
use Rattle.bit_words.specs.declared.op.Op.{Op}
use Rattle.memory_map.specs.Image.{Image}
use Rattle.memory_map.specs.declared.registers.TheConstants.{ESP, EBP}
use Rattle.domain_laws.specs.Laws.{Values}
use Rattle.x86_syntax.specs.declared.instr.Address.{Address}
use Rattle.x86_syntax.specs.declared.instr.Cond.{Cond}
use Rattle.x86_syntax.specs.declared.instr.Operand.{Operand}
use Rattle.abstract_state.specs.Flags.{truth_met}
use Rattle.abstract_state.specs.State.{Known}
use Rattle.abstract_state.specs.Expanding.{Expanded, Path, lands}
use Rattle.abstract_state.specs.Accessing.{loading, storing}
use Rattle.transfer_functions.specs.Values.{above, below, either_way, offset_value, on_state, part, reading, register_value, value_of_truth, with_part, with_register, writing}

abbrev pub stack_pointer : {D : Type 0} → Known D → D
stack_pointer s = register_value ESP s

module _ {D : Type 0} (d : Values D) (image : Image) where
  abbrev pub move : Operand → Operand → ℕ → Path D → Expanded D
  move to from next p = reading d image p from (λ v. writing d image p to v (λ q. lands next q))

  abbrev pub convert : Op → Width → Operand → Operand → ℕ → ℕ → Path D → Expanded D
  convert op w to from by next p =
      reading d image p from (λ v. writing d image p to (d.eval op w v (d.number by) image.align) (λ q. lands next q))

  abbrev pub lea : Operand → Address → ℕ → Path D → Expanded D
  lea to address next p = writing d image p to (offset_value d image.align address p.state) (λ q. lands next q)

  abbrev pub exchange : Operand → Width → ℕ → ℕ → Path D → Expanded D
  exchange place w r next p =
      reading d image p place (λ a. writing d image p place (part d image.align w r p.state) (λ q. lands next (on_state (with_part d image.align w r a) q)))

  -- any where the condition is unknown
  abbrev pub set : Cond → Operand → ℕ → Path D → Expanded D
  set c to next p = writing d image p to (value_of_truth d (truth_met c p.state.flags)) (λ q. lands next q)

  -- the source is read whether it moves or not; where that is unknown, first it moves and then it does not, and neither state is refined
  abbrev pub move_if : Cond → Operand → Operand → ℕ → Path D → Expanded D
  move_if c to from next p =
      reading d image p from (λ v. either_way (truth_met c p.state.flags) (writing d image p to v (λ q. lands next q)) (lands next p))

  -- ---- the stack

  -- where the next word of the stack goes
  abbrev pub word_below : Known D → D
  word_below s = below d image.align (stack_pointer s) (d.number 4)

  -- a word stored below ESP, and then ESP moved there
  abbrev pub pushing : Path D → D → (Path D → Expanded D) → Expanded D
  pushing p v k = storing d image p B32 (word_below p.state) v (λ q. k (on_state (with_register ESP (word_below p.state)) q))

  -- the source is read first: PUSH ESP stores the old one
  abbrev pub push : Operand → ℕ → Path D → Expanded D
  push from next p = reading d image p from (λ v. pushing p v (λ q. lands next q))

  -- ESP past a popped word
  abbrev pub past_word : Known D → D
  past_word s = above d image.align (stack_pointer s) (d.number 4)

  abbrev pub popped : Known D → Known D
  popped s = with_register ESP (past_word s) s

  -- a popped word put where it goes, with ESP past it: the address of memory uses the new ESP, and POP ESP keeps the word
  abbrev pub pop_into : Operand → D → ℕ → Path D → Expanded D
  pop_into to v next p = writing d image (on_state popped p) to v (λ q. lands next q)

  abbrev pub pop : Operand → ℕ → Path D → Expanded D
  pop to next p = loading d image p B32 (stack_pointer p.state) (λ v. pop_into to v next p)

  -- ESP is EBP, and then EBP is popped
  abbrev pub leave : ℕ → Path D → Expanded D
  leave next p =
      loading d image p B32 (register_value EBP p.state) (λ v.
      lands next (on_state (λ s. with_register EBP v (with_register ESP (above d image.align (register_value EBP s) (d.number 4)) s)) p))
