-- Exchanges with a comparison or a sum, read with values: beside `x86_semantics/specs/Exchanges`.
use Rattle.std.specs.Prelude.{ℕ, if◌then◌else◌}
use Rattle.bit_words.specs.declared.width.Width.{Width}
use Rattle.bit_words.specs.declared.op.Op.TheVariants.{Add, Sub, Eq}
use Rattle.memory_map.specs.Image.{Image}
use Rattle.memory_map.specs.declared.registers.TheConstants.{EAX}
use Rattle.domain_laws.specs.Laws.{Values}
use Rattle.x86_syntax.specs.declared.instr.Operand.{Operand}
use Rattle.x86_syntax.specs.declared.instr.Operand.TheVariants.{Memory}
use Rattle.x86_semantics.specs.declared.flag_rule.FlagRule.TheVariants.{Sum, Difference}
use Rattle.x86_semantics.specs.Exchanges.{is_register_numbered}
use Rattle.abstract_state.specs.Expanding.{Expanded, Path}
use Rattle.transfer_functions.specs.Values.{either_way, on_state, part, with_part, reading, writing}
use Rattle.transfer_functions.specs.Flags.{by_operator}
use Rattle.transfer_functions.specs.Arithmetic.{flagged}
use Rattle.transfer_functions.specs.Products.{accumulator}

module _ {D : Type 0} (d : Values D) (image : Image) where
  -- the flags of the accumulator less a value; no comparison is noted
  abbrev pub compared_to : Width → D → D → ℕ → Path D → Expanded D
  compared_to w acc a next p = flagged d image Difference w acc a (d.eval Sub w acc a image.align) next p

  -- where both are equal the place takes the register
  abbrev pub exchanged : Operand → Width → ℕ → D → D → ℕ → Path D → Expanded D
  exchanged place w r acc a next p = writing d image p place (part d image.align w r p.state) (λ q. compared_to w acc a next q)

  -- else the accumulator takes the place: memory is stored to with its old value, and a register is left as it is
  abbrev pub taken : Width → D → D → ℕ → Path D → Expanded D
  taken w acc a next p = compared_to w acc a next (on_state (with_part d image.align w EAX a) p)

  abbrev pub not_exchanged : Operand → Width → D → D → ℕ → Path D → Expanded D
  not_exchanged (Memory v address) w acc a next p = writing d image p (Memory v address) a (λ q. taken w acc a next q)
  not_exchanged place w acc a next p = taken w acc a next p

  -- where it is unknown whether both are equal, first they are and then they are not, and neither state is refined
  abbrev pub compare_exchange : Operand → Width → ℕ → ℕ → Path D → Expanded D
  compare_exchange place w r next p =
      reading d image p place (λ a.
      let acc = accumulator d image.align w p.state in
      either_way (by_operator d image.align Eq w acc a) (exchanged place w r acc a next p) (not_exchanged place w acc a next p))

  -- the place takes the sum and the register the place's old value; one register twice takes the sum
  abbrev pub exchange_add : Operand → Width → ℕ → ℕ → Path D → Expanded D
  exchange_add place w r next p =
      reading d image p place (λ a.
      let b = part d image.align w r p.state in
      let sum = d.eval Add w a b image.align in
      writing d image p place sum (λ q.
      flagged d image Sum w a b sum next (on_state (with_part d image.align w r (if is_register_numbered r place then sum else a)) q)))
