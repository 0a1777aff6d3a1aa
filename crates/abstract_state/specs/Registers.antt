-- Values of the general-purpose registers.
use Rattle.std.specs.Prelude.{ℕ, ◌&&◌, Bool}
use Rattle.address_regions.specs.Places.{Places}
use Rattle.domain_laws.specs.Laws.{Values}
use Rattle.memory_map.specs.declared.registers.Regs.{Regs}

module _ {D : Type 0} (d : Values D) where
  -- each register holds a number for which its value stands
  pub record RegistersStand (g : Regs D) (p : Places) (m : Regs ℕ) : Type 0 where
    pub eax : d.stands g.eax p m.eax
    pub ecx : d.stands g.ecx p m.ecx
    pub edx : d.stands g.edx p m.edx
    pub ebx : d.stands g.ebx p m.ebx
    pub esp : d.stands g.esp p m.esp
    pub ebp : d.stands g.ebp p m.ebp
    pub esi : d.stands g.esi p m.esi
    pub edi : d.stands g.edi p m.edi

  -- every register of the second is below that of the first
  abbrev pub covers_registers : Regs D → Regs D → Bool
  covers_registers t s =
      d.leq s.eax t.eax && d.leq s.ecx t.ecx && d.leq s.edx t.edx && d.leq s.ebx t.ebx && d.leq s.esp t.esp && d.leq s.ebp t.ebp && d.leq s.esi t.esi && d.leq s.edi t.edi
