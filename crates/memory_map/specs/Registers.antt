-- The eight general-purpose registers by their numbers: EAX ECX EDX EBX ESP EBP ESI EDI (manual, volume 2, section 3.1.1.1).
use Rattle.std.specs.Prelude.{ℕ, ◌==◌, if◌then◌else◌}
use Rattle.memory_map.specs.declared.registers.Regs.{Regs}

-- the same value for each
abbrev pub every_register : {V : Type 0} → V → Regs V
every_register v = record { eax = v; ecx = v; edx = v; ebx = v; esp = v; ebp = v; esi = v; edi = v }

-- the value of the register of a number, 0 to 7; above it, that of EDI
unfoldable pub register : {V : Type 0} → Regs V → ℕ → V
register g r =
    if r == 0 then g.eax
    else if r == 1 then g.ecx
    else if r == 2 then g.edx
    else if r == 3 then g.ebx
    else if r == 4 then g.esp
    else if r == 5 then g.ebp
    else if r == 6 then g.esi
    else g.edi

-- another value in the register of a number; above 7 nothing changes
unfoldable pub with_register : {V : Type 0} → Regs V → ℕ → V → Regs V
with_register g r v = record {
  eax = if r == 0 then v else g.eax;
  ecx = if r == 1 then v else g.ecx;
  edx = if r == 2 then v else g.edx;
  ebx = if r == 3 then v else g.ebx;
  esp = if r == 4 then v else g.esp;
  ebp = if r == 5 then v else g.ebp;
  esi = if r == 6 then v else g.esi;
  edi = if r == 7 then v else g.edi;
}
