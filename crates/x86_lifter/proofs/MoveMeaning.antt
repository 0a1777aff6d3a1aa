-- Moves, exchanges and the stack: the statements do what the instruction does.
use Rattle.std.proofs.Common.{◌≡◌, ℕ, ◌+◌, ◌%◌, ◌^◌, Bool, true, false, cond, [], ◌∷◌, ◌++◌, drop, Option, Some, None, refl, sym, ap, subst, ◌∙◌, ◌*◌, arith, ◌==◌}
use Rattle.std.proofs.lemmas.Bool.{eqb-true}
use Rattle.bit_words.specs.declared.width.Width.{Width}
use Rattle.bit_words.specs.declared.width.Width.TheVariants.{B32}
use Rattle.bit_words.specs.declared.op.Op.{Op}
use Rattle.bit_words.specs.declared.op.Op.TheVariants.{Add, Mul}
use Rattle.bit_words.specs.Operators.{apply_op, one_if}
use Rattle.memory_map.specs.declared.choice.Choice.{Choice}
use Rattle.memory_map.specs.State.{MachineState}
use Rattle.memory_map.specs.declared.registers.Regs.{Regs}
use Rattle.memory_map.specs.Registers as regs
use Rattle.memory_map.specs.declared.registers.TheConstants.{ESP}
use Rattle.x86_syntax.specs.declared.instr.Address.{Address}
use Rattle.x86_syntax.specs.declared.instr.Cond.{Cond}
use Rattle.x86_syntax.specs.declared.instr.Seg.{Seg}
use Rattle.x86_syntax.specs.declared.instr.Seg.TheVariants.{Plain, Fs, Gs}
use Rattle.x86_syntax.specs.declared.instr.Operand.{Operand}
use Rattle.x86_syntax.specs.declared.instr.Operand.TheVariants.{Register, Number, Memory, Offset}
use Rattle.x86_semantics.specs.Condition.{is_met}
use Rattle.x86_semantics.specs.Registers.{register, with_register, part}
use Rattle.x86_semantics.specs.Operands.{Next, at_address, address_of, offset_in_segment, segment_base, base_part, index_part}
use Rattle.x86_semantics.specs.Moves.{move, convert, lea, exchange, set, move_if, push, pop, pop_into, popped, above, leave}
use Rattle.statement_lang.specs.declared.stmt.Source.TheVariants as sources
use Rattle.statement_lang.specs.declared.stmt.Stmt.TheVariants.{Copy, Store, Goto}
use Rattle.statement_lang.specs.Run.{Temps, run, run_from, value_of}
use Rattle.x86_lifter.specs.Pieces.{places, keeping, base_source, index_source, scale_of}
use Rattle.x86_lifter.specs.Lists.{none, moving, converting, plain, leaing, exchanging, setting, moving_if, pushing_list, popping, popping_into, with_new_esp, esp, leaving}
use Rattle.x86_lifter.proofs.Places.{place, placed, temps, address-sums}
use Rattle.x86_lifter.proofs.Values.{run-one, run-second, fetched-register, kept-register, kept, kept-first, reading-same, writing-same, loading-same, inside}

pub moved : (to from : Operand) (next : ℕ) (c : Choice) (m : MachineState) → run (places to from ++ moving to from next) c m ≡ move to from next m
moved to from next c m =
    run-second to from (drop 1 (moving to from next)) c m
    ∙ reading-same m from _ _ (λ v. kept-first to 3 (Goto (sources.Number next) ∷ []) c m (place m from) 0 v 0 0 0)

pub converted : (op : Op) (w : Width) (to from : Operand) (by next : ℕ) (c : Choice) (m : MachineState)
    → run (places to from ++ converting op w to from by next) c m ≡ convert op w to from by next m
converted op w to from by next c m =
    run-second to from (drop 1 (converting op w to from by next)) c m
    ∙ reading-same m from _ _ (λ v. kept-first to 4 (Goto (sources.Number next) ∷ []) c m (place m from) 0 v (apply_op op w v by) 0 0)

-- the address of an operand without a segment is its offset
plain-address : (a : Address) (m : MachineState) → address_of (record a { seg = Plain }) m ≡ offset_in_segment a m
unfolding address_of offset_in_segment
plain-address a m = omega arith

pub lea-done : (to : Operand) (a : Address) (next : ℕ) (c : Choice) (m : MachineState) → run (places to (plain a) ++ leaing to next) c m ≡ lea to a next m
unfolding run
lea-done to a next c m =
    placed to (plain a) (leaing to next) c m
    ∙ ap (λ x. run_from (leaing to next) 0 c m (temps (place m to) x 0 0 0 0 0)) (plain-address a m)
    ∙ kept-first to 1 (Goto (sources.Number next) ∷ []) c m (offset_in_segment a m) 0 0 0 0 0

pub exchanged : (at : Operand) (w : Width) (r next : ℕ) (c : Choice) (m : MachineState)
    → run (places at none ++ exchanging at w r next) c m ≡ exchange at w r next m
exchanged at w r next c m =
    run-one at none (drop 1 (exchanging at w r next)) c m
    ∙ reading-same m at _ _ (λ a.
    fetched-register w r 3 (drop 2 (exchanging at w r next)) c m (temps (place m at) 0 a 0 0 0 0)
    ∙ kept-first at 3 (drop 3 (exchanging at w r next)) c m 0 a (part w r m) 0 0 0
    ∙ writing-same m at (part w r m) _ _ (λ n. kept-register w r 2 (Goto (sources.Number next) ∷ []) c n (temps (place m at) 0 a (part w r m) 0 0 0)))

pub set-done : (cc : Cond) (to : Operand) (next : ℕ) (c : Choice) (m : MachineState) → run (places to none ++ setting cc to next) c m ≡ set cc to next m
unfolding run
set-done cc to next c m =
    placed to none (setting cc to next) c m
    ∙ inside (λ n. run_from (keeping to 0 2 ∷ Goto (sources.Number next) ∷ []) 0 c m (temps (place m to) 0 n 0 0 0 0)) (is_met cc m.flags) 1 0
    ∙ kept-first to 2 (Goto (sources.Number next) ∷ []) c m 0 (one_if (is_met cc m.flags)) 0 0 0 0

pub moved-if : (cc : Cond) (to from : Operand) (next : ℕ) (c : Choice) (m : MachineState) → run (places to from ++ moving_if cc to from next) c m ≡ move_if cc to from next m
moved-if cc to from next c m =
    run-second to from (drop 1 (moving_if cc to from next)) c m
    ∙ reading-same m from _ _ (λ v. ap (λ x. cond (is_met cc m.flags) x (Next (at_address next m))) (kept-first to 3 (Goto (sources.Number next) ∷ []) c m (place m from) 0 v 0 0 0))

-- ---- the stack

pub pushed : (from : Operand) (next : ℕ) (c : Choice) (m : MachineState) → run (places from none ++ pushing_list from next) c m ≡ push from next m
pushed from next c m = run-one from none (drop 1 (pushing_list from next)) c m

pub left : (next : ℕ) (c : Choice) (m : MachineState) → run (leaving next) c m ≡ leave next m
unfolding run
left next c m = refl

-- a register when ESP has another value
with-esp : (k v : ℕ) (g : Regs ℕ) (b : Bool) → (k == ESP) ≡ b → regs.register (regs.with_register g ESP v) k ≡ cond b v (regs.register g k)
unfolding regs.register regs.with_register
with-esp k v g true is = (let P : ℕ → Type 0 = λ j. regs.register (regs.with_register g ESP v) j ≡ v in subst P (sym (eqb-true k ESP is)) refl)
with-esp k v g false is = rw is refl

new-esp : (r e : ℕ) (m : MachineState) (t : Temps) (b : Bool) → (r % 8 == ESP) ≡ b → value_of m t (sources.Temp 3) ≡ e
    → value_of m t (cond b (sources.Temp 3) (sources.Register r)) ≡ register r (with_register ESP e m)
unfolding register with_register
new-esp r e m t true is at = at ∙ sym (with-esp (r % 8) e m.registers true is)
new-esp r e m t false is at = sym (with-esp (r % 8) e m.registers false is)

new-base : (o : Option ℕ) (e : ℕ) (m : MachineState) (t : Temps) → value_of m t (sources.Temp 3) ≡ e → value_of m t (with_new_esp (base_source o)) ≡ base_part o (with_register ESP e m)
new-base None e m t at = refl
new-base (Some r) e m t at = new-esp r e m t (r % 8 == ESP) refl at

new-index : (o : Option (ℕ × ℕ)) (e : ℕ) (m : MachineState) (t : Temps) → value_of m t (sources.Temp 3) ≡ e
    → value_of m t (with_new_esp (index_source o)) * scale_of o ≡ index_part o (with_register ESP e m)
new-index None e m t at = refl
new-index (Some p) e m t at = ap (λ x. x * p.1) (new-esp p.0 e m t (p.0 % 8 == ESP) refl at)

-- no segment's base is a register
same-base : (seg : Seg) (r v : ℕ) (m : MachineState) → segment_base seg m ≡ segment_base seg (with_register r v m)
unfolding with_register
same-base Plain r v m = refl
same-base Fs r v m = refl
same-base Gs r v m = refl

-- the address by the new ESP, which is in the temporary 3
new-address : (a : Address) (e : ℕ) (m : MachineState) (t u : Temps) → value_of m t (sources.Temp 3) ≡ e → value_of m u (sources.Temp 3) ≡ e
    → apply_op Add B32 (apply_op Add B32 (apply_op Add B32 (apply_op Mul B32 (value_of m t (with_new_esp (index_source a.index))) (scale_of a.index)) (value_of m u (with_new_esp (base_source a.base)))) a.disp) (segment_base a.seg m)
    ≡ address_of a (with_register ESP e m)
unfolding address_of
new-address a e m t u at there =
    address-sums a (with_register ESP e m) (value_of m t (with_new_esp (index_source a.index))) (value_of m u (with_new_esp (base_source a.base))) (segment_base a.seg m) (new-index a.index e m t at) (new-base a.base e m u there)
    ∙ ap (λ x. (x + offset_in_segment a (with_register ESP e m)) % 2 ^ 32) (same-base a.seg ESP e m)

-- the popped word and the new ESP are in the temporaries 2 and 3
popped-into : (to : Operand) (v next : ℕ) (c : Choice) (m : MachineState)
    → run_from (popping_into to next) 0 c m (temps 0 0 v (above (register ESP m) 4) 0 0 0) ≡ pop_into to v next m
popped-into (Register w r) v next c m =
    kept (Register w r) 0 2 (Goto (sources.Number next) ∷ []) c (popped m) (temps 0 0 v (above (register ESP m) 4) 0 0 0) refl
popped-into (Number w n) v next c m = refl
popped-into (Offset o) v next c m = refl
popped-into (Memory w a) v next c m =
    let e = above (register ESP m) 4 in
    let t = temps 0 0 v e 0 0 0 in
    let scaled = apply_op Mul B32 (value_of m t (with_new_esp (index_source a.index))) (scale_of a.index) in
    ap (λ x. run_from (Store (sources.Temp 0) w (sources.Temp 2) ∷ Copy esp (sources.Temp 3) ∷ Goto (sources.Number next) ∷ []) 0 c m (temps x 0 v e 0 0 0))
    (new-address a e m t (temps scaled 0 v e 0 0 0) refl refl)

pub popped-to : (to : Operand) (next : ℕ) (c : Choice) (m : MachineState) → run (popping (popping_into to next)) c m ≡ pop to next m
unfolding run
popped-to to next c m = loading-same m B32 (register ESP m) _ _ (λ v. popped-into to v next c m)
