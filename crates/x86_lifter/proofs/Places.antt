-- The addresses of operands, computed by statements.
use Rattle.std.proofs.Common.{◌≡◌, ℕ, ◌+◌, ◌*◌, ◌%◌, ◌^◌, List, [], ◌∷◌, ◌++◌, Option, Some, None, refl, ◌∙◌, ap, arith, append_assoc}
use Rattle.std.proofs.lemmas.Nat.{mul-mod_first}
use native.Mathlib.Nat.{mul_comm as mul-comm}
use Rattle.bit_words.specs.declared.width.Width.TheVariants.{B32}
use Rattle.bit_words.specs.declared.op.Op.TheVariants.{Add, Mul}
use Rattle.bit_words.specs.Operators.{apply_op, formula}
use Rattle.memory_map.specs.declared.choice.Choice.{Choice}
use Rattle.memory_map.specs.State.{MachineState}
use Rattle.x86_syntax.specs.declared.instr.Address.{Address}
use Rattle.x86_syntax.specs.declared.instr.Operand.{Operand}
use Rattle.x86_syntax.specs.declared.instr.Operand.TheVariants.{Register, Number, Memory, Offset}
use Rattle.x86_semantics.specs.Operands.{address_of, offset_in_segment, segment_base, base_part, index_part}
use Rattle.statement_lang.specs.declared.stmt.Stmt.{Stmt}
use Rattle.statement_lang.specs.Run.{Temps, zeros, value_of, run_from}
use Rattle.x86_lifter.specs.Pieces.{base_source, index_source, scale_of, placing, places}

-- the address of an operand in memory, and 0 for another
abbrev pub place : MachineState → Operand → ℕ
place m (Memory w a) = address_of a m
place m _ = 0

product-mod : (a b n : ℕ) → a % n * (b % n) % n ≡ a * b % n
product-mod a b n =
    mul-mod_first a (b % n) n ∙ ap (λ x. x % n) (mul-comm a (b % n)) ∙ mul-mod_first b a n ∙ ap (λ x. x % n) (mul-comm b a)

-- base + index * scale + displacement, and the segment's base, all modulo 2^32
pub sums : (index scale base disp seg : ℕ)
    → apply_op Add B32 (apply_op Add B32 (apply_op Add B32 (apply_op Mul B32 index scale) base) disp) seg ≡ (seg + (base + index * scale + disp) % 2 ^ 32) % 2 ^ 32
unfolding apply_op formula
sums index scale base disp seg =
    let p : index % 2 ^ 32 * (scale % 2 ^ 32) % 2 ^ 32 ≡ index * scale % 2 ^ 32 = product-mod index scale (2 ^ 32) in
    omega arith

pub base-is : (m : MachineState) (t : Temps) (o : Option ℕ) → value_of m t (base_source o) ≡ base_part o m
base-is m t None = refl
base-is m t (Some r) = refl

pub index-is : (m : MachineState) (t : Temps) (o : Option (ℕ × ℕ)) → value_of m t (index_source o) * scale_of o ≡ index_part o m
index-is m t None = refl
index-is m t (Some p) = refl

pub address-sums : (a : Address) (m : MachineState) (index base seg : ℕ) → index * scale_of a.index ≡ index_part a.index m → base ≡ base_part a.base m
    → apply_op Add B32 (apply_op Add B32 (apply_op Add B32 (apply_op Mul B32 index (scale_of a.index)) base) a.disp) seg ≡ (seg + offset_in_segment a m) % 2 ^ 32
unfolding offset_in_segment
address-sums a m index base seg i b =
    sums index (scale_of a.index) base a.disp seg ∙ ap (λ x. (seg + (x + index * scale_of a.index + a.disp) % 2 ^ 32) % 2 ^ 32) b
    ∙ ap (λ x. (seg + (base_part a.base m + x + a.disp) % 2 ^ 32) % 2 ^ 32) i

addressed : (a : Address) (m : MachineState) (t u : Temps)
    → apply_op Add B32 (apply_op Add B32 (apply_op Add B32 (apply_op Mul B32 (value_of m t (index_source a.index)) (scale_of a.index)) (value_of m u (base_source a.base))) a.disp) (segment_base a.seg m) ≡ address_of a m
unfolding address_of
addressed a m t u = address-sums a m _ _ (segment_base a.seg m) (index-is m t a.index) (base-is m u a.base)

abbrev scaled : Address → MachineState → Temps → ℕ
scaled a m t = apply_op Mul B32 (value_of m t (index_source a.index)) (scale_of a.index)

placed-first : (op : Operand) (rest : List Stmt) (c : Choice) (m : MachineState) (r : Temps) → run_from (placing 0 op ++ rest) 0 c m (0 ∷ r) ≡ run_from rest 0 c m (place m op ∷ r)
placed-first (Register w k) rest c m r = refl
placed-first (Number w n) rest c m r = refl
placed-first (Offset o) rest c m r = refl
placed-first (Memory w a) rest c m r = ap (λ x. run_from rest 0 c m (x ∷ r)) (addressed a m (0 ∷ r) (scaled a m (0 ∷ r) ∷ r))

placed-second : (op : Operand) (rest : List Stmt) (c : Choice) (m : MachineState) (p : ℕ) (r : Temps)
    → run_from (placing 1 op ++ rest) 0 c m (p ∷ 0 ∷ r) ≡ run_from rest 0 c m (p ∷ place m op ∷ r)
placed-second (Register w k) rest c m p r = refl
placed-second (Number w n) rest c m p r = refl
placed-second (Offset o) rest c m p r = refl
placed-second (Memory w a) rest c m p r = ap (λ x. run_from rest 0 c m (p ∷ x ∷ r)) (addressed a m (p ∷ 0 ∷ r) (p ∷ scaled a m (p ∷ 0 ∷ r) ∷ r))

-- seven temporaries, and the others still 0
abbrev pub temps : ℕ → ℕ → ℕ → ℕ → ℕ → ℕ → ℕ → Temps
temps t0 t1 t2 t3 t4 t5 t6 = t0 ∷ t1 ∷ t2 ∷ t3 ∷ t4 ∷ t5 ∷ t6 ∷ 0 ∷ 0 ∷ 0 ∷ 0 ∷ 0 ∷ 0 ∷ 0 ∷ 0 ∷ 0 ∷ []

-- the temporaries when the addresses of two operands are there
abbrev pub placed_temps : MachineState → Operand → Operand → Temps
placed_temps m x y = temps (place m x) (place m y) 0 0 0 0 0

pub placed : (x y : Operand) (rest : List Stmt) (c : Choice) (m : MachineState) → run_from (places x y ++ rest) 0 c m zeros ≡ run_from rest 0 c m (placed_temps m x y)
placed x y rest c m =
    ap (λ list. run_from list 0 c m zeros) (append_assoc (placing 0 x) (placing 1 y) rest)
    ∙ placed-first x (placing 1 y ++ rest) c m (0 ∷ 0 ∷ 0 ∷ 0 ∷ 0 ∷ 0 ∷ 0 ∷ 0 ∷ 0 ∷ 0 ∷ 0 ∷ 0 ∷ 0 ∷ 0 ∷ 0 ∷ [])
    ∙ placed-second y rest c m (place m x) (0 ∷ 0 ∷ 0 ∷ 0 ∷ 0 ∷ 0 ∷ 0 ∷ 0 ∷ 0 ∷ 0 ∷ 0 ∷ 0 ∷ 0 ∷ 0 ∷ [])
